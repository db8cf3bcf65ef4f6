-- `slots::holds` meets its contract, by what `bit` ensures. Assumes nothing.
use Prim.Native.Nat.{ℕ, ◌/◌, ◌%◌}
use mathlib.Core.Path.{ap}
use lib.Dec.{eqb}
use Rattle.octets.proofs.Sets.{bit_pos}
use Rattle.slots.proofs.holds.Goals as goal

pub nonzero_div-result : goal.nonzero_div-result
nonzero_div-result c = bit_pos c.args.place _ c.bit.ensures

pub returns : goal.returns
returns c = ap (λ (b : ℕ). eqb (c.args.held / b % 2) 1) c.bit.ensures

-- `fields::bit_at` meets its contract: the shift brings one bit of the byte to its end, and nothing is shifted out. Assumes nothing.
use mathlib.Core.Path.{sym, ap, ◌∙◌}
use Prim.Native.Nat.{ℕ, ◌-◌, ◌/◌, ◌%◌}
use native.Mathlib.Omega.{arith}
use lib.ListN.{get_or}
use Rattle.octets.proofs.Sets.{bit_exact, bit_pos}
use Rattle.octets.proofs.Tables.{bit_in_byte}
use Rattle.fields.proofs.bit_at.Goals as goal

pub nonzero_div-result : goal.nonzero_div-result
nonzero_div-result c = let behind : ℕ = 7 - c.args.at % 8 in
    bit_pos behind _ (bit_exact 8 behind (omega arith))

pub returns-clause-value : goal.returns-clause-value
returns-clause-value c = let a = c.args in
    let byte : ℕ = get_or a.bytes.now (a.at / 8) 0 in
    ap (λ (b : ℕ). byte / b % 2) (bit_exact 8 (7 - a.at % 8) (omega arith)) ∙ sym (bit_in_byte a.bytes.now a.at c.requires)

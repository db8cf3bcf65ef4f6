-- `fields::number_at` meets its contract. The loop's invariant: the number is that in the bits passed, and below 2 to the power of how many they are, at
-- most 16. Assumes nothing.
use mathlib.Core.Path.{sym}
use Prim.Native.Nat.{◌≤◌}
use native.Mathlib.Nat.{pow-suc}
use native.Mathlib.Numerals.{add-one}
use native.Mathlib.Omega.{arith}
use lib.Pow.{pow_mono}
use Rattle.octets.proofs.Tables.{number_none, number_next, length-run-bits}
use Rattle.fields.proofs.number_at.Goals as goal

pub loop-i-init : goal.loop-i-init
loop-i-init c = (omega arith, sym (number_none c.args.bytes.now c.args.from))

pub overflow_mul-number : goal.overflow_mul-number
overflow_mul-number c = let few : c.loop-i.i ≤ 16 = omega arith in
    omega (arith, pow_mono few)

pub overflow_add-number : goal.overflow_add-number
overflow_add-number c = let few : c.loop-i.i ≤ 16 = omega arith in
    omega (arith, pow_mono few)

pub loop-i-preserved : goal.loop-i-preserved
loop-i-preserved c = let a = c.args in
    let l = c.loop-i in
    rw (add-one l.i)
    (omega (arith, pow-suc 2 l.i), omega (arith, number_next a.bytes.now a.from l.i (omega (arith, length-run-bits a.bytes.now))))

-- `fields::sum_before` meets its contract. The loop's invariant: the bits passed are those before the row. Assumes nothing.
use mathlib.Core.Path.{◌≡◌, sym}
use mathlib.Core.List.{map}
use Prim.Native.Nat.{◌<◌}
use native.Mathlib.Omega.{arith}
use lib.ListN.{length-take}
use Rattle.std.proofs.lemmas.List.{get_or-take}
use Rattle.fields.specs.Fields.{bits_of}
use Rattle.fields.proofs.Rows.{before_none, before_more, width_of-row}
use Rattle.fields.proofs.sum_before.Goals as goal

pub loop-width-init : goal.loop-width-init
loop-width-init c = record { passed = sym (before_none _); small = omega arith }

pub loop-width-preserved : goal.loop-width-preserved
loop-width-preserved c = let a = c.args in
    let i = c.loop-width.width-index in
    let rows = a.rows.now in
    let inside : i < a.row = omega (arith, length-take a.row rows) in
    let width = width_of-row a.n rows i _ (omega arith) (rw (get_or-take a.row rows i _ inside) at c.bits-at.ensures.value) in
    record { passed = omega (arith, before_more (map (bits_of a.n) rows) i c.bits-at.result width); small = omega arith }

pub returns-clause-value : goal.returns-clause-value
returns-clause-value c = let a = c.args in
    let done : c.loop-width.width-index ≡ a.row = omega (arith, length-take a.row a.rows.now) in
    rw done at c.loop-width.invariant.passed

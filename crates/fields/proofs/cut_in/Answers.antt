-- `fields::cut_in` meets its contract. The loop's invariant: the bits passed are those before the row, which lies no further than the one that is sought.
-- Assumes nothing.
use mathlib.Core.Path.{◌≡◌, sym}
use mathlib.Core.List.{List, map}
use Prim.Native.Nat.{ℕ}
use native.Mathlib.Omega.{arith}
use lib.ListN.{length, get_or, length-map}
use Rattle.octets.specs.Tables.{before, first_not_whole}
use Rattle.octets.proofs.Tables.{not_whole_most}
use Rattle.fields.specs.Fields.{bits_of, cut_in}
use Rattle.fields.proofs.Rows.{before_none, before_more, width_of-row, here, behind}
use Rattle.fields.proofs.cut_in.Goals as goal

-- the place of a row that is the one sought
place : (ws : List ℕ) (n i at : ℕ) → first_not_whole ws n ≡ i → at ≡ before i ws → record { row = i; at = at } ≡ cut_in ws n
place ws n i at is there =
    let row : i ≡ first_not_whole ws n = sym is in
    let bits : at ≡ before (first_not_whole ws n) ws = rw (← row) there in
    λ j. record { row = row j; at = bits j }

pub loop-row-init : goal.loop-row-init
loop-row-init c = record { passed = sym (before_none _); whole = omega arith; small = omega arith }

pub returns-then-bits-end-clause-value : goal.returns-then-bits-end-clause-value
returns-then-bits-end-clause-value c = let a = c.args in
    let l = c.loop-row in
    let ws : List ℕ = map (bits_of a.n) a.rows.now in
    let width : get_or ws l.row 0 ≡ c.bits.result = width_of-row a.n a.rows.now l.row _ c.loop-row-test.true c.bits.ensures.value in
    place ws a.bits l.row l.at (here ws a.bits l.row l.invariant.whole (omega arith)) l.invariant.passed

pub loop-row-preserved : goal.loop-row-preserved
loop-row-preserved c = let a = c.args in
    let l = c.loop-row in
    let rows = a.rows.now in
    let ws : List ℕ = map (bits_of a.n) rows in
    let width : get_or ws l.row 0 ≡ c.bits.result = width_of-row a.n rows l.row _ c.loop-row-test.true c.bits.ensures.value in
    record {
      passed = omega (arith, before_more ws l.row c.bits.result width);
      whole = behind ws a.bits l.row l.invariant.whole (omega (arith, length-map rows (bits_of a.n))) (omega arith);
      small = omega arith;
    }

pub returns-clause-value : goal.returns-clause-value
returns-clause-value c = let a = c.args in
    let l = c.loop-row in
    let rows = a.rows.now in
    let ws : List ℕ = map (bits_of a.n) rows in
    let done : l.row ≡ length rows = omega arith in
    place ws a.bits (length rows) l.at
    (omega (arith, not_whole_most ws a.bits, length-map rows (bits_of a.n), l.invariant.whole))
    (rw (← done) l.invariant.passed)

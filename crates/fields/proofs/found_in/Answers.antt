-- `fields::found_in` meets its contract, by those of the two that it calls. Assumes nothing.
use mathlib.Core.Path.{◌≡◌}
use mathlib.Core.List.{List}
use Prim.Native.Nat.{ℕ}
use native.Mathlib.Omega.{arith}
use lib.ListN.{get_or}
use Rattle.octets.specs.Tables.{before, number_at}
use Rattle.fields.specs.Fields.{found_in}
use Rattle.fields.proofs.Rows.{width_of-row}
use Rattle.fields.proofs.found_in.Goals as goal

-- where the bits passed are those before the row, and the width is the row's
row : (ws xs : List ℕ) (i at w v : ℕ) → at ≡ before i ws → get_or ws i 0 ≡ w → v ≡ number_at xs at w → record { at = at; value = v } ≡ found_in ws i xs
row ws xs i at w v there width is =
    let value : v ≡ number_at xs (before i ws) (get_or ws i 0) = rw (← there, width) is in
    λ j. record { at = there j; value = value j }

pub number_at-value-requires : goal.number_at-value-requires
number_at-value-requires c = let a = c.args in
    let width = width_of-row a.n a.rows.now a.row _ (omega arith) c.bits-width.ensures.value in
    (omega arith, omega arith, omega arith)

pub returns : goal.returns
returns c = let a = c.args in
    let width = width_of-row a.n a.rows.now a.row _ (omega arith) c.bits-width.ensures.value in
    row _ a.bytes.now a.row _ _ _ c.sum_before-at.ensures.value width c.number_at-value.ensures

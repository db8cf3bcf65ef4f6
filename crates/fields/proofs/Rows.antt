-- Rows one by one: the width of each, and which is the first that some bits do not hold whole. Assumes nothing.
use mathlib.Core.Path.{◌≡◌, refl, sym, ◌∙◌}
use mathlib.Core.List.{List, map}
use Prim.Native.Nat.{ℕ, suc, ◌+◌, ◌≤◌, ◌<◌}
use native.Mathlib.Numerals.{add-one}
use native.Mathlib.Omega.{arith}
use borrow.Author.Tests.{ltb-true, ltb-false}
use lib.Dec.{ltb}
use lib.ListN.{length, get_or}
use Rattle.std.proofs.lemmas.List.{get_or-map}
use Rattle.octets.specs.Tables.{before, first_not_whole}
use Rattle.octets.proofs.Laws.{either}
use Rattle.octets.proofs.Tables.{before_next, before_mono, not_whole_before, not_whole_past}
use Rattle.fields.specs.declared.Width.{Width}
use Rattle.fields.specs.declared.Table.TheVariants.{Segment}
use Rattle.fields.specs.Fields.{widths_of, bits_of}

-- ---- the bits before row i

pub before_none : (ws : List ℕ) → before 0 ws ≡ 0
unfolding before
before_none ws = refl

pub before_more : (ws : List ℕ) (i w : ℕ) → get_or ws i 0 ≡ w → before (i + 1) ws ≡ before i ws + w
before_more ws i w is = rw (add-one i, before_next i ws, is) refl

-- the width of a row as the code has it
pub width_of-row : (n : ℕ) (rows : List Width) (i : ℕ) {w : ℕ} (d : Width) → i < length rows → w ≡ bits_of n (get_or rows i d) → get_or (map (bits_of n) rows) i 0 ≡ w
width_of-row n rows i d h is = get_or-map (bits_of n) rows i d 0 h ∙ sym is

-- ---- the first row that n bits do not hold whole, where they hold those before row i

-- they do not hold it
pub here : (ws : List ℕ) (n i : ℕ) → i ≤ first_not_whole ws n → n < before i ws + get_or ws i 0 → first_not_whole ws n ≡ i
here ws n i h short =
    either (ltb i (first_not_whole ws n))
    (λ t. absurd (omega (arith, not_whole_before ws n (suc i) (ltb-true i (first_not_whole ws n) t), before_next i ws)))
    (λ t. omega (arith, ltb-false i (first_not_whole ws n) t))

-- they do
pub behind : (ws : List ℕ) (n i : ℕ) → i ≤ first_not_whole ws n → i < length ws → before i ws + get_or ws i 0 ≤ n → i + 1 ≤ first_not_whole ws n
behind ws n i h inside long =
    either (ltb i (first_not_whole ws n))
    (λ t. omega (arith, ltb-true i (first_not_whole ws n) t))
    (λ t.
    let same : first_not_whole ws n ≡ i = omega (arith, ltb-false i (first_not_whole ws n) t) in
    absurd (omega (arith, rw same at (not_whole_past ws n (omega arith)))))

-- ---- a segment's header

-- a row ends within its two bytes
pub segment-row-ends : (row : ℕ) → row < 8 → before row (widths_of 0 Segment) + get_or (widths_of 0 Segment) row 0 ≤ 16
unfolding before
segment-row-ends row h =
    let ws : List ℕ = widths_of 0 Segment in
    omega (arith, before_next row ws, before_mono (suc row) 8 ws h)

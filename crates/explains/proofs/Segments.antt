-- What is explained of a segment by itself: the length or the field that is named breaks the rule for its number, and every check before that
-- one passes. Assumes nothing.
use mathlib.Core.Path.{◌≡◌, sym, ap, ◌∙◌}
use mathlib.Core.Bool.{false}
use mathlib.Core.List.{List}
use Prim.Native.Nat.{ℕ, ◌+◌, ◌-◌, ◌*◌, ◌/◌, ◌%◌, ◌^◌, ◌≤◌, ◌<◌}
use native.Mathlib.Omega.{arith}
use borrow.Author.Tests.{ltb-true, ltb-false, eqb-true, eqb-false, ne_eqb, lt-leb}
use lib.Dec.{eqb, ltb}
use lib.ListN.{length, get_or}
use Rattle.std.proofs.Common.{Result, Ok, Err, None, Some}
use Rattle.octets.specs.Bits.{Bytes}
use Rattle.octets.specs.Tables.{before, number_at}
use Rattle.octets.proofs.Laws.{either, get_d_byte}
use Rattle.octets.proofs.Tables.{number_in-byte}
use Rattle.meaning.specs.declared.Refusal.{Refusal}
use Rattle.meaning.specs.declared.Refusal.TheVariants.{SegmentLength, SegmentType, ErrorBit, OtherMajor, NumberAboveLast}
use Rattle.meaning.specs.Checks.{and_then}
use Rattle.meaning.specs.Numbers.{number_of, checked_number}
use Rattle.segments.specs.Segment.{segment_bytes, sort_in, error_in, segment_major, number_in, last_in, segment_checks}
use Rattle.segments.proofs.Checks.{checks-length, checks-sort, checks-error, checks-major, checks-number}
use Rattle.fields.specs.declared.Table.TheVariants.{Segment}
use Rattle.explains.specs.declared.Field.TheVariants.{Length, Row}
use Rattle.explains.specs.declared.Explained.TheVariants.{Found}
use Rattle.explains.specs.Explaining.{explained_values, widths_in, row_fault, segment_row, segment_by, segment_explained}
use Rattle.explains.specs.Breaks.{wanted, RowBroken, PassesBefore}
use Rattle.explains.proofs.Exactly.{then_fine, segment-number}

-- ---- the checks before the one that fails, whatever is checked after those on the segment itself

module _ (xs : List ℕ) (rest : Result Unit Refusal) where
  abbrev told : ℕ
  told = checked_number (and_then (segment_checks xs) rest)

  told_fault : {f : Refusal} → segment_checks xs ≡ Err f → told ≡ number_of f
  told_fault is = ap (λ (v : Result Unit Refusal). checked_number (and_then v rest)) is

  -- a rule whose number is not yet reached is kept
  kept : {f : Refusal} (a b : ℕ) → ((a ≡ b → ⊥) → segment_checks xs ≡ Err f) → number_of f < told → a ≡ b
  kept a b broken l = either (eqb a b) (λ q. eqb-true a b q) (λ q. absurd (omega (arith, told_fault (broken (eqb-false a b q)))))

  pub passes : PassesBefore told xs
  passes = record { whole = whole; sort = sort; error = error; major = major; number = number }
    where
      whole : 2 < told → length xs ≡ segment_bytes
      whole l = kept (length xs) segment_bytes (checks-length xs) l

      sort : 3 < told → sort_in xs ≡ 0
      sort l = kept (sort_in xs) 0 (checks-sort xs (whole (omega arith))) l

      error : 4 < told → error_in xs ≡ 0
      error l = kept (error_in xs) 0 (checks-error xs (whole (omega arith)) (sort (omega arith))) l

      major : 5 < told → segment_major xs ≡ 0
      major l = kept (segment_major xs) 0 (checks-major xs (whole (omega arith)) (sort (omega arith)) (error (omega arith))) l

      number : 6 < told → number_in xs ≤ last_in xs
      number l =
          either (ltb (last_in xs) (number_in xs))
          (λ q. absurd (omega (arith, told_fault (checks-number xs (whole (omega arith)) (sort (omega arith)) (error (omega arith)) (major (omega arith)) (ltb-true _ _ q)))))
          (λ q. ltb-false _ _ q)

pub passes_before : (xs : List ℕ) → PassesBefore (explained_values (segment_explained xs)).number xs
passes_before xs = rw (segment-number xs) (rw then_fine at (passes xs (Ok tt)))

-- ---- the one that fails

-- what the checks find, and why
checks_ways : {R : Type 0} (xs : List ℕ) → ((length xs ≡ segment_bytes → ⊥) → segment_checks xs ≡ Err SegmentLength → R) → (length xs ≡ segment_bytes → (sort_in xs ≡ 0 → ⊥) → segment_checks xs ≡ Err SegmentType → R) → (length xs ≡ segment_bytes → (error_in xs ≡ 0 → ⊥) → segment_checks xs ≡ Err ErrorBit → R) → (length xs ≡ segment_bytes → (segment_major xs ≡ 0 → ⊥) → segment_checks xs ≡ Err OtherMajor → R) → (length xs ≡ segment_bytes → last_in xs < number_in xs → segment_checks xs ≡ Err NumberAboveLast → R) → (segment_checks xs ≡ Ok tt → R) → R
unfolding segment_checks
checks_ways xs length-fails sort-fails error-fails major-fails number-fails fine =
    either (eqb (length xs) segment_bytes)
    (λ q.
    let whole = eqb-true (length xs) segment_bytes q in
    either (eqb (sort_in xs) 0)
    (λ r.
    either (eqb (error_in xs) 0)
    (λ s.
    either (eqb (segment_major xs) 0)
    (λ t.
    either (ltb (last_in xs) (number_in xs)) (λ u. number-fails whole (ltb-true _ _ u) (simp (q, r, s, t, u))) (λ u. fine (simp (q, r, s, t, u))))
    (λ t. major-fails whole (eqb-false _ _ t) (simp (q, r, s, t))))
    (λ s. error-fails whole (eqb-false _ _ s) (simp (q, r, s))))
    (λ r. sort-fails whole (eqb-false _ _ r) (simp (q, r))))
    (λ q. length-fails (eqb-false _ _ q) (simp q))

-- what is explained, by what the checks find
explained_by : (xs : List ℕ) {v : Result Unit Refusal} → segment_checks xs ≡ v → segment_explained xs ≡ segment_by (checked_number v) None xs
unfolding segment_explained
explained_by xs is = ap (λ (v : Result Unit Refusal). segment_by (checked_number v) None xs) is

pub length_broken : (xs : List ℕ) → (explained_values (segment_explained xs)).number ≡ 2 → (segment_explained xs ≡ Some (Found 2 Length 0 (length xs))) × (length xs ≡ segment_bytes → ⊥)
length_broken xs two =
    let number = sym (segment-number xs) ∙ two in
    checks_ways xs (λ broken e. (explained_by xs e, broken))
    (λ w broken e. absurd (omega (arith, ap checked_number e)))
    (λ w broken e. absurd (omega (arith, ap checked_number e)))
    (λ w broken e. absurd (omega (arith, ap checked_number e)))
    (λ w broken e. absurd (omega (arith, ap checked_number e)))
    (λ e. absurd (omega (arith, ap checked_number e)))

-- ---- the row that is named

-- the number in row i: it is the field by its place
abbrev value_at : ℕ → List ℕ → ℕ
value_at i xs = let ws = widths_in Segment xs in number_at xs (before i ws) (get_or ws i 0)

module _ (xs : List ℕ) (b : Bytes xs) (whole : length xs ≡ segment_bytes) where
  byte-value : (k o w : ℕ) → k < 2 → o + w ≤ 8 → number_at xs (8 * k + o) w ≡ get_or xs k 0 / 2 ^ (8 - (o + w)) % 2 ^ w
  byte-value k o w l r = number_in-byte xs k o w (omega arith) r

  sort-value : value_at 0 xs ≡ sort_in xs
  unfolding before
  sort-value = byte-value 0 0 2 (omega arith) (omega arith) ∙ omega (arith, get_d_byte xs 0 b)

  error-value : value_at 5 xs ≡ error_in xs
  unfolding before
  error-value = byte-value 0 7 1 (omega arith) (omega arith) ∙ omega arith

  major-value : value_at 3 xs ≡ segment_major xs
  unfolding before
  major-value = byte-value 0 4 2 (omega arith) (omega arith)

  number-value : value_at 6 xs ≡ number_in xs
  unfolding before
  number-value = byte-value 1 0 4 (omega arith) (omega arith) ∙ omega (arith, get_d_byte xs 1 b)

  pub last_value : value_at 7 xs ≡ last_in xs
  unfolding before
  last_value = byte-value 1 4 4 (omega arith) (omega arith) ∙ omega arith

-- a row that is named with a number is the one for it, and does not hold what that wants
row_wrong : (xs : List ℕ) (m : ℕ) {n i at value : ℕ} → wanted m xs (value_at (segment_row m) xs) ≡ false → Some (row_fault m Segment (segment_row m) xs) ≡ Some (Found n (Row Segment i) at value) → RowBroken xs n i at value
row_wrong xs m {n} {i} {at} {value} wrong is =
    let number : n ≡ m = cc in
    let same : value ≡ value_at (segment_row m) xs = cc in
    record { row = cc; offset = cc; found = cc; unwanted = (λ j. wanted (number j) xs (same j)) ∙ wrong }

pub row_broken : (xs : List ℕ) {n i at value : ℕ} → Bytes xs → segment_explained xs ≡ Some (Found n (Row Segment i) at value) → RowBroken xs n i at value
row_broken xs b is =
    checks_ways xs
    (λ broken e. let z : ◌≡◌ {A = ℕ} 0 1 = cc (is, explained_by xs e) in absurd (omega arith))
    (λ w broken e. row_wrong xs 3 (ne_eqb (value_at 0 xs) 0 (λ z. broken (sym (sort-value xs b w) ∙ z))) (sym (explained_by xs e) ∙ is))
    (λ w broken e. row_wrong xs 4 (ne_eqb (value_at 5 xs) 0 (λ z. broken (sym (error-value xs b w) ∙ z))) (sym (explained_by xs e) ∙ is))
    (λ w broken e. row_wrong xs 5 (ne_eqb (value_at 3 xs) 0 (λ z. broken (sym (major-value xs b w) ∙ z))) (sym (explained_by xs e) ∙ is))
    (λ w broken e. row_wrong xs 6 (lt-leb (value_at 6 xs) (last_in xs) (omega (arith, number-value xs b w))) (sym (explained_by xs e) ∙ is))
    (λ e. let z : ◌≡◌ {A = ℕ} 0 1 = cc (is, explained_by xs e) in absurd (omega arith))

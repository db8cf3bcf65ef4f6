-- The checks on a segment, one after the other. Assumes nothing.
use mathlib.Core.Path.{◌≡◌}
use mathlib.Core.List.{List, [], ◌∷◌}
use Prim.Native.Nat.{ℕ, ◌≤◌, ◌<◌}
use borrow.Author.Tests.{lt-ltb, le-ltb, eq-eqb, ne_eqb}
use lib.Dec.{T}
use lib.ListN.{length}
use Rattle.std.proofs.Common.{Ok, Err}
use Rattle.octets.specs.Checks.{among}
use Rattle.meaning.specs.declared.Refusal.TheVariants.{SegmentLength, SegmentType, ErrorBit, OtherMajor, NumberAboveLast}
use Rattle.meaning.specs.Numbers.{checked_number}
use Rattle.meaning.proofs.Gives.{Gives, gives_fine, gives_check, gives_number}
use Rattle.segments.specs.Segment.{segment_bytes, sort_in, error_in, segment_major, number_in, last_in, segment_checks}

module _ (xs : List ℕ) where
  pub checks-length : (length xs ≡ segment_bytes → ⊥) → segment_checks xs ≡ Err SegmentLength
  unfolding segment_checks
  checks-length h = simp (ne_eqb _ _ h)

  module _ (whole : length xs ≡ segment_bytes) where
    pub checks-sort : (sort_in xs ≡ 0 → ⊥) → segment_checks xs ≡ Err SegmentType
    unfolding segment_checks
    checks-sort h = simp (eq-eqb _ _ whole, ne_eqb _ _ h)

    module _ (plain : sort_in xs ≡ 0) where
      pub checks-error : (error_in xs ≡ 0 → ⊥) → segment_checks xs ≡ Err ErrorBit
      unfolding segment_checks
      checks-error h = simp (eq-eqb _ _ whole, eq-eqb _ _ plain, ne_eqb _ _ h)

      module _ (good : error_in xs ≡ 0) where
        pub checks-major : (segment_major xs ≡ 0 → ⊥) → segment_checks xs ≡ Err OtherMajor
        unfolding segment_checks
        checks-major h = simp (eq-eqb _ _ whole, eq-eqb _ _ plain, eq-eqb _ _ good, ne_eqb _ _ h)

        module _ (major : segment_major xs ≡ 0) where
          pub checks-number : last_in xs < number_in xs → segment_checks xs ≡ Err NumberAboveLast
          unfolding segment_checks
          checks-number h = simp (eq-eqb _ _ whole, eq-eqb _ _ plain, eq-eqb _ _ good, eq-eqb _ _ major, lt-ltb _ _ h)

          pub checks_fine : number_in xs ≤ last_in xs → segment_checks xs ≡ Ok tt
          unfolding segment_checks
          checks_fine h = simp (eq-eqb _ _ whole, eq-eqb _ _ plain, eq-eqb _ _ good, eq-eqb _ _ major, le-ltb _ _ h)

-- ---- the numbers that they can give

pub check-numbers : (xs : List ℕ) → T (among (0 ∷ 2 ∷ 3 ∷ 4 ∷ 5 ∷ 6 ∷ []) (checked_number (segment_checks xs)))
unfolding segment_checks
check-numbers xs = gives_number (2 ∷ 3 ∷ 4 ∷ 5 ∷ 6 ∷ []) (segment_checks xs) gives
  where
    gives : Gives (2 ∷ 3 ∷ 4 ∷ 5 ∷ 6 ∷ []) (segment_checks xs)
    gives = search (gives_check, gives_fine) depth 8

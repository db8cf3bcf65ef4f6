-- Laws of the notes' definitions in the code's own terms. Assumes nothing.
use mathlib.Core.Path.{◌≡◌}
use mathlib.Core.Bool.{true, not, ◌||◌, and-eq-true_iff, or-true}
use mathlib.Core.List.{List}
use Prim.Native.Nat.{ℕ, ◌≤◌}
use native.Mathlib.Omega.{arith}
use borrow.Author.Tests.{le-ltb, eqb-true, le-leb, leb-true}
use lib.Dec.{eqb, leb}
use lib.ListN.{length}
use Rattle.octets.proofs.Laws.{either}
use Rattle.meaning.specs.Sizes.{ts_bytes, longest_listing}
use Rattle.notes.specs.Notes.{length_fits, too_short}

-- ---- a listing's length

module _ (n : ℕ) where
  pub length_small : length_fits n ≡ true → n ≤ longest_listing
  length_small e =
      either (eqb n 0) (λ z. omega (arith, eqb-true n 0 z))
      (λ z. leb-true n longest_listing ((and-eq-true_iff (leb ts_bytes n) (leb n longest_listing)).0 (simp z at e)).1)

  pub small_length : ts_bytes ≤ n → n ≤ longest_listing → length_fits n ≡ true
  small_length l h = simp (le-leb _ _ l, le-leb _ _ h, or-true)

-- ---- both buffers are long enough

pub both_long : (first second : List ℕ) → longest_listing ≤ length first → longest_listing ≤ length second → true ≡ not (too_short first || too_short second)
both_long first second one two = simp (le-ltb _ _ one, le-ltb _ _ two)

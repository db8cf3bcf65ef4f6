-- The answers to the pieces of a chunk: exact counts before the last missing piece, then the list, then 0. Assumes nothing.
use mathlib.Core.Path.{◌≡◌, refl, sym, ap, ap₂, ◌∙◌}
use mathlib.Core.Bool.{Bool, true, false, ◌||◌, or-true, or-false, or_assoc, or_comm, and-false, true≢false}
use mathlib.Core.List.{List, [], ◌∷◌, ◌++◌, map}
use Prim.Native.Nat.{ℕ, suc, ◌-◌, ◌<◌}
use native.Mathlib.Omega.{arith}
use borrow.Author.Tests.{eq-eqb, ne_eqb}
use lib.Dec.{eqb}
use Rattle.std.proofs.Common.{Ok}
use Rattle.octets.specs.Each.{Each}
use Rattle.octets.specs.Checks.{among}
use Rattle.meaning.specs.declared.Kind.{Kind}
use Rattle.slots.specs.declared.Answer.TheVariants.{Missing, NewList}
use Rattle.gatherings.specs.Once.{different, piece_answers, piece_counts}
use Rattle.gatherings.proofs.Sets.{different_all, different_fewer}

neither : (a b : Bool) → a || b ≡ false → (a ≡ false) × (b ≡ false)
neither true b e = absurd (true≢false e)
neither false b e = (refl, e)

module _ (n : ℕ) (k : Kind) (size : ℕ) where
  -- all have come
  answers_after : (came after : List ℕ) → Each (λ j. j < n) came → ((j : ℕ) → j < n → among came j ≡ true) → Each (λ j. j < n) after → piece_answers n k size came after ≡ map (λ j. Ok (Missing 0)) after
  answers_after came [] inside all h = refl
  answers_after came (i ∷ more) inside all h =
      let here = all i h.0 in
      let none : n - different came ≡ 0 = omega (arith, different_all n came inside all) in
      ap₂ ◌∷◌ (simp here (ap (λ (m : ℕ). Ok (Missing m)) none))
      (answers_after (i ∷ came) more (h.0, inside) (λ j l. simp (all j l, or-true)) h.1)

  -- the piece i has not come yet
  module _ (i : ℕ) (small : i < n) (after : List ℕ) (behind : Each (λ j. j < n) after) where
    answers_before : (came before : List ℕ) → Each (λ j. j < n) came → Each (λ j. j < n) before → among came i ≡ false → among before i ≡ false → ((j : ℕ) → j < n → eqb j i || (among before j || among came j) ≡ true) → piece_answers n k size came (before ++ i ∷ after) ≡ piece_counts n came before ++ ((Ok (NewList k size)) ∷ map (λ j. Ok (Missing 0)) after)
    answers_before came [] inside h q p all =
        let more : different (i ∷ came) ≡ suc (different came) = simp q in
        let none : n - suc (different came) ≡ 0 = omega (arith, different_all n (i ∷ came) (small, inside) all) in
        ap₂ ◌∷◌ (simp (q, eq-eqb _ _ none)) (answers_after (i ∷ came) after (small, inside) all behind)
    answers_before came (j ∷ more) inside h q p all =
        let apart = neither (eqb i j) (among more i) p in
        let fewer : different (j ∷ came) < n = different_fewer n (j ∷ came) (h.0, inside) i small (simp (apart.0, q)) in
        let some : eqb (n - different (j ∷ came)) 0 ≡ false = ne_eqb (n - different (j ∷ came)) 0 (λ z. omega arith) in
        ap₂ ◌∷◌ (simp (some, and-false))
        (answers_before (j ∷ came) more (h.0, inside) h.1 (simp (apart.0, q)) apart.1 (λ x l. ap (λ (b : Bool). eqb x i || b) (sym (or_assoc (among more x) (eqb x j) (among came x)) ∙ ap (λ (b : Bool). b || among came x) (or_comm (among more x) (eqb x j))) ∙ all x l))

-- of n pieces those in `before` come, then the last missing one, i, then those in `after`
pub answers-read : (n : ℕ) (k : Kind) (size : ℕ) (before : List ℕ) (i : ℕ) (after : List ℕ) → Each (λ j. j < n) before → i < n → Each (λ j. j < n) after → among before i ≡ false → ((j : ℕ) → j < n → among (i ∷ before) j ≡ true) → piece_answers n k size [] (before ++ i ∷ after) ≡ piece_counts n [] before ++ ((Ok (NewList k size)) ∷ map (λ j. Ok (Missing 0)) after)
answers-read n k size before i after h small behind new all =
    answers_before n k size i small after behind [] before tt h refl new (λ j l. ap (λ (b : Bool). eqb j i || b) (or-false (among before j)) ∙ all j l)

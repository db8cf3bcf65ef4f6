-- The numbers that came as a set of places: how many are different, and when they are all. Assumes nothing.
use mathlib.Core.Path.{◌≡◌, refl, sym, ap, ◌∙◌}
use mathlib.Core.Bool.{true, false, cond, true≢false}
use mathlib.Core.List.{List, [], ◌∷◌}
use Prim.Native.Nat.{ℕ, suc, ◌^◌, ◌≤◌, ◌<◌}
use native.Mathlib.Omega.{arith}
use borrow.Author.Tests.{eqb-true, eqb-false}
use lib.Dec.{eqb}
use lib.Count.{ones, ones-le}
use lib.Pow.{pow_pos}
use Rattle.octets.specs.Each.{Each}
use Rattle.octets.specs.Checks.{among}
use Rattle.octets.proofs.Laws.{either, test_again}
use Rattle.octets.specs.Sets.{holds, including}
use Rattle.octets.proofs.Sets.{holds_none, holds-including, holds-other, ones-including, including_small, complete_full, full_complete}
use Rattle.gatherings.specs.Once.{different}

-- the set of some places
abbrev pub set_of : List ℕ → ℕ
set_of [] = 0
set_of (i ∷ more) = cond (among more i) (set_of more) (including (set_of more) i)

pub holds_set_of : (came : List ℕ) (j : ℕ) → holds (set_of came) j ≡ among came j
holds_set_of [] j = holds_none j
holds_set_of (i ∷ more) j =
    either (among more i) (λ q. simp q (holds_set_of more j ∙ test_again (among more) i j q))
    (λ q.
    let free : holds (set_of more) i ≡ false = holds_set_of more i ∙ q in
    simp q
    (either (eqb j i)
    (λ e. ap (holds (including (set_of more) i)) (eqb-true j i e) ∙ holds-including (set_of more) i free ∙ sym (simp e))
    (λ e. holds-other (set_of more) i j free (λ s. eqb-false j i e (sym s)) ∙ holds_set_of more j ∙ sym (simp e))))

pub ones_set_of : (came : List ℕ) → ones (set_of came) ≡ different came
unfolding ones
ones_set_of [] = refl
ones_set_of (i ∷ more) =
    either (among more i) (λ q. simp q (ones_set_of more))
    (λ q. simp q (ones-including (set_of more) i (holds_set_of more i ∙ q) ∙ ap suc (ones_set_of more)))

module _ (n : ℕ) where
  pub set_of_small : (came : List ℕ) → Each (λ i. i < n) came → set_of came < 2 ^ n
  set_of_small [] h = pow_pos n
  set_of_small (i ∷ more) h =
      either (among more i) (λ q. simp q (set_of_small more h.1))
      (λ q. simp q (including_small (set_of more) i n h.0 (set_of_small more h.1) (holds_set_of more i ∙ q)))

  module _ (came : List ℕ) (inside : Each (λ i. i < n) came) where
    pub different_most : different came ≤ n
    different_most = omega (arith, ones-le n (set_of came) (set_of_small came inside), ones_set_of came)

    -- all of them
    pub different_all : ((i : ℕ) → i < n → among came i ≡ true) → different came ≡ n
    different_all all =
        sym (ones_set_of came) ∙ full_complete (set_of came) n (set_of_small came inside) (λ i l. holds_set_of came i ∙ all i l)

    -- all but some
    pub different_fewer : (i : ℕ) → i < n → among came i ≡ false → different came < n
    different_fewer i l q =
        let most = different_most in
        either (eqb (different came) n)
        (λ e. absurd (true≢false (sym (complete_full (set_of came) n (set_of_small came inside) (ones_set_of came ∙ eqb-true (different came) n e) i l) ∙ holds_set_of came i ∙ q)))
        (λ e. let less = eqb-false (different came) n e in omega arith)

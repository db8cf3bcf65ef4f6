-- How many of the numbers below one pass a test, and how many up to a last number do not. Assumes nothing.
use mathlib.Core.Path.{◌≡◌, refl, sym, ap, ap₂, ◌∙◌}
use mathlib.Core.Bool.{Bool, true, false, cond}
use Prim.Native.Nat.{ℕ, zero, suc, ◌+◌, ◌-◌, ◌≤◌, ◌<◌, min}
use native.Mathlib.Nat.{zero-min}
use native.Mathlib.Numerals.{add-one}
use native.Mathlib.Omega.{arith}
use borrow.Author.Tests.{eqb-true, eqb-false}
use lib.Dec.{eqb}
use Rattle.octets.proofs.Laws.{either}
use Rattle.guides.specs.Gathering.{count_below, missing_of}

pub count_most : (test : ℕ → Bool) (n : ℕ) → count_below test n ≤ n
unfolding count_below
count_most test zero = omega arith
count_most test (suc n) =
    let rest = count_most test n in
    either (test n) (λ e. simp e (omega arith)) (λ e. simp e (omega arith))

pub count_none : (test : ℕ → Bool) (top : ℕ) → 0 ≡ count_below test (min 0 top)
unfolding count_below
count_none test top = ap (count_below test) (sym (zero-min top))

-- some, all, or all but some
count_some : (test : ℕ → Bool) (n k : ℕ) → k < n → test k ≡ true → 0 < count_below test n
unfolding count_below
count_some test zero k l t = absurd (omega arith)
count_some test (suc n) k l t =
    either (eqb k n) (λ e. simp (ap test (sym (eqb-true k n e)) ∙ t) (omega arith))
    (λ e. omega (arith, count_some test n k (omega (arith, eqb-false k n e)) t))

count_fewer : (test : ℕ → Bool) (n k : ℕ) → k < n → test k ≡ false → count_below test n < n
unfolding count_below
count_fewer test zero k l t = absurd (omega arith)
count_fewer test (suc n) k l t =
    either (eqb k n) (λ e. simp (ap test (sym (eqb-true k n e)) ∙ t) (omega (arith, count_most test n)))
    (λ e. let rest = count_fewer test n k (omega (arith, eqb-false k n e)) t in either (test n) (λ s. simp s (omega arith)) (λ s. simp s (omega arith)))

count_all : (test : ℕ → Bool) (n : ℕ) → ((k : ℕ) → k < n → test k ≡ true) → count_below test n ≡ n
unfolding count_below
count_all test zero all = refl
count_all test (suc n) all = ap₂ (λ (c : ℕ) (t : Bool). c + cond t 1 0) (count_all test n (λ k l. all k (omega arith))) (all n (omega arith)) ∙ add-one n

count_same : (f g : ℕ → Bool) (n : ℕ) → ((k : ℕ) → k < n → f k ≡ g k) → count_below f n ≡ count_below g n
unfolding count_below
count_same f g zero e = refl
count_same f g (suc n) e = ap₂ (λ (c : ℕ) (t : Bool). c + cond t 1 0) (count_same f g n (λ k l. e k (omega arith))) (e n (omega arith))

-- ---- how many are missing

module _ (test : ℕ → Bool) (last : ℕ) where
  pub missing_most : (n : ℕ) → n ≤ last → test n ≡ true → missing_of test last ≤ last
  missing_most n l t = omega (arith, count_some test (last + 1) n (omega arith) t)

  pub missing_some : (n : ℕ) → n ≤ last → test n ≡ false → 0 < missing_of test last
  missing_some n l t = omega (arith, count_fewer test (last + 1) n (omega arith) t)

  pub missing_none : ((n : ℕ) → n ≤ last → test n ≡ true) → missing_of test last ≡ 0
  missing_none all = omega (arith, count_all test (last + 1) (λ k l. all k (omega arith)))

  pub none_missing : missing_of test last ≡ 0 → (n : ℕ) → n ≤ last → test n ≡ true
  none_missing e n l =
      either (test n) (λ t. t) (λ t. absurd (omega (arith, missing_some n l t)))

pub missing_same : (f g : ℕ → Bool) (last : ℕ) → ((n : ℕ) → n ≤ last → f n ≡ g n) → missing_of f last ≡ missing_of g last
missing_same f g last e = ap (λ (c : ℕ). last + 1 - c) (count_same f g (last + 1) (λ n l. e n (omega arith)))

-- Laws of sets as bits, by the lowest number and the rest. Assumes nothing.
use mathlib.Core.Path.{◌≡◌, refl, sym, ap, ◌∙◌}
use mathlib.Core.Bool.{true, false}
use Prim.Native.Nat.{ℕ, zero, suc, ◌+◌, ◌*◌, ◌/◌, ◌%◌, ◌^◌, ◌<◌}
use native.Mathlib.Nat.{one-mul, pow-suc, zero-div}
use native.Mathlib.Numerals.{one-add}
use native.Mathlib.Omega.{arith}
use borrow.Author.Tests.{eq-eqb, eqb-true, eqb-false}
use lib.Dec.{lit<, eqb}
use lib.Pow.{pow_pos, shl_exact, shr-shr}
use lib.Count.{ones, ones_step, ones-le}
use Rattle.octets.specs.Sets.{holds, including}

-- ---- the place 0 and the place i + 1

half : (h i : ℕ) → holds h (suc i) ≡ holds (h / 2) i
half h i = ap (λ (n : ℕ). eqb (n % 2) 1) (ap (λ (k : ℕ). h / 2 ^ k) (sym (one-add i)) ∙ sym (shr-shr h 1 i))

half_including : (h i : ℕ) → including h (suc i) / 2 ≡ including (h / 2) i
half_including h i = omega (arith, pow-suc 2 i)

half_small : (h k : ℕ) → h < 2 ^ suc k → h / 2 < 2 ^ k
half_small h k l = omega (arith, pow-suc 2 k)

even : (h : ℕ) → holds h 0 ≡ false → h % 2 ≡ 0
even h e = omega (arith, eqb-false (h / 1 % 2) 1 e)

half_odd : (h : ℕ) → holds h 0 ≡ false → (h + 1) / 2 ≡ h / 2
half_odd h e = omega (arith, even h e)

half_full : (h k : ℕ) → h < 2 ^ suc k → ones h ≡ suc k → (h % 2 ≡ 1) × (ones (h / 2) ≡ k)
half_full h k l e = omega (arith, ones_step h, ones-le k (h / 2) (half_small h k l))

-- ---- one place more

pub holds_none : (i : ℕ) → holds 0 i ≡ false
holds_none i = ap (λ (n : ℕ). eqb (n % 2) 1) (zero-div (2 ^ i))

pub holds-including : (h i : ℕ) → holds h i ≡ false → holds (including h i) i ≡ true
holds-including h zero e = eq-eqb ((h + 1) / 1 % 2) 1 (omega (arith, even h e))
holds-including h (suc i) e =
    half _ i ∙ ap (λ (n : ℕ). holds n i) (half_including h i) ∙ holds-including (h / 2) i (sym (half h i) ∙ e)

pub holds-other : (h i j : ℕ) → holds h i ≡ false → (i ≡ j → ⊥) → holds (including h i) j ≡ holds h j
holds-other h zero zero e d = absurd (d refl)
holds-other h zero (suc j) e d = half _ j ∙ ap (λ (n : ℕ). holds n j) (half_odd h e) ∙ sym (half h j)
holds-other h (suc i) zero e d =
    let low : including h (suc i) / 1 % 2 ≡ h / 1 % 2 = omega (arith, pow-suc 2 i) in
    ap (λ (n : ℕ). eqb n 1) low
holds-other h (suc i) (suc j) e d =
    half _ j
    ∙ ap (λ (n : ℕ). holds n j) (half_including h i)
    ∙ holds-other (h / 2) i j (sym (half h i) ∙ e) (λ q. d (ap suc q))
    ∙ sym (half h j)

pub ones-including : (h i : ℕ) → holds h i ≡ false → ones (including h i) ≡ suc (ones h)
ones-including h zero e = omega (arith, even h e, ones_step h, ones_step (h + 1), ap ones (half_odd h e))
ones-including h (suc i) e =
    let rest : ones (including h (suc i) / 2) ≡ suc (ones (h / 2)) = ap ones (half_including h i) ∙ ones-including (h / 2) i (sym (half h i) ∙ e) in
    omega (arith, pow-suc 2 i, ones_step h, ones_step (including h (suc i)))

pub including_small : (h i k : ℕ) → i < k → h < 2 ^ k → holds h i ≡ false → including h i < 2 ^ k
including_small h i zero p l e = absurd (omega arith)
including_small h zero (suc k) p l e = omega (arith, even h e, pow-suc 2 k)
including_small h (suc i) (suc k) p l e =
    omega (arith, pow-suc 2 i, pow-suc 2 k, including_small (h / 2) i k (omega arith) (half_small h k l) (sym (half h i) ∙ e))

-- ---- all k places are held exactly if so many are counted

pub complete_full : (h k : ℕ) → h < 2 ^ k → ones h ≡ k → (i : ℕ) → i < k → holds h i ≡ true
complete_full h zero l e i p = absurd (omega arith)
complete_full h (suc k) l e zero p = eq-eqb (h / 1 % 2) 1 (omega (arith, half_full h k l e))
complete_full h (suc k) l e (suc i) p =
    half h i ∙ complete_full (h / 2) k (half_small h k l) (half_full h k l e).1 i (omega arith)

pub full_complete : (h k : ℕ) → h < 2 ^ k → ((i : ℕ) → i < k → holds h i ≡ true) → ones h ≡ k
full_complete h zero l f = omega (arith, ones-le 0 h l)
full_complete h (suc k) l f =
    let rest : ones (h / 2) ≡ k = full_complete (h / 2) k (half_small h k l) (λ i p. sym (half h i) ∙ f (suc i) (omega arith)) in
    omega (arith, ones_step h, eqb-true (h / 1 % 2) 1 (f 0 (omega arith)))

-- ---- one bit of a word of w bits

pub bit_exact : (w i : ℕ) → i < w → 1 * 2 ^ i % 2 ^ w ≡ 2 ^ i
bit_exact w i h = shl_exact 1 i w (lit< tt) (omega arith) ∙ one-mul (2 ^ i)

pub bit_pos : (i b : ℕ) → b ≡ 2 ^ i → 0 < b
bit_pos i b e = rw e (pow_pos i)

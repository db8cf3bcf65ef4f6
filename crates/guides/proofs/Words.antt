-- The numbers noted, in words of 64 bits: one number more, and how many are noted, word by word. Assumes nothing.
use mathlib.Core.Path.{◌≡◌, refl, sym, ap, ap₂, ◌∙◌}
use mathlib.Core.Bool.{Bool, true, false, cond, ◌||◌}
use mathlib.Core.List.{List}
use Prim.Native.Nat.{ℕ, zero, suc, ◌+◌, ◌-◌, ◌*◌, ◌/◌, ◌%◌, ◌^◌, ◌≤◌, ◌<◌, min}
use native.Mathlib.Nat.{add-zero, add-suc, add_assoc, add_comm, mod-lt, mod-one, mod-eq_of_lt, lt_of_lt_of_le}
use native.Mathlib.Numerals.{one-add}
use native.Mathlib.Omega.{arith}
use borrow.Author.Tests.{ltb-true, ltb-false, leb-true, leb-false, eqb-true, eqb-false}
use lib.Dec.{ltb, leb, eqb}
use lib.ListN.{length, get_or, replicate, length-replicate, get_or-replicate, get_or-eq_default}
use lib.Seq.{get_or-set_same, get_or-set_other}
use lib.Count.{ones, ones_cat}
use lib.Pow.{pow_pos, pow_mono, mod-pow-add}
use Rattle.octets.specs.Sets.{holds, including}
use Rattle.octets.proofs.Laws.{either}
use Rattle.octets.proofs.Sets.{holds_none, holds-including, holds-other}
use Rattle.guides.specs.Gathering.{is_noted, noting, count_below}

-- ---- one bit of a word, and its lowest bits

pub all_bits : (w r : ℕ) → w < 2 ^ 64 → 64 ≤ r → w % 2 ^ r ≡ w
all_bits w r s l = mod-eq_of_lt (lt_of_lt_of_le s (pow_mono l))

ones_bit : (b : ℕ) → b < 2 → ones b ≡ cond (eqb b 1) 1 0
unfolding ones
ones_bit zero h = refl
ones_bit (suc zero) h = refl
ones_bit (suc (suc b)) h = absurd (omega arith)

ones_more : (w r : ℕ) → ones (w % 2 ^ suc r) ≡ ones (w % 2 ^ r) + cond (holds w r) 1 0
ones_more w r =
    ap (λ (k : ℕ). ones (w % 2 ^ k)) (sym (one-add r))
    ∙ ap ones (mod-pow-add w 1 r)
    ∙ ones_cat r (w / 2 ^ r % 2) (w % 2 ^ r) (mod-lt w (pow_pos r))
    ∙ add_comm (ones (w / 2 ^ r % 2)) (ones (w % 2 ^ r))
    ∙ ap (λ (k : ℕ). ones (w % 2 ^ r) + k) (ones_bit (w / 2 ^ r % 2) (omega arith))

-- ---- no number, and one number more

pub none_noted : (count n : ℕ) → is_noted (replicate count 0) n ≡ false
none_noted count n =
    let zeros : List ℕ = replicate count 0 in
    ap (λ (w : ℕ). holds w (n % 64))
    (either (ltb (n / 64) count) (λ t. get_or-replicate count (n / 64) 0 0 (ltb-true _ _ t))
    (λ t. get_or-eq_default zeros 0 {n = n / 64} (omega (arith, ltb-false (n / 64) count t, length-replicate {A = ℕ} count 0))))
    ∙ holds_none (n % 64)

-- within the words, and not yet noted
module _ (words : List ℕ) (n : ℕ) (within : n / 64 < length words) (free : is_noted words n ≡ false) where
  word_after : get_or (noting words n) (n / 64) 0 ≡ including (get_or words (n / 64) 0) (n % 64)
  word_after = get_or-set_same words (n / 64) _ 0 within

  pub noted_self : is_noted (noting words n) n ≡ true
  noted_self = ap (λ (w : ℕ). holds w (n % 64)) word_after ∙ holds-including (get_or words (n / 64) 0) (n % 64) free

  noted_other : (m : ℕ) → (m ≡ n → ⊥) → is_noted (noting words n) m ≡ is_noted words m
  noted_other m d =
      either (eqb (m / 64) (n / 64))
      (λ t.
      let same = eqb-true (m / 64) (n / 64) t in
      let apart : n % 64 ≡ m % 64 → ⊥ = λ q. d (omega arith) in
      ap (λ (k : ℕ). holds (get_or (noting words n) k 0) (m % 64)) same
      ∙ ap (λ (w : ℕ). holds w (m % 64)) word_after
      ∙ holds-other (get_or words (n / 64) 0) (n % 64) (m % 64) free apart
      ∙ ap (λ (k : ℕ). holds (get_or words k 0) (m % 64)) (sym same))
      (λ t. ap (λ (w : ℕ). holds w (m % 64)) (get_or-set_other words (n / 64) (m / 64) _ 0 (eqb-false (m / 64) (n / 64) t)))

  pub noted_after : (m : ℕ) → is_noted (noting words n) m ≡ eqb m n || is_noted words m
  noted_after m =
      either (eqb m n) (λ e. ap (is_noted (noting words n)) (eqb-true m n e) ∙ noted_self ∙ sym (simp e refl))
      (λ e. noted_other m (eqb-false m n e) ∙ sym (simp e refl))

-- ---- how many are noted

module _ (words : List ℕ) where
  abbrev noted : ℕ → ℕ
  noted = count_below (is_noted words)

  -- those of the i-th word
  noted_bit : (i r : ℕ) → r < 64 → is_noted words (64 * i + r) ≡ holds (get_or words i 0) r
  noted_bit i r l =
      let place : (64 * i + r) / 64 ≡ i = omega arith in
      let bit : (64 * i + r) % 64 ≡ r = omega arith in
      ap₂ (λ (k b : ℕ). holds (get_or words k 0) b) place bit

  count_word : (i r : ℕ) → r ≤ 64 → noted (64 * i + r) ≡ noted (64 * i) + ones (get_or words i 0 % 2 ^ r)
  unfolding count_below ones
  count_word i zero l =
      ap noted (add-zero (64 * i)) ∙ sym (ap (λ (k : ℕ). noted (64 * i) + ones k) (mod-one (get_or words i 0)) ∙ add-zero (noted (64 * i)))
  count_word i (suc r) l =
      let w : ℕ = get_or words i 0 in
      ap noted (add-suc (64 * i) r)
      ∙ ap₂ (λ (k : ℕ) (t : Bool). k + cond t 1 0) (count_word i r (omega arith)) (noted_bit i r (omega arith))
      ∙ add_assoc (noted (64 * i)) (ones (w % 2 ^ r)) (cond (holds w r) 1 0)
      ∙ ap (λ (k : ℕ). noted (64 * i) + k) (sym (ones_more w r))

  -- one word more, as far as the top
  module _ (top i : ℕ) (small : get_or words i 0 < 2 ^ 64) where
    abbrev word : ℕ
    word = get_or words i 0

    room : ones (word % 2 ^ (top - 64 * i)) ≡ ones (word % 2 ^ min 64 (top - 64 * i))
    room =
        either (leb 64 (top - 64 * i))
        (λ t.
        let l = leb-true 64 (top - 64 * i) t in
        let m : min 64 (top - 64 * i) ≡ 64 = omega arith in
        ap ones (all_bits word (top - 64 * i) small l ∙ sym (ap (λ (k : ℕ). word % 2 ^ k) m ∙ mod-eq_of_lt small)))
        (λ t.
        let l = leb-false 64 (top - 64 * i) t in
        let m : min 64 (top - 64 * i) ≡ top - 64 * i = omega arith in
        ap (λ (k : ℕ). ones (word % 2 ^ k)) (sym m))

    pub count_next : count_below (is_noted words) (min (64 * i) top) + ones (get_or words i 0 % 2 ^ (top - 64 * i)) ≡ count_below (is_noted words) (min (64 * (i + 1)) top)
    unfolding ones
    count_next =
        either (leb (64 * i) top)
        (λ t.
        let l = leb-true (64 * i) top t in
        let here : min (64 * i) top ≡ 64 * i = omega arith in
        let next : 64 * i + min 64 (top - 64 * i) ≡ min (64 * (i + 1)) top = omega arith in
        ap₂ (λ (k m : ℕ). noted k + m) here room ∙ sym (count_word i (min 64 (top - 64 * i)) (omega arith)) ∙ ap noted next)
        (λ t.
        let l = leb-false (64 * i) top t in
        let same : min (64 * i) top ≡ min (64 * (i + 1)) top = omega arith in
        let none : top - 64 * i ≡ 0 = omega arith in
        ap₂ (λ (k r : ℕ). noted k + ones (word % 2 ^ r)) same none
        ∙ ap (λ (k : ℕ). noted (min (64 * (i + 1)) top) + ones k) (mod-one word)
        ∙ add-zero (noted (min (64 * (i + 1)) top)))

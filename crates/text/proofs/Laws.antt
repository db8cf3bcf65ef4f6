-- Laws of words and numbers that are put at a place. Assumes nothing.
use mathlib.Core.Path.{◌≡◌, refl, sym, ap, ap₂, ◌∙◌}
use mathlib.Core.List.{List, [], ◌∷◌, ◌++◌}
use Prim.Native.Nat.{ℕ, zero, suc, ◌+◌, ◌-◌, ◌*◌, ◌/◌, ◌%◌, ◌^◌, ◌≤◌, ◌<◌}
use native.Mathlib.Nat.{pow-suc}
use native.Mathlib.Omega.{arith}
use borrow.Author.Tests.{lt-ltb, le-ltb, ltb-true, ltb-false}
use lib.Dec.{ltb, eqb}
use lib.ListN.{length, set, length-append}
use lib.Seq.{sets, length-sets, set_comm}
use Rattle.octets.proofs.Laws.{either}
use Rattle.octets.proofs.Stores.{sets-append}
use Rattle.text.specs.Text.{newline, digit, decimal_in, decimal, numbered, offset_text, refused_with, Put}

-- ---- what is put at a place

pub put_same : {vs ws : List ℕ} (l : List ℕ) (to : ℕ) {m : List ℕ} {end : ℕ} → vs ≡ ws → Put vs l to m end → Put ws l to m end
put_same l to e p = (p.0 ∙ ap (λ (t : List ℕ). to + length t) e, p.1 ∙ ap (sets l to) e)

-- one behind the other
pub put_both : (vs ws l : List ℕ) (to : ℕ) {m n : List ℕ} {end last : ℕ} → Put vs l to m end → Put ws m end n last → Put (vs ++ ws) l to n last
put_both vs ws l to p q =
    (omega (arith, length-append vs ws), q.1 ∙ ap₂ (λ (o : List ℕ) (k : ℕ). sets o k ws) p.1 p.0 ∙ sym (sets-append vs ws l to))

pub put_length : (vs l : List ℕ) (to : ℕ) {m : List ℕ} {end : ℕ} → Put vs l to m end → length m ≡ length l
put_length vs l to p = ap length p.1 ∙ length-sets l to vs

-- a store behind what is put may come first
pub sets_set : (vs l : List ℕ) (to k v : ℕ) → to + length vs ≤ k → sets (set l k v) to vs ≡ set (sets l to vs) k v
sets_set [] l to k v h = refl
sets_set (w ∷ vs) l to k v h =
    ap (λ (m : List ℕ). sets m (suc to) vs) (set_comm l k to v w (λ e. omega arith)) ∙ sets_set vs (set l to w) (suc to) k v (omega arith)

-- ---- numbers in decimal

-- the last digit of n behind equal ones
with_last : (n : ℕ) {ds es : List ℕ} → ds ≡ es → ds ++ (digit (n % 10) ∷ []) ≡ es ++ (digit (n % 10) ∷ [])
with_last n e = ap (λ (ds : List ℕ). ds ++ (digit (n % 10) ∷ [])) e

decimal_in_any : (j k n : ℕ) → n < j → n < k → decimal_in j n ≡ decimal_in k n
unfolding decimal_in
decimal_in_any zero k n g h = absurd (omega arith)
decimal_in_any (suc j) zero n g h = absurd (omega arith)
decimal_in_any (suc j) (suc k) n g h =
    either (ltb n 10) (λ t. simp t)
    (λ t.
    let large : 10 ≤ n = ltb-false n 10 t in
    simp t (with_last n (decimal_in_any j k (n / 10) (omega arith) (omega arith))))

pub decimal_small : (n : ℕ) → n < 10 → decimal n ≡ digit n ∷ []
unfolding decimal decimal_in
decimal_small n h = rw (lt-ltb n 10 h)

pub decimal_large : (n : ℕ) → 10 ≤ n → decimal n ≡ decimal (n / 10) ++ (digit (n % 10) ∷ [])
unfolding decimal decimal_in
decimal_large n h =
    rw (le-ltb n 10 h) (with_last n (decimal_in_any n (suc (n / 10)) (n / 10) (omega arith) (omega arith)))

pub length_small : (n : ℕ) → n < 10 → length (decimal n) ≡ 1
length_small n h = ap length (decimal_small n h)

pub length_large : (n : ℕ) → 10 ≤ n → length (decimal n) ≡ length (decimal (n / 10)) + 1
length_large n h = ap length (decimal_large n h) ∙ length-append (decimal (n / 10)) (digit (n % 10) ∷ [])

tenth_less : (k n : ℕ) → n < 10 ^ suc (suc k) → n / 10 < 10 ^ suc k
tenth_less k n h = omega (arith, pow-suc 10 (suc k))

pub length-decimal : (k n : ℕ) → n < 10 ^ suc k → length (decimal n) ≤ suc k
length-decimal zero n h = omega (arith, length_small n (omega arith))
length-decimal (suc k) n h =
    either (ltb n 10) (λ t. omega (arith, length_small n (ltb-true n 10 t)))
    (λ t. omega (arith, length_large n (ltb-false n 10 t), length-decimal k (n / 10) (tenth_less k n h)))

-- as many digits as its powers of ten say
pub length_power : (k n : ℕ) → 10 ^ k ≤ n → n < 10 * 10 ^ k → length (decimal n) ≡ k + 1
length_power zero n g h = length_small n (omega arith)
length_power (suc k) n g h = omega (arith, pow-suc 10 k, length_large n (omega (arith, pow-suc 10 k)), length_power k (n / 10) (omega (arith, pow-suc 10 k)) (omega (arith, pow-suc 10 k)))

-- as many digits as a number of 64 bits can have
pub length_wide : (n : ℕ) → n < 2 ^ 64 → length (decimal n) ≤ 20
length_wide n h = length-decimal 19 n (omega arith)

pub length-numbered : (k n : ℕ) → n < 10 ^ suc k → length (numbered n) ≤ suc k + 1
length-numbered k n h = omega (arith, length-append (decimal n) newline, length-decimal k n h)

-- so many digits are enough
pub decimal_few : (k n : ℕ) → n < 10 ^ suc k → decimal n ≡ decimal_in (suc k) n
unfolding decimal_in
decimal_few zero n h =
    let small : n < 10 = omega arith in
    rw (lt-ltb n 10 small) (decimal_small n small)
decimal_few (suc k) n h =
    either (ltb n 10) (λ t. simp t (decimal_small n (ltb-true n 10 t)))
    (λ t. simp t (decimal_large n (ltb-false n 10 t) ∙ with_last n (decimal_few k (n / 10) (tenth_less k n h))))

-- the number that some digits say, behind those that say n
abbrev value_on : ℕ → List ℕ → ℕ
value_on n [] = n
value_on n (d ∷ ds) = value_on (n * 10 + (d - digit 0)) ds

value-append : (n d : ℕ) (ds : List ℕ) → value_on n (ds ++ (d ∷ [])) ≡ value_on n ds * 10 + (d - digit 0)
value-append n d [] = refl
value-append n d (e ∷ ds) = value-append (n * 10 + (e - digit 0)) d ds

value-decimal_in : (k n : ℕ) → n < k → value_on 0 (decimal_in k n) ≡ n
unfolding decimal_in
value-decimal_in zero n h = absurd (omega arith)
value-decimal_in (suc k) n h =
    either (ltb n 10) (λ t. simp t (omega arith))
    (λ t.
    let large : 10 ≤ n = ltb-false n 10 t in
    simp t (omega (arith, value-append 0 (digit (n % 10)) (decimal_in k (n / 10)), value-decimal_in k (n / 10) (omega arith))))

-- two numbers are not written alike
pub decimal-once : (m n : ℕ) → decimal m ≡ decimal n → m ≡ n
unfolding decimal
decimal-once m n e = sym (value-decimal_in (suc m) m (omega arith)) ∙ ap (value_on 0) e ∙ value-decimal_in (suc n) n (omega arith)

-- ---- a number from the last digit to the first: what is left, put at the place, with the digits behind it

pub digit_only : (n to : ℕ) (l : List ℕ) → n < 10 → Put (decimal n) l to (set l to (digit n)) (to + 1)
digit_only n to l h = (omega (arith, length_small n h), ap (sets l to) (sym (decimal_small n h)))

-- the k last digits of n
unfoldable pub last_digits : ℕ → ℕ → List ℕ
last_digits zero n = []
last_digits (suc k) n = last_digits k (n / 10) ++ (digit (n % 10) ∷ [])

length-last_digits : (k n : ℕ) → length (last_digits k n) ≡ k
unfolding last_digits
length-last_digits zero n = refl
length-last_digits (suc k) n = omega (arith, length-append (last_digits k (n / 10)) (digit (n % 10) ∷ []), length-last_digits k (n / 10))

-- as many as there are
pub last_digits_all : (k n : ℕ) → k ≡ length (decimal n) → last_digits k n ≡ decimal n
unfolding last_digits
last_digits_all zero n e = either (ltb n 10) (λ t. absurd (omega (arith, length_small n (ltb-true n 10 t)))) (λ t. absurd (omega (arith, length_large n (ltb-false n 10 t))))
last_digits_all (suc k) n e =
    either (ltb n 10)
    (λ t.
    let small : n < 10 = ltb-true n 10 t in
    let one : k ≡ 0 = omega (arith, length_small n small) in
    let same : n % 10 ≡ n = omega arith in
    rw (one, same, decimal_small n small))
    (λ t.
    let large : 10 ≤ n = ltb-false n 10 t in
    with_last n (last_digits_all k (n / 10) (omega (arith, length_large n large))) ∙ sym (decimal_large n large))

pub digit_next : (n to at : ℕ) (l : List ℕ) → to < at → sets (set l (at - 1) (digit (n % 10))) to (last_digits (at - 1 - to) (n / 10)) ≡ sets l to (last_digits (at - to) n)
unfolding last_digits
digit_next n to at l h =
    let more : at - to ≡ suc (at - 1 - to) = omega arith in
    let place : at - 1 ≡ to + length (last_digits (at - 1 - to) (n / 10)) = omega (arith, length-last_digits (at - 1 - to) (n / 10)) in
    rw more
    (sets_set (last_digits (at - 1 - to) (n / 10)) l to (at - 1) (digit (n % 10)) (omega arith)
    ∙ ap (λ (k : ℕ). set (sets l to (last_digits (at - 1 - to) (n / 10))) k (digit (n % 10))) place
    ∙ sym (sets-append (last_digits (at - 1 - to) (n / 10)) (digit (n % 10) ∷ []) l to))

-- ---- a refusal

module _ (telling number at : ℕ) where
  pub length-offset : at < 2 ^ 64 → length (offset_text telling number at) ≤ 24
  length-offset h = either (eqb number telling) (λ q. simp q (omega (arith, length_wide at h))) (λ q. simp q (omega arith))

  pub length_refused : number < 10 ^ 3 → at < 2 ^ 64 → length (refused_with telling number at) ≤ 28
  unfolding refused_with
  length_refused n h =
      let offset : List ℕ = offset_text telling number at in
      omega (arith, length-append (decimal number) (offset ++ newline), length-append offset newline, length-decimal 2 number n, length-offset h)

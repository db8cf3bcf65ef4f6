-- Laws of tables: places, and numbers in bits. Assumes nothing.
use mathlib.Core.Path.{◌≡◌, refl, sym, ap, ap₂, ◌∙◌}
use mathlib.Core.List.{List, [], ◌∷◌, ◌++◌, map, append_assoc}
use Prim.Native.Nat.{ℕ, zero, suc, ◌+◌, ◌-◌, ◌*◌, ◌/◌, ◌%◌, ◌^◌, ◌≤◌, ◌<◌}
use native.Mathlib.Nat.{add-zero, mul_comm, pow-suc}
use native.Mathlib.Omega.{arith}
use borrow.Author.Tests.{ltb-true, ltb-false}
use lib.Dec.{ltb}
use lib.ListN.{length, get_or, take, drop, length-drop}
use lib.Seq.{drop-nil, take-suc, drop-cons, drop-append-add, get_or-drop, drop-drop, take_at, drop_at, take_all}
use Rattle.octets.specs.Bits.{field, bits, laid, number, run}
use Rattle.octets.specs.Tables.{Row, bits_each, widths, filled, Shaped, before, first_not_whole, number_at}
use Rattle.octets.proofs.Laws.{either, length-bits, number-bits, number_append, width, length-laid, bits_split, width_append, width_each, width_run}

-- ---- where a row begins

pub before_next : (i : ℕ) (ws : List ℕ) → before (suc i) ws ≡ before i ws + get_or ws i 0
unfolding before
before_next zero [] = refl
before_next zero (w ∷ ws) = omega arith
before_next (suc i) [] = refl
before_next (suc i) (w ∷ ws) = omega (arith, before_next i ws)

pub before_mono : (i j : ℕ) (ws : List ℕ) → i ≤ j → before i ws ≤ before j ws
unfolding before
before_mono zero j ws h = omega arith
before_mono (suc i) zero ws h = absurd (omega arith)
before_mono (suc i) (suc j) [] h = omega arith
before_mono (suc i) (suc j) (w ∷ ws) h = omega (arith, before_mono i j ws (omega arith))

before_width : (n i : ℕ) (rows : List Row) (values : List (List ℕ)) → Shaped n rows values → width (filled (take i rows) (take i values)) ≡ before i (widths n rows)
unfolding before
before_width n zero rows values s = refl
before_width n (suc i) [] values s = refl
before_width n (suc i) (r ∷ rows) [] s = absurd s
before_width n (suc i) (r ∷ rows) (vs ∷ values) s =
    width_append (map (field (bits_each r)) vs) (filled (take i rows) (take i values))
    ∙ ap₂ ◌+◌ (width_each (bits_each r) vs ∙ s.0) (before_width n i rows values s.1)

-- the rows before it, with their values, have as many bits
pub before_laid : (n i : ℕ) (rows : List Row) (values : List (List ℕ)) → Shaped n rows values → length (laid (filled (take i rows) (take i values))) ≡ before i (widths n rows)
before_laid n i rows values s = length-laid (filled (take i rows) (take i values)) ∙ before_width n i rows values s

-- ---- the first row that n bits do not hold whole

not_whole_cases : (P : ℕ → Type 0) (w : ℕ) (ws : List ℕ) (n : ℕ) → (n < w → P 0) → (w ≤ n → P (suc (first_not_whole ws (n - w)))) → P (first_not_whole (w ∷ ws) n)
unfolding first_not_whole
not_whole_cases P w ws n here on =
    either (ltb n w) (λ t. simp t (here (ltb-true n w t))) (λ t. simp t (on (ltb-false n w t)))

pub not_whole_most : (ws : List ℕ) (n : ℕ) → first_not_whole ws n ≤ length ws
unfolding first_not_whole
not_whole_most [] n = omega arith
not_whole_most (w ∷ ws) n =
    not_whole_cases (λ i. i ≤ length (w ∷ ws)) w ws n (λ h. omega arith) (λ h. omega (arith, not_whole_most ws (n - w)))

-- n bits hold all rows before it, and not this one
pub not_whole_before : (ws : List ℕ) (n j : ℕ) → j ≤ first_not_whole ws n → before j ws ≤ n
unfolding first_not_whole before
not_whole_before ws n zero h = omega arith
not_whole_before [] n (suc j) h = omega arith
not_whole_before (w ∷ ws) n (suc j) h =
    not_whole_cases (λ i. suc j ≤ i → w + before j ws ≤ n) w ws n
    (λ s l. absurd (omega arith))
    (λ s l. omega (arith, not_whole_before ws (n - w) j (omega arith)))
    h

pub not_whole_past : (ws : List ℕ) (n : ℕ) → first_not_whole ws n < length ws → n < before (first_not_whole ws n) ws + get_or ws (first_not_whole ws n) 0
unfolding first_not_whole before
not_whole_past [] n h = absurd (omega arith)
not_whole_past (w ∷ ws) n h =
    not_whole_cases (λ i. i < length (w ∷ ws) → n < before i (w ∷ ws) + get_or (w ∷ ws) i 0) w ws n
    (λ s l. omega arith)
    (λ s l. omega (arith, not_whole_past ws (n - w) (omega arith)))
    h

-- there is one where n bits do not hold all
pub not_whole_within : (ws : List ℕ) (n : ℕ) → n < before (length ws) ws → first_not_whole ws n < length ws
not_whole_within ws n h =
    either (ltb (first_not_whole ws n) (length ws))
    (ltb-true (first_not_whole ws n) (length ws))
    (λ t. absurd (omega (arith, not_whole_before ws n (length ws) (ltb-false (first_not_whole ws n) (length ws) t))))

-- ---- the number in some bits of a byte string, bit by bit

pub length-run-bits : (xs : List ℕ) → length (laid (run xs)) ≡ 8 * length xs
length-run-bits xs = length-laid (run xs) ∙ width_run xs ∙ mul_comm (length xs) 8

pub number_none : (xs : List ℕ) (at : ℕ) → number_at xs at 0 ≡ 0
unfolding number_at number
number_none xs at = refl

pub number_next : (xs : List ℕ) (at k : ℕ) → at + k < length (laid (run xs)) → number_at xs at (suc k) ≡ number_at xs at k * 2 + get_or (laid (run xs)) (at + k) 0
unfolding number_at number
number_next xs at k h =
    let bs : List ℕ = laid (run xs) in
    rw (take-suc (drop at bs) k 0 (omega (arith, length-drop at bs)), number_append, get_or-drop) (omega arith)

-- ---- the number in some bits of one byte

-- the bits of the bytes from k on
drop-run : (k : ℕ) (xs : List ℕ) → drop (8 * k) (laid (run xs)) ≡ laid (run (drop k xs))
unfolding laid bits
drop-run zero xs = refl
drop-run (suc k) [] = drop-nil (8 * suc k)
drop-run (suc k) (x ∷ xs) =
    let next : 8 * suc k ≡ 8 + 8 * k = omega arith in
    rw (next, drop-append-add (bits 8 x)) (drop-run k xs)

-- w bits of a number's, o bits after the first and m bits before the last
bits_inside : (o w m n v : ℕ) (t : List ℕ) → n ≡ o + (w + m) → take w (drop o (bits n v ++ t)) ≡ bits w (v / 2 ^ m)
bits_inside o w m n v t e = simp (e, bits_split, append_assoc, drop_at, take_at, length-bits)

pub number_in-byte : (xs : List ℕ) (k o w : ℕ) → k < length xs → o + w ≤ 8 → number_at xs (8 * k + o) w ≡ get_or xs k 0 / 2 ^ (8 - (o + w)) % 2 ^ w
unfolding number_at laid
number_in-byte xs k o w h f =
    let m : ℕ = 8 - (o + w) in
    rw (← drop-drop, drop-run, drop-cons xs k 0, bits_inside o w m 8 (get_or xs k 0) _ (omega arith)) (number-bits w (get_or xs k 0 / 2 ^ m))

pub bit_in_byte : (xs : List ℕ) (i : ℕ) → i < 8 * length xs → get_or (laid (run xs)) i 0 ≡ get_or xs (i / 8) 0 / 2 ^ (7 - i % 8) % 2
bit_in_byte xs i h =
    let there : 8 * (i / 8) + i % 8 ≡ i = omega arith in
    let behind : 8 - (i % 8 + 1) ≡ 7 - i % 8 = omega arith in
    let one : number_at xs i 1 ≡ get_or xs (i / 8) 0 / 2 ^ (7 - i % 8) % 2 = rw (there, behind) at (number_in-byte xs (i / 8) (i % 8) 1 (omega arith) (omega arith)) in
    omega (arith, number_none xs i, rw add-zero at (number_next xs i 0 (omega (arith, length-run-bits xs))))

-- the number in w bits has no more
pub number_small : (xs : List ℕ) (at w : ℕ) → number_at xs at w < 2 ^ w
unfolding number_at
number_small xs at zero = omega (arith, number_none xs at)
number_small xs at (suc k) =
    let bs : List ℕ = laid (run xs) in
    either (ltb (at + k) (8 * length xs))
    (λ t. let inside = ltb-true (at + k) (8 * length xs) t in omega (arith, number_next xs at k (omega (arith, length-run-bits xs)), bit_in_byte xs (at + k) inside, number_small xs at k, pow-suc 2 k))
    (λ t.
    let past : length (drop at bs) ≤ k = omega (arith, ltb-false (at + k) (8 * length xs) t, length-run-bits xs, length-drop at bs) in
    let same : take (suc k) (drop at bs) ≡ take k (drop at bs) = take_all (suc k) (drop at bs) (omega arith) ∙ sym (take_all k (drop at bs) past) in
    omega (arith, ap number same, number_small xs at k, pow-suc 2 k))

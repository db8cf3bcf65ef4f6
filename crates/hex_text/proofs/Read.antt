-- Laws of bytes that are read from hex; in the code's own terms, a text xs and a place in it instead of what is left of the text. Assumes nothing.
use mathlib.Core.Path.{◌≡◌, refl, sym, ap, ◌∙◌}
use mathlib.Core.Bool.{true, ◌&&◌, and-eq-true_iff}
use mathlib.Core.List.{List, [], ◌∷◌}
use Prim.Native.Nat.{ℕ, zero, suc, ◌+◌, ◌-◌, ◌*◌, ◌≤◌, ◌<◌}
use native.Mathlib.Numerals.{add-one}
use native.Mathlib.Omega.{arith}
use lib.ListN.{length, get_or, take, drop, set}
use lib.Seq.{take_at, drop-drop, get_or-drop, sets, sets-eq}
use Rattle.std.specs.Prelude.{Some, IsSome, is_some, unwrap_or}
use Rattle.std.specs.List.{list_all}
use Rattle.std.proofs.Math.Bool.{and_assoc}
use Rattle.std.proofs.lemmas.Grind.{common_steps}
use Rattle.octets.specs.Bits.{Bytes}
use Rattle.octets.proofs.Laws.{get_d_there}
use Rattle.hex_text.specs.Hex.{digit_of, hex_fits, hex_said}

-- ---- the tests: each of the characters is a digit

pub fits_digits : (n : ℕ) (xs : List ℕ) → 2 * n ≤ length xs → list_all (λ c. is_some (digit_of c)) (take (2 * n) xs) ≡ hex_fits n xs
unfolding hex_fits
fits_digits zero xs h = refl
fits_digits (suc n) [] h = absurd (omega arith)
fits_digits (suc n) (x ∷ []) h = absurd (omega arith)
fits_digits (suc n) (x ∷ y ∷ xs) h =
    let two : 2 * suc n ≡ suc (suc (2 * n)) = omega arith in
    rw (two, fits_digits n xs (omega arith)) (sym (and_assoc (is_some (digit_of x)) (is_some (digit_of y)) (hex_fits n xs)))

-- ---- byte by byte, in the code's own terms: a place in the text instead of what is left of it

said_small : (c : ℕ) → is_some (digit_of c) ≡ true → unwrap_or (digit_of c) 16 < 16
said_small c e = grind (arith, common_steps)

-- the next of n bytes, where i are read
module _ (xs : List ℕ) (from n i : ℕ) (more : i < n) where
  left : n - i ≡ suc (n - (i + 1))
  left = omega arith

  behind : from + 2 * (i + 1) ≡ from + 2 * i + 2
  behind = omega arith

  pub fits_next : hex_fits (n - i) (drop (from + 2 * i) xs) ≡ true → IsSome (digit_of (get_or xs (from + 2 * i) 0)) × IsSome (digit_of (get_or xs (from + 2 * i + 1) 0)) × (hex_fits (n - (i + 1)) (drop (from + 2 * (i + 1)) xs) ≡ true)
  unfolding hex_fits
  fits_next fits =
      let at : ℕ = from + 2 * i in
      let a = (and-eq-true_iff _ _).0 (simp (get_d_there xs at, get_or-drop at xs 1 0, drop-drop) at (rw left at fits)) in
      let b = (and-eq-true_iff _ _).0 a.0 in
      (b.0, b.1, rw behind a.1)

  pub said_next : (l : List ℕ) (a b : ℕ) → digit_of (get_or xs (from + 2 * i) 0) ≡ Some a → digit_of (get_or xs (from + 2 * i + 1) 0) ≡ Some b → sets (set l i (a * 16 + b)) (i + 1) (hex_said (n - (i + 1)) (drop (from + 2 * (i + 1)) xs)) ≡ sets l i (hex_said (n - i) (drop (from + 2 * i) xs))
  unfolding hex_said
  said_next l a b first second =
      let at : ℕ = from + 2 * i in
      rw (left, behind) (simp (get_d_there xs at, get_or-drop at xs 1 0, drop-drop, first, second, add-one i))

pub said_none : (n : ℕ) (xs : List ℕ) → n ≤ 0 → hex_said n xs ≡ []
unfolding hex_said
said_none zero xs none = refl
said_none (suc n) xs none = absurd (omega arith)

-- ---- what is said

pub length-hex_said : (n : ℕ) (xs : List ℕ) → length (hex_said n xs) ≡ n
unfolding hex_said
length-hex_said zero xs = refl
length-hex_said (suc n) xs = ap suc (length-hex_said n (drop 2 xs))

-- put at the start of a buffer, it is its first n
pub take-hex_said : (n : ℕ) (xs l m : List ℕ) → n ≤ length l → m ≡ sets l 0 (hex_said n xs) → take n m ≡ hex_said n xs
take-hex_said n xs l m room put =
    let fit : 0 + length (hex_said n xs) ≤ length l = omega (arith, length-hex_said n xs) in
    ap (take n) (put ∙ sets-eq (hex_said n xs) l 0 fit) ∙ take_at (hex_said n xs) _ n (length-hex_said n xs)

pub bytes-hex_said : (n : ℕ) (xs : List ℕ) → hex_fits n xs ≡ true → Bytes (hex_said n xs)
unfolding hex_fits hex_said
bytes-hex_said zero xs e = tt
bytes-hex_said (suc n) xs e =
    let first = is_some (digit_of (get_or xs 0 0)) in
    let second = is_some (digit_of (get_or xs 1 0)) in
    let a = (and-eq-true_iff (first && second) (hex_fits n (drop 2 xs))).0 e in
    let b = (and-eq-true_iff first second).0 a.0 in
    (omega (arith, said_small (get_or xs 0 0) b.0, said_small (get_or xs 1 0) b.1), bytes-hex_said n (drop 2 xs) a.1)

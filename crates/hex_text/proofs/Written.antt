-- Laws of bytes that are written in hex; in the code's own terms, what is left put at the place that it has come to. Assumes nothing.
use mathlib.Core.Path.{◌≡◌, refl, ap, ap₂, ◌∙◌}
use mathlib.Core.Bool.{true}
use mathlib.Core.List.{List, [], ◌∷◌, flat_map}
use Prim.Native.Nat.{ℕ, suc, ◌+◌, ◌*◌, ◌/◌, ◌%◌, ◌≤◌, ◌<◌}
use native.Mathlib.Numerals.{add-one}
use native.Mathlib.Omega.{arith}
use lib.ListN.{length, get_or, drop, set, drop_of_length-le}
use lib.Seq.{drop-cons, sets}
use Rattle.std.specs.Prelude.{Option, unwrap_or}
use Rattle.octets.specs.Bits.{Bytes}
use Rattle.hex_text.specs.Hex.{glyph, hex, hex_fits, hex_said}
use Rattle.hex_text.proofs.Tables.{digit_glyph}

pub length-hex : (xs : List ℕ) → length (hex xs) ≡ 2 * length xs
unfolding hex flat_map
length-hex [] = refl
length-hex (x ∷ xs) = omega (arith, length-hex xs)

-- what is written is read again
pub hex_typed : (xs : List ℕ) → Bytes xs → (hex_fits (length xs) (hex xs) ≡ true) × (hex_said (length xs) (hex xs) ≡ xs)
unfolding hex flat_map hex_fits hex_said
hex_typed [] b = (refl, refl)
hex_typed (x ∷ xs) b =
    let first = digit_glyph (x / 16) (omega arith) in
    let second = digit_glyph (x % 16) (omega arith) in
    let more = hex_typed xs b.1 in
    let byte : x / 16 * 16 + x % 16 ≡ x = omega arith in
    (simp (first, second) more.0, ap₂ ◌∷◌ (ap₂ (λ (a c : Option ℕ). unwrap_or a 16 * 16 + unwrap_or c 16) first second ∙ byte) more.1)

-- ---- byte by byte

pub hex_next : (xs l : List ℕ) (to i hi lo : ℕ) → i < length xs → hi ≡ glyph (get_or xs i 0 / 16) → lo ≡ glyph (get_or xs i 0 % 16) → sets (set (set l (to + 2 * i) hi) (to + 2 * i + 1) lo) (to + 2 * (i + 1)) (hex (drop (i + 1) xs)) ≡ sets l (to + 2 * i) (hex (drop i xs))
unfolding hex flat_map
hex_next xs l to i hi lo h p q =
    let next : to + 2 * (i + 1) ≡ suc (suc (to + 2 * i)) = omega arith in
    rw (next, add-one (to + 2 * i), add-one i, drop-cons xs i 0 h)
    (λ j. sets (set (set l (to + 2 * i) (p j)) (suc (to + 2 * i)) (q j)) (suc (suc (to + 2 * i))) (hex (drop (suc i) xs)))

pub hex_none : (xs l : List ℕ) (k i : ℕ) → length xs ≤ i → sets l k (hex (drop i xs)) ≡ l
unfolding hex flat_map
hex_none xs l k i h = ap (λ (t : List ℕ). sets l k (hex t)) (drop_of_length-le xs h)

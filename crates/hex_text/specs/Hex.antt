-- Bytes in hex: two digits each, written in lower case, read in either case.
use Rattle.std.specs.Prelude.{ℕ, zero, suc, ◌+◌, ◌-◌, ◌*◌, ◌/◌, ◌%◌, Bool, true, cond, ◌&&◌, leb, get_or, drop, Option, Some, None, is_some, unwrap_or}
use Prim.Native.Char.{Char, code}
use mathlib.Core.List.{List, [], ◌∷◌, flat_map}
use Rattle.text.specs.Text.{text}

abbrev pub glyph : ℕ → ℕ
glyph n = get_or (text "0123456789abcdef") n 0

unfoldable pub hex : List ℕ → List ℕ
hex bytes = flat_map (λ b. glyph (b / 16) ∷ glyph (b % 16) ∷ []) bytes

abbrev pub within : Char → Char → ℕ → Bool
within low high c = leb (code low) c && leb c (code high)

-- the value of a hex digit; none for any other character
abbrev pub digit_of : ℕ → Option ℕ
digit_of c =
    cond (within "0" "9" c) (Some (c - code "0"))
    (cond (within "A" "F" c) (Some (10 + (c - code "A")))
    (cond (within "a" "f" c) (Some (10 + (c - code "a"))) None))

-- n bytes in hex stand at the start of xs; those bytes, which are asked for where they stand there
unfoldable pub hex_fits : ℕ → List ℕ → Bool
hex_fits zero xs = true
hex_fits (suc n) xs = (is_some (digit_of (get_or xs 0 0)) && is_some (digit_of (get_or xs 1 0))) && hex_fits n (drop 2 xs)

unfoldable pub hex_said : ℕ → List ℕ → List ℕ
hex_said zero xs = []
hex_said (suc n) xs = (unwrap_or (digit_of (get_or xs 0 0)) 16 * 16 + unwrap_or (digit_of (get_or xs 1 0)) 16) ∷ hex_said n (drop 2 xs)

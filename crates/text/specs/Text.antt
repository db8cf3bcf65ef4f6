-- Text as bytes: words as they are written, and numbers in decimal.
use Rattle.std.specs.Prelude.{ℕ, zero, suc, ◌+◌, ◌/◌, ◌%◌, ◌≡◌, cond, List, [], ◌∷◌, ◌++◌, ltb, eqb, length}
use Prim.Native.Char.{code}
use Prim.Native.String.{String}
use Prim.Native.String.{[] as empty, ◌∷◌ as then}
use Rattle.std.proofs.lemmas.List.Edits.{sets}

-- the bytes of a word
abbrev pub text : String → List ℕ
text empty = []
text (then c s) = code c ∷ text s

abbrev pub newline : List ℕ
newline = text "\n"

-- the digit of a number under 10
abbrev pub digit : ℕ → ℕ
digit n = code "0" + n

-- n in decimal, without leading zeros; k may be any number above n
unfoldable pub decimal_in : ℕ → ℕ → List ℕ
decimal_in zero n = []
decimal_in (suc k) n = cond (ltb n 10) (digit n ∷ []) (decimal_in k (n / 10) ++ (digit (n % 10) ∷ []))

unfoldable pub decimal : ℕ → List ℕ
decimal n = decimal_in (suc n) n

-- a number and the end of its line
abbrev pub numbered : ℕ → List ℕ
numbered n = decimal n ++ newline

-- ---- a refusal: its number; behind the one number that tells an offset, that; and the end of the line

abbrev pub offset_text : ℕ → ℕ → ℕ → List ℕ
offset_text telling number at = cond (eqb number telling) (text " at " ++ decimal at) []

unfoldable pub refused_with : ℕ → ℕ → ℕ → List ℕ
refused_with telling number at = decimal number ++ (offset_text telling number at ++ newline)

-- the bytes vs, put at the place to of l, leave m and end before the place end
abbrev pub Put : List ℕ → List ℕ → ℕ → List ℕ → ℕ → Type 0
Put vs l to m end = (end ≡ to + length vs) × (m ≡ sets l to vs)

-- The word of the program `wrap`: a payload's size, in decimal digits.
use Rattle.std.specs.Prelude.{ℕ, ◌+◌, ◌*◌, ◌-◌, Bool, true, not, cond, ◌&&◌, List, [], ◌∷◌, ltb, leb, eqb, length, Option, Some, None}
use Prim.Native.Char.{code}
use Rattle.wrapper.specs.Wrap.{most_size, is_size}

abbrev pub is_digit : ℕ → Bool
is_digit c = leb (code "0") c && leb c (code "9")

abbrev pub all_digits : List ℕ → Bool
all_digits [] = true
all_digits (c ∷ cs) = is_digit c && all_digits cs

-- the number that digits say, behind a number that others said
abbrev pub number_from : ℕ → List ℕ → ℕ
number_from n [] = n
number_from n (c ∷ cs) = number_from (n * 10 + (c - code "0")) cs

-- the size that a word says, of any number of digits, if a payload may have it
unfoldable pub size_in : List ℕ → Option ℕ
size_in word =
    let n = number_from 0 word in
    cond (not (eqb (length word) 0) && (all_digits word && is_size n)) (Some n) None

-- a number as far as it matters: all that are above the limits are one
abbrev pub capped : ℕ → ℕ
capped n = cond (ltb most_size n) (most_size + 1) n

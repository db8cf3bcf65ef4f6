-- A bit stream syntax table: its rows in order, each with the field's name and its width in bits; the fields that it has with values; where a
-- row begins, and which is the first that some bits do not hold whole.
use Rattle.std.specs.Prelude.{ℕ, zero, suc, ◌+◌, ◌-◌, ◌*◌, ◌≡◌, cond, List, [], ◌∷◌, ◌++◌, map, ltb, length, take, drop}
use Prim.Native.String.{String}
use Rattle.octets.specs.Bits.{Field, field, laid, number, run}

-- ---- rows

-- a field of so many bits; or a run of bytes, which is one field by its name, and how many bytes it has is said elsewhere
pub data Row : Type 0 where
  row : String → ℕ → Row
  byte_run : String → Row

abbrev pub name_for : Row → String
name_for (row name w) = name
name_for (byte_run name) = name

-- the bits of one value, and those of the row where a run has n bytes
abbrev pub bits_each : Row → ℕ
bits_each (row name w) = w
bits_each (byte_run name) = 8

abbrev pub bits_in : ℕ → Row → ℕ
bits_in n (row name w) = w
bits_in n (byte_run name) = 8 * n

abbrev pub widths : ℕ → List Row → List ℕ
widths n rows = map (bits_in n) rows

-- ---- a table with values, row by row: one for a field, one for each byte of a run

abbrev pub one : ℕ → List ℕ
one v = v ∷ []

abbrev pub filled : List Row → List (List ℕ) → List Field
filled [] values = []
filled (r ∷ rows) [] = []
filled (r ∷ rows) (vs ∷ values) = map (field (bits_each r)) vs ++ filled rows values

-- each row's values fill its bits, where a run has n bytes
abbrev pub Shaped : ℕ → List Row → List (List ℕ) → Type 0
Shaped n [] values = Unit {0}
Shaped n (r ∷ rows) [] = ⊥
Shaped n (r ∷ rows) (vs ∷ values) = (length vs * bits_each r ≡ bits_in n r) × Shaped n rows values

-- ---- places, from the widths of the rows

-- the bits before row i: the running sum of the widths
unfoldable pub before : ℕ → List ℕ → ℕ
before zero ws = 0
before (suc i) [] = 0
before (suc i) (w ∷ ws) = w + before i ws

-- the first row that n bits do not hold whole; the number of rows, if they hold all
unfoldable pub first_not_whole : List ℕ → ℕ → ℕ
first_not_whole [] n = 0
first_not_whole (w ∷ ws) n = cond (ltb n w) 0 (suc (first_not_whole ws (n - w)))

-- the number in w bits of the bytes xs, from the bit `at` on
unfoldable pub number_at : List ℕ → ℕ → ℕ → ℕ
number_at xs at w = number (take w (drop at (laid (run xs))))

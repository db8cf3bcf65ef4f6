-- How a bit stream syntax table becomes bytes: its fields' bits one after the other, most significant bit first, eight to a byte.
use Rattle.std.specs.Prelude.{ℕ, zero, suc, ◌+◌, ◌*◌, ◌/◌, ◌%◌, ◌^◌, ◌<◌, List, [], ◌∷◌, ◌++◌, map, length, take, drop}
use Rattle.octets.specs.Each.{Each}

-- a field of a table: how many bits it has, and the number in them
pub data Field : Type 0 where
  field : ℕ → ℕ → Field

-- the w bits of v, most significant first; a bit is 0 or 1
unfoldable pub bits : ℕ → ℕ → List ℕ
bits zero v = []
bits (suc w) v = v / 2 ^ w % 2 ∷ bits w v

-- the bits of a table's fields, in order
unfoldable pub laid : List Field → List ℕ
laid [] = []
laid (field w v ∷ fs) = bits w v ++ laid fs

-- the number that a string of bits says
unfoldable pub number : List ℕ → ℕ
number [] = 0
number (b ∷ bs) = (b * 2 ^ length bs) + number bs

-- the first n bytes of a string of bits
unfoldable pub octets : ℕ → List ℕ → List ℕ
octets zero bs = []
octets (suc n) bs = number (take 8 bs) ∷ octets n (drop 8 bs)

-- the bytes of a table's fields
unfoldable pub bytes_of : List Field → List ℕ
bytes_of fs = octets (length (laid fs) / 8) (laid fs)

-- a number fits its field
abbrev pub InWidth : Field → Type 0
InWidth (field w v) = v < 2 ^ w

-- every number fits its field
abbrev pub Held : List Field → Type 0
Held fs = Each InWidth fs

-- a run of bytes, as fields
abbrev pub run : List ℕ → List Field
run xs = map (field 8) xs

-- every element is a byte
abbrev pub Bytes : List ℕ → Type 0
Bytes xs = Held (run xs)

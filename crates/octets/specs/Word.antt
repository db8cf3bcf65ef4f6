-- Two-byte numbers, big-endian.
use Rattle.std.specs.Prelude.{ℕ, ◌+◌, ◌*◌, ◌/◌, ◌%◌, List, [], ◌∷◌}

-- the number that two bytes say
abbrev pub word : ℕ → ℕ → ℕ
word first second = first * 256 + second

-- the two bytes of a number
abbrev pub high : ℕ → ℕ
high w = w / 256

abbrev pub low : ℕ → ℕ
low w = w % 256

abbrev pub word_bytes : ℕ → List ℕ
word_bytes w = high w ∷ low w ∷ []

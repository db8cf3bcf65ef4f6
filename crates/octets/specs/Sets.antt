-- A set of numbers as one number: i is in it where its bit i is 1.
use Rattle.std.specs.Prelude.{ℕ, ◌+◌, ◌/◌, ◌%◌, ◌^◌, Bool, eqb}

abbrev pub holds : ℕ → ℕ → Bool
holds set i = eqb (set / 2 ^ i % 2) 1

-- the set with i besides, which it does not hold
abbrev pub including : ℕ → ℕ → ℕ
including set i = set + 2 ^ i

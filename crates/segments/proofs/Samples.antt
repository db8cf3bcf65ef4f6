-- Document 01's samples of segment headers, by computation: which number the checks on a segment give. Assumes nothing.
use mathlib.Core.Path.{◌≡◌, refl}
use mathlib.Core.List.{List, [], ◌∷◌, map}
use Prim.Native.Nat.{ℕ}
use lib.ListN.{replicate}
use Rattle.meaning.specs.Numbers.{checked_number}
use Rattle.segments.specs.Segment.{segment_checks}

-- the two bytes of a header, how many bytes follow it, and the number
pub record Sample : Type 0 where
  pub first : ℕ
  pub second : ℕ
  pub follow : ℕ
  pub number : ℕ

sample : ℕ → ℕ → ℕ → ℕ → Sample
sample a b m n = record { first = a; second = b; follow = m; number = n }

-- what the definitions give
pub given : Sample → Sample
given s = sample s.first s.second s.follow (checked_number (segment_checks (s.first ∷ s.second ∷ replicate s.follow 0)))

pub samples : List Sample
samples =
    sample 0x32 0x00 35 0
    ∷ sample 0x32 0x00 34 2
    ∷ sample 0x32 0x00 36 2
    ∷ sample 0x72 0x00 35 3
    ∷ sample 0x33 0x00 35 4
    ∷ sample 0x36 0x00 35 5
    ∷ sample 0x32 0x10 35 6
    ∷ sample 0x77 0x10 34 2
    ∷ sample 0x77 0x10 35 3
    ∷ sample 0x37 0x10 35 4
    ∷ sample 0x36 0x10 35 5
    ∷ []

pub samples_hold : map given samples ≡ samples
unfolding samples given sample segment_checks
samples_hold = refl

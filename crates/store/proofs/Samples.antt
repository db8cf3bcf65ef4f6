-- Small stores, by computation: what stands at their start, and its number. Assumes nothing.
use mathlib.Core.Path.{◌≡◌, refl}
use mathlib.Core.List.{List, [], ◌∷◌, ◌++◌, map}
use Prim.Native.Nat.{ℕ}
use lib.ListN.{replicate}
use Rattle.records.specs.Records.{mark_in, entry_in}
use Rattle.std.specs.Prelude.{Some, None, Ok}
use Rattle.store.specs.Store.{Next, broken, next_in, next_number}

-- the first bytes of a store, how many zeros follow them, what stands there, and the number
pub record Sample : Type 0 where
  pub first : List ℕ
  pub follow : ℕ
  pub next : Next
  pub number : ℕ

sample : List ℕ → ℕ → Next → ℕ → Sample
sample first follow next number = record { first = first; follow = follow; next = next; number = number }

-- what the definitions give
pub given : Sample → Sample
given s = let next = next_in (s.first ++ replicate s.follow 0) in sample s.first s.follow next (next_number next)

-- none; the least and the longest packet; one byte less, and one more; another mark; a mark that is cut, a length, a packet
pub samples : List Sample
samples =
    sample [] 0 (Ok None) 0
    ∷ sample (0x49 ∷ 0x50 ∷ 0x00 ∷ 0x1C ∷ []) 28 (Ok (Some 28)) 0
    ∷ sample (0x49 ∷ 0x50 ∷ 0x05 ∷ 0xDC ∷ []) 1500 (Ok (Some 1500)) 0
    ∷ sample (0x49 ∷ 0x50 ∷ 0x00 ∷ 0x1B ∷ []) 27 broken 15
    ∷ sample (0x49 ∷ 0x50 ∷ 0x05 ∷ 0xDD ∷ []) 1501 broken 15
    ∷ sample (0x49 ∷ 0x51 ∷ 0x00 ∷ 0x1C ∷ []) 28 broken 15
    ∷ sample (0x49 ∷ []) 0 broken 15
    ∷ sample (0x49 ∷ 0x50 ∷ 0x00 ∷ []) 0 broken 15
    ∷ sample (0x49 ∷ 0x50 ∷ 0x00 ∷ 0x1C ∷ []) 27 broken 15
    ∷ []

pub samples_hold : map given samples ≡ samples
unfolding samples given sample next_in entry_in mark_in
samples_hold = refl

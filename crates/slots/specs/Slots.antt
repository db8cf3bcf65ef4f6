-- Document 01, "The desk": a slot and its bytes, 16 places of 35. Which places are held is a set of 16 bits.
use Rattle.std.specs.Prelude.{ℕ, zero, suc, ◌+◌, ◌-◌, ◌^◌, Bool, true, false, cond, not, ◌&&◌, ◌||◌, List, eqb, ltb, length, replicate}
use Rattle.std.specs.Int.Count.{ones}
use Rattle.meaning.specs.Sizes.{longest_chunk}
use Rattle.slots.specs.declared.Slot.{Slot}
use Rattle.octets.specs.Same.{same}
use Rattle.octets.specs.Sets.{holds, including}
use Rattle.segments.specs.Segment.{payload_bytes, most_segments, place_of, number_in, last_in, payload_in}

abbrev pub zeros : ℕ → List ℕ
zeros n = replicate n 0

-- whether every number below n passes a test
abbrev pub all_below : ℕ → (ℕ → Bool) → Bool
all_below zero test = true
all_below (suc n) test = test n && all_below n test

-- ---- slots

abbrev pub empty_slot : Slot
empty_slot = record { last = 0; held = 0; spoiled = false }

abbrev pub spoiled_slot : Slot
spoiled_slot = record { last = 0; held = 0; spoiled = true }

abbrev pub no_bytes : List ℕ
no_bytes = zeros longest_chunk

-- how many segments are still missing: last + 1 less the number held
abbrev pub missing_in : Slot → ℕ
missing_in s = s.last + 1 - ones s.held

-- the slot is empty or spoiled, or has a last number of at most 15 and holds at least one segment and none above the last
abbrev pub numbers_fit : Slot → Bool
numbers_fit s =
    cond (eqb s.held 0) (eqb s.last 0)
    (not s.spoiled && (ltb s.last most_segments && ltb s.held (2 ^ (s.last + 1))))

-- every place not held is all zeros; so an empty or spoiled slot holds zeros only
abbrev pub bytes_fit : ℕ → List ℕ → Bool
bytes_fit held bytes = all_below most_segments (λ i. holds held i || same (place_of bytes i) (zeros payload_bytes))

-- a slot is well formed; that it has 560 bytes is so in every desk, by the type of the desk's
unfoldable pub slot_fits : Slot → List ℕ → Bool
slot_fits s bytes = eqb (length bytes) longest_chunk && (numbers_fit s && bytes_fit s.held bytes)

-- ---- a segment xs comes to a slot

-- the slot is spoiled, or its last number differs, or the place is held with other payload
unfoldable pub clashing : Slot → List ℕ → List ℕ → Bool
clashing s bytes xs =
    s.spoiled
    || (not (eqb s.held 0) && not (eqb s.last (last_in xs))
    || holds s.held (number_in xs) && not (same (place_of bytes (number_in xs)) (payload_in xs)))

-- the slot with the segment held besides
abbrev pub holding : Slot → List ℕ → Slot
holding s xs = record { last = last_in xs; held = including s.held (number_in xs); spoiled = false }

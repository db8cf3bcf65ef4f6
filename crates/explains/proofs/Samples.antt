-- Document 01's samples and others by computation: what is explained of a chunk, of a segment, and of a segment with a slot. Assumes nothing.
use mathlib.Core.Path.{◌≡◌, refl}
use mathlib.Core.Bool.{false}
use mathlib.Core.List.{List, [], ◌∷◌, ◌++◌, map}
use Prim.Native.Nat.{ℕ}
use Rattle.std.proofs.Common.{Option, None, Some}
use lib.ListN.{take, replicate}
use Rattle.octets.specs.Bits.{bits, laid, number}
use Rattle.octets.specs.Tables.{before, first_not_whole, number_at}
use Rattle.meaning.specs.Reading.{checks, ensembles_checks}
use Rattle.segments.specs.Segment.{segment_checks}
use Rattle.slots.specs.declared.Slot.{Slot}
use Rattle.slots.specs.Slots.{spoiled_slot, no_bytes, clashing}
use Rattle.fields.specs.declared.Table.TheVariants.{Chunk, Service, Segment}
use Rattle.explains.specs.declared.Field.TheVariants.{Length, Row, Payload}
use Rattle.explains.specs.declared.Explained.{Explained}
use Rattle.explains.specs.declared.Explained.TheVariants.{Found, Spoiled}
use Rattle.explains.specs.Explaining.{chunk_explained, segment_explained, first_differing, gathered_explained}

-- some bytes, and what is explained of them
abbrev Sample : Type 0
Sample = List ℕ × Option Explained

-- ---- chunks

-- document 01's first sample
first_chunk : List ℕ
first_chunk = 0x00 ∷ 0x02 ∷ 0x01 ∷ 0x23 ∷ 0x01 ∷ 0x05 ∷ 0xE0 ∷ 0x83 ∷ 0x01 ∷ 0x0A ∷ 0x01 ∷ 0xE6 ∷ []

pub chunks : List Sample
chunks =
    (first_chunk, None)
    ∷ (take 11 first_chunk, Some (Found 9 (Row Service 1) 88 11))
    ∷ ([], Some (Found 9 (Row Chunk 0) 0 0))
    ∷ (0x00 ∷ [], Some (Found 9 (Row Chunk 3) 8 1))
    ∷ (0x40 ∷ 0x00 ∷ [], Some (Found 5 (Row Chunk 0) 0 1))
    ∷ (replicate 561 0x00, Some (Found 8 Length 0 561))
    ∷ []

pub chunks_hold : map (λ (s : Sample). (s.0, chunk_explained s.0)) chunks ≡ chunks
unfolding chunks first_chunk chunk_explained checks ensembles_checks before first_not_whole number_at number laid bits
chunks_hold = refl

-- ---- segments: the two bytes of the header, and how many bytes follow it

segment_of : ℕ → ℕ → ℕ → List ℕ
segment_of first second follow = first ∷ second ∷ replicate follow 0

pub segments : List Sample
segments =
    (segment_of 0x32 0x00 35, None)
    ∷ (segment_of 0x32 0x00 34, Some (Found 2 Length 0 36))
    ∷ (segment_of 0x32 0x00 36, Some (Found 2 Length 0 38))
    ∷ (segment_of 0x72 0x00 35, Some (Found 3 (Row Segment 0) 0 1))
    ∷ (segment_of 0x33 0x00 35, Some (Found 4 (Row Segment 5) 7 1))
    ∷ (segment_of 0x36 0x00 35, Some (Found 5 (Row Segment 3) 4 1))
    ∷ (segment_of 0x32 0x10 35, Some (Found 6 (Row Segment 6) 8 1))
    ∷ (segment_of 0x77 0x10 34, Some (Found 2 Length 0 36))
    ∷ (segment_of 0x77 0x10 35, Some (Found 3 (Row Segment 0) 0 1))
    ∷ (segment_of 0x37 0x10 35, Some (Found 4 (Row Segment 5) 7 1))
    ∷ (segment_of 0x36 0x10 35, Some (Found 5 (Row Segment 3) 4 1))
    ∷ []

pub segments_hold : map (λ (s : Sample). (s.0, segment_explained s.0)) segments ≡ segments
unfolding segments segment_of segment_explained segment_checks before number_at number laid bits
segments_hold = refl

-- ---- segments of a chunk of one, and a slot that holds one of zeros; and with a slot that is spoiled

one_held : ℕ → Slot
one_held last = record { last = last; held = 1; spoiled = false }

-- a payload of zeros but for its fifth byte
other_payload : List ℕ
other_payload = replicate 4 0 ++ (0x09 ∷ replicate 30 0)

pub clashes : List (Slot × List ℕ × Option Explained)
clashes =
    (one_held 0, segment_of 0x32 0x00 35, None)
    ∷ (one_held 0, 0x32 ∷ 0x00 ∷ other_payload, Some (Found 7 Payload 48 9))
    ∷ (one_held 1, segment_of 0x32 0x00 35, Some (Found 7 (Row Segment 7) 12 0))
    ∷ (spoiled_slot, segment_of 0x32 0x00 35, Some Spoiled)
    ∷ (spoiled_slot, segment_of 0x32 0x10 35, Some (Found 6 (Row Segment 6) 8 1))
    ∷ []

pub clashes-hold : map (λ (s : Slot × List ℕ × Option Explained). (s.0, s.1, gathered_explained s.0 no_bytes s.1)) clashes ≡ clashes
unfolding clashes one_held other_payload segment_of gathered_explained segment_checks clashing first_differing before number_at number laid bits
clashes-hold = refl

-- Document 02, 8/14: the field at fault in a refused chunk or segment, its bit offset, and the value found.
use Rattle.std.specs.Prelude.{ℕ, suc, ◌+◌, ◌-◌, ◌*◌, cond, not, List, [], ◌∷◌, eqb, length, Result, Ok, Err, Option, None, Some}
use Rattle.octets.specs.Checks.{check}
use Rattle.octets.specs.Tables.{number_at}
use Rattle.meaning.specs.declared.Part.{Part}
use Rattle.meaning.specs.declared.Part.TheVariants.{Header, EnsembleFields, SingleService}
use Rattle.meaning.specs.declared.Refusal.{Refusal}
use Rattle.meaning.specs.declared.Refusal.TheVariants.{ShortBuffer, SegmentLength, SegmentType, ErrorBit, OtherMajor, NumberAboveLast, Clash, TooLong, EndsEarly, KindDiffers, BadDesk}
use Rattle.meaning.specs.Numbers.{checked_number}
use Rattle.meaning.specs.Reading.{h_in, e_in, s_in, checks}
use Rattle.segments.specs.Segment.{segment_header_bytes, place_of, number_in, last_in, payload_in, segment_checks}
use Rattle.slots.specs.declared.Slot.{Slot}
use Rattle.slots.specs.Slots.{clashing}
use Rattle.fields.specs.declared.Table.{Table}
use Rattle.fields.specs.declared.Table.TheVariants.{Chunk, Ensemble, Service, Segment}
use Rattle.fields.specs.Fields.{widths_of, cut_in, found_in}
use Rattle.explains.specs.declared.Field.TheVariants.{Length, Row, Payload}
use Rattle.explains.specs.declared.Explained.{Explained}
use Rattle.explains.specs.declared.Explained.TheVariants.{Found, Spoiled}

-- an answer in numbers: that of the refusal which is explained, 0 where there is nothing to explain; the offset in bits, and the value found. What
-- an answer does not say is 0
pub record ExplainedValues : Type 0 where
  pub number : ℕ
  pub at : ℕ
  pub value : ℕ

abbrev pub explained_values : Option Explained → ExplainedValues
explained_values None = record { number = 0; at = 0; value = 0 }
explained_values (Some (Found n field at value)) = record { number = n; at = at; value = value }
explained_values (Some Spoiled) = record { number = 7; at = 0; value = 0 }

-- ---- what may be at fault in the bytes xs that are refused with n

-- their length
abbrev pub length_fault : ℕ → List ℕ → Explained
length_fault n xs = Found n Length 0 (length xs)

-- the widths of a table's rows in the chunk or segment xs: the chunk's header says how long the run of extension bytes is
abbrev pub run_in : Table → List ℕ → ℕ
run_in Chunk xs = h_in xs
run_in Ensemble xs = e_in xs
run_in Service xs = s_in xs
run_in Segment xs = 0

abbrev pub widths_in : Table → List ℕ → List ℕ
widths_in t xs = widths_of (run_in t xs) t

-- row i of the table that they begin with: the number in its bits
abbrev pub row_fault : ℕ → Table → ℕ → List ℕ → Explained
row_fault n t i xs = let found = found_in (widths_in t xs) i xs in Found n (Row t i) found.at found.value

-- ---- a chunk: 8, 9, 5, 9, in the reader's order

-- Table 6.5 or a loop of Table 6.6, by what does not fit whole
abbrev pub table_of : Part → Table
table_of Header = Chunk
table_of EnsembleFields = Ensemble
table_of SingleService = Service

-- the first row that is not whole, of the thing at the byte `at` of the chunk
abbrev pub cut_fault : Part → ℕ → List ℕ → Explained
cut_fault part at xs =
    let cut = cut_in (widths_in (table_of part) xs) (8 * (length xs - at)) in
    Found 9 (Row (table_of part) cut.row) (8 * at + cut.at) (length xs)

abbrev pub chunk_fault : Refusal → List ℕ → Option Explained
chunk_fault TooLong xs = Some (length_fault 8 xs)
chunk_fault (EndsEarly part at) xs = Some (cut_fault part at xs)
chunk_fault OtherMajor xs = Some (row_fault 5 Chunk 0 xs)  -- FIC_chunk_major_protocol_version
-- the reader's checks give no other
chunk_fault ShortBuffer xs = None
chunk_fault SegmentLength xs = None
chunk_fault SegmentType xs = None
chunk_fault ErrorBit xs = None
chunk_fault NumberAboveLast xs = None
chunk_fault Clash xs = None
chunk_fault KindDiffers xs = None
chunk_fault BadDesk xs = None

abbrev pub chunk_by : Result Unit Refusal → List ℕ → Option Explained
chunk_by (Ok _) xs = None
chunk_by (Err f) xs = chunk_fault f xs

unfoldable pub chunk_explained : List ℕ → Option Explained
chunk_explained xs = chunk_by (checks xs) xs

-- ---- a segment: 2 to 6

-- the row of Table 6.9 that a number is about
abbrev pub segment_row : ℕ → ℕ
segment_row n =
    cond (eqb n 3) 0  -- FIC_segment_type
    (cond (eqb n 4) 5  -- error_indicator
    (cond (eqb n 5) 3  -- FIC_chunk_major_protocol_version
    (cond (eqb n 6) 6  -- FIC_segment_num
    7)))  -- FIC_last_segment_num

abbrev pub segment_fault : ℕ → List ℕ → Explained
segment_fault n xs = cond (eqb n 2) (length_fault 2 xs) (row_fault n Segment (segment_row n) xs)

-- by the number of the checks on the segment itself, 0 where it passes them, and what there is to say then
abbrev pub segment_by : ℕ → Option Explained → List ℕ → Option Explained
segment_by n passed xs = cond (eqb n 0) passed (Some (segment_fault n xs))

unfoldable pub segment_explained : List ℕ → Option Explained
segment_explained xs = segment_by (checked_number (segment_checks xs)) None xs

-- ---- a segment and the slot of its kind: then 7

-- the first place at which zs has not the byte of ys
unfoldable pub first_differing : List ℕ → List ℕ → ℕ
first_differing [] zs = 0
first_differing (y ∷ ys) [] = 0
first_differing (y ∷ ys) (z ∷ zs) = cond (eqb y z) (suc (first_differing ys zs)) 0

-- the byte i of the segment's payload
abbrev pub payload_fault : ℕ → List ℕ → Explained
payload_fault i xs = let at = 8 * (segment_header_bytes + i) in Found 7 Payload at (number_at xs at 8)

-- what the segment clashes with: a slot that was spoiled before, its last number, or the payload that it holds
abbrev pub clash_fault : Slot → List ℕ → List ℕ → Explained
clash_fault s bytes xs =
    check s.spoiled Spoiled
    (check (not (eqb s.last (last_in xs))) (segment_fault 7 xs)
    (payload_fault (first_differing (payload_in xs) (place_of bytes (number_in xs))) xs))

abbrev pub clash_explained : Slot → List ℕ → List ℕ → Option Explained
clash_explained s bytes xs = cond (clashing s bytes xs) (Some (clash_fault s bytes xs)) None

unfoldable pub gathered_explained : Slot → List ℕ → List ℕ → Option Explained
gathered_explained s bytes xs = segment_by (checked_number (segment_checks xs)) (clash_explained s bytes xs) xs

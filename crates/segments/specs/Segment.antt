-- A/153 Part 3:2013, Table 6.9: the fields of a FIC segment in the standard's order and the bytes that they make; and document 01's checks on
-- a segment by itself, with the fields by their places.
use Rattle.std.specs.Prelude.{ℕ, ◌*◌, ◌/◌, ◌%◌, not, List, [], ◌∷◌, ◌++◌, ltb, eqb, length, get_or, take, drop, Result, Ok, Err}
use Rattle.octets.specs.Bits.{Field, run, bytes_of}
use Rattle.octets.specs.Tables.{Row, row, one, filled}
use Rattle.octets.specs.Checks.{check}
use Rattle.meaning.specs.declared.Refusal.{Refusal}
use Rattle.meaning.specs.declared.Kind.{Kind}
use Rattle.meaning.specs.declared.Refusal.TheVariants.{SegmentLength, SegmentType, ErrorBit, OtherMajor, NumberAboveLast}
use Rattle.meaning.specs.Lists.{kind_of}

-- ---- sizes: a segment, its header, its payload; how many segments a chunk has at the most

abbrev pub segment_bytes : ℕ
segment_bytes = 37

abbrev pub segment_header_bytes : ℕ
segment_header_bytes = 2

abbrev pub payload_bytes : ℕ
payload_bytes = 35

abbrev pub most_segments : ℕ
most_segments = 16

-- the i-th 35 bytes of a byte string
abbrev pub place_of : List ℕ → ℕ → List ℕ
place_of bytes i = take payload_bytes (drop (payload_bytes * i) bytes)

-- ---- Table 6.9

pub record Head : Type 0 where
  pub sort : ℕ
  pub reserved : ℕ
  pub wake : ℕ
  pub major : ℕ
  pub current : ℕ
  pub error : ℕ
  pub number : ℕ
  pub last : ℕ

abbrev pub segment_table : List Row
segment_table =
    row "FIC_segment_type" 2
    ∷ row "reserved" 1
    ∷ row "wake_up_indicator" 1
    ∷ row "FIC_chunk_major_protocol_version" 2
    ∷ row "current_next_indicator" 1
    ∷ row "error_indicator" 1
    ∷ row "FIC_segment_num" 4
    ∷ row "FIC_last_segment_num" 4
    ∷ []

unfoldable pub head_fields : Head → List Field
head_fields h =
    filled segment_table
    (one h.sort
    ∷ one h.reserved
    ∷ one h.wake
    ∷ one h.major
    ∷ one h.current
    ∷ one h.error
    ∷ one h.number
    ∷ one h.last
    ∷ [])

-- the bytes of a segment with this header and payload
unfoldable pub segment : Head → List ℕ → List ℕ
segment h payload = bytes_of (head_fields h ++ run payload)

-- ---- the fields of the segment xs

abbrev pub sort_in : List ℕ → ℕ
sort_in xs = get_or xs 0 0 / 64

abbrev pub segment_major : List ℕ → ℕ
segment_major xs = get_or xs 0 0 / 4 % 4

abbrev pub segment_kind : List ℕ → Kind
segment_kind xs = kind_of (get_or xs 0 0 / 2 % 2)

abbrev pub error_in : List ℕ → ℕ
error_in xs = get_or xs 0 0 % 2

abbrev pub number_in : List ℕ → ℕ
number_in xs = get_or xs 1 0 / 16

abbrev pub last_in : List ℕ → ℕ
last_in xs = get_or xs 1 0 % 16

abbrev pub payload_in : List ℕ → List ℕ
payload_in xs = drop segment_header_bytes xs

-- ---- the checks on a segment's own length and header

unfoldable pub segment_checks : List ℕ → Result Unit Refusal
segment_checks xs =
    check (not (eqb (length xs) segment_bytes)) (Err SegmentLength)  -- 2
    (check (not (eqb (sort_in xs) 0)) (Err SegmentType)  -- 3
    (check (not (eqb (error_in xs) 0)) (Err ErrorBit)  -- 4
    (check (not (eqb (segment_major xs) 0)) (Err OtherMajor)  -- 5
    (check (ltb (last_in xs) (number_in xs)) (Err NumberAboveLast)  -- 6
    (Ok tt)))))

-- Document 01, "Segment": a chunk cut in order into segments, the last payload filled up with stuffing.
use Rattle.std.specs.Prelude.{ℕ, zero, suc, ◌+◌, ◌-◌, ◌*◌, ◌/◌, ◌%◌, ◌<◌, ◌≡◌, length, get_or}
use mathlib.Core.List.{List, [], ◌∷◌, ◌++◌, map, flat_map}
use Rattle.octets.specs.Bits.{Bytes}
use Rattle.meaning.specs.Reading.{major_in}
use Rattle.segments.specs.Segment.{payload_bytes, place_of, Head, segment}

-- how many segments hold a chunk of n bytes: as few as possible
abbrev pub segment_count : ℕ → ℕ
segment_count n = (n + (payload_bytes - 1)) / payload_bytes

-- what the sender of a chunk is free to choose: the reserved bit and the wake_up_indicator of the segment with the number i, and the stuffing
-- that fills up the last payload
pub record Choice : Type 0 where
  pub reserved : ℕ → ℕ
  pub wake : ℕ → ℕ
  pub fill : List ℕ

-- it is one for the chunk xs: the bits are bits, and the stuffing is of bytes and just as long as the last payload needs
pub record Suits (xs : List ℕ) (c : Choice) : Type 0 where
  pub reserved : (i : ℕ) → c.reserved i < 2
  pub wake : (i : ℕ) → c.wake i < 2
  pub bytes : Bytes c.fill
  pub whole : length (xs ++ c.fill) ≡ payload_bytes * segment_count (length xs)

-- the header of the segment with the number i: type 0, error 0, the chunk's major and current_next
abbrev pub head_of : List ℕ → Choice → ℕ → Head
head_of xs c i =
    record {
      sort = 0;
      reserved = c.reserved i;
      wake = c.wake i;
      major = major_in xs;
      current = get_or xs 1 0 % 2;
      error = 0;
      number = i;
      last = segment_count (length xs) - 1;
    }

-- the segment with the number i
unfoldable pub piece_of : List ℕ → Choice → ℕ → List ℕ
piece_of xs c i = segment (head_of xs c i) (place_of (xs ++ c.fill) i)

-- n numbers from i on
unfoldable pub up_from : ℕ → ℕ → List ℕ
up_from i zero = []
up_from i (suc n) = i ∷ up_from (suc i) n

-- all segments, in order
abbrev pub cut : List ℕ → Choice → List (List ℕ)
cut xs c = map (piece_of xs c) (up_from 0 (segment_count (length xs)))

-- segments one after the other
abbrev pub joined : List (List ℕ) → List ℕ
joined segments = flat_map (λ s. s) segments

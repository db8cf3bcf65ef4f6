-- What is promised of an explanation besides its equation: that the named field breaks the rule for its number, and that every check before
-- that one passes.
use Rattle.std.specs.Prelude.{ℕ, suc, ◌+◌, ◌*◌, ◌≤◌, ◌<◌, ◌≡◌, Bool, true, false, cond, List, leb, eqb, length, get_or}
use Rattle.octets.specs.Sets.{holds}
use Rattle.octets.specs.Tables.{before, number_at}
use Rattle.meaning.specs.declared.Part.{Part}
use Rattle.meaning.specs.Ends.{thing_bytes, EndsIn}
use Rattle.meaning.specs.Reading.{major_in}
use Rattle.meaning.specs.Sizes.{longest_chunk}
use Rattle.segments.specs.Segment.{segment_bytes, segment_header_bytes, payload_bytes, place_of, sort_in, error_in, segment_major, number_in, last_in, payload_in}
use Rattle.slots.specs.declared.Slot.{Slot}
use Rattle.fields.specs.declared.Table.TheVariants.{Segment}
use Rattle.explains.specs.Explaining.{widths_in, table_of, segment_row}

-- ---- a segment

-- what the rule for 3, 4, 5 or 6 wants of the value found: it is 0; for 6, not above the last number
abbrev pub wanted : ℕ → List ℕ → ℕ → Bool
wanted n xs value = cond (eqb n 6) (leb value (last_in xs)) (eqb value 0)

-- the value that is found in row i, at its offset, is the number in its bits, and is not what the rule for n wants
pub record RowBroken (xs : List ℕ) (n i at value : ℕ) : Type 0 where
  pub row : i ≡ segment_row n
  pub offset : at ≡ before i (widths_in Segment xs)
  pub found : value ≡ number_at xs at (get_or (widths_in Segment xs) i 0)
  pub unwanted : wanted n xs value ≡ false

-- the checks before that for n pass: 2, 3, 4, 5, 6
pub record PassesBefore (n : ℕ) (xs : List ℕ) : Type 0 where
  pub whole : 2 < n → length xs ≡ segment_bytes
  pub sort : 3 < n → sort_in xs ≡ 0
  pub error : 4 < n → error_in xs ≡ 0
  pub major : 5 < n → segment_major xs ≡ 0
  pub number : 6 < n → number_in xs ≤ last_in xs

-- ---- a segment and the slot of its kind, which was not spoiled before

-- the last number, at its offset, is not the slot's
pub record LastDiffers (s : Slot) (xs : List ℕ) (i at value : ℕ) : Type 0 where
  pub row : i ≡ segment_row 7
  pub offset : at ≡ before i (widths_in Segment xs)
  pub found : value ≡ number_at xs at (get_or (widths_in Segment xs) i 0)
  pub unwanted : value ≡ s.last → ⊥
  pub sound : s.spoiled ≡ false

-- a byte of the payload is not the one that the slot holds in the segment's place
pub record PayloadDiffers (s : Slot) (bytes xs : List ℕ) (at value : ℕ) : Type 0 where
  pub byte : ℕ
  pub inside : byte < payload_bytes
  pub offset : at ≡ 8 * (segment_header_bytes + byte)
  pub found : value ≡ number_at xs at 8
  pub own : value ≡ get_or (payload_in xs) byte 0
  pub unwanted : value ≡ get_or (place_of bytes (number_in xs)) byte 0 → ⊥
  -- those before it are
  pub first : (j : ℕ) → j < byte → get_or (payload_in xs) j 0 ≡ get_or (place_of bytes (number_in xs)) j 0
  -- the last number is the slot's, and the place is held
  pub last : s.last ≡ last_in xs
  pub held : holds s.held (number_in xs) ≡ true
  pub sound : s.spoiled ≡ false

-- ---- a chunk that ends early

-- row i of the part that begins at the byte `start` of the chunk xs, which is the first that is not there whole; its offset is `at`
pub record NotWhole (xs : List ℕ) (part : Part) (start i at : ℕ) : Type 0 where
  -- no check before it fails: the chunk is not too long, its major version is 0, all that stands before the part is there
  pub room : length xs ≤ longest_chunk
  pub major : 2 ≤ length xs → major_in xs ≡ 0
  pub ends : EndsIn xs part start
  -- it is a row of the part's table, and begins where the widths of those before it say
  pub row : i < length (widths_in (table_of part) xs)
  pub offset : at ≡ 8 * start + before i (widths_in (table_of part) xs)
  -- its bits run past the end of the chunk
  pub past : 8 * length xs < at + get_or (widths_in (table_of part) xs) i 0
  -- those of no row before it do
  pub earlier : (j : ℕ) → j < i → 8 * start + before (suc j) (widths_in (table_of part) xs) ≤ 8 * length xs
  -- it ends within the part
  pub inside : at + get_or (widths_in (table_of part) xs) i 0 ≤ 8 * (start + length (thing_bytes ends.first.thing))

-- Document 01's numbers, and what an answer says in them.
use Rattle.std.specs.Prelude.{ℕ, Result, Ok, Err}
use Rattle.meaning.specs.declared.Refusal.{Refusal}
use Rattle.meaning.specs.declared.Refusal.TheVariants.{ShortBuffer, SegmentLength, SegmentType, ErrorBit, OtherMajor, NumberAboveLast, Clash, TooLong, EndsEarly, KindDiffers, BadDesk}
use Rattle.meaning.specs.declared.Listed.{Listed}
use Rattle.meaning.specs.Lists.{current_of}

-- the table "The numbers"; the writer's are in writer/specs/Writing.antt. 11 is not given
abbrev pub number_of : Refusal → ℕ
number_of ShortBuffer = 1
number_of SegmentLength = 2
number_of SegmentType = 3
number_of ErrorBit = 4
number_of OtherMajor = 5
number_of NumberAboveLast = 6
number_of Clash = 7
number_of TooLong = 8
number_of (EndsEarly part at) = 9
number_of KindDiffers = 10
number_of BadDesk = 12

-- the offset in the chunk that a refusal tells: with 9, that of the first thing that does not fit whole. No other tells one
abbrev pub offset_of : Refusal → ℕ
offset_of ShortBuffer = 0
offset_of SegmentLength = 0
offset_of SegmentType = 0
offset_of ErrorBit = 0
offset_of OtherMajor = 0
offset_of NumberAboveLast = 0
offset_of Clash = 0
offset_of TooLong = 0
offset_of (EndsEarly part at) = at
offset_of KindDiffers = 0
offset_of BadDesk = 0

-- what some checks find: the refusal's number, 0 where they find nothing
abbrev pub checked_number : Result Unit Refusal → ℕ
checked_number (Ok _) = 0
checked_number (Err f) = number_of f

-- the reader's answer: its number, 0 where it is no refusal, and the offset that a refusal tells; the kind, 1 for this frame and 0 for the
-- next; the minor edition; the listing's length. Where it is a refusal, the last three are 0
pub record ReadValues : Type 0 where
  pub number : ℕ
  pub at : ℕ
  pub kind : ℕ
  pub minor : ℕ
  pub length : ℕ

abbrev pub read_values : Result Listed Refusal → ReadValues
read_values (Ok l) = record { number = 0; at = 0; kind = current_of l.kind; minor = l.minor; length = l.length }
read_values (Err f) = record { number = number_of f; at = offset_of f; kind = 0; minor = 0; length = 0 }

-- and whether it is a refusal, as checks say it
abbrev pub read_fault : Result Listed Refusal → Result Unit Refusal
read_fault (Ok _) = Ok tt
read_fault (Err f) = Err f

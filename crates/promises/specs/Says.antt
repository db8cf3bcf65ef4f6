-- The conditions and conclusions of the two pages that are more than a line, field by field.
use Rattle.std.specs.Prelude.{ℕ, ◌+◌, ◌*◌, ◌/◌, ◌%◌, ◌≤◌, ◌<◌, ◌≡◌, true, false, T, length, take, drop, Result, Ok, Err}
use mathlib.Core.List.{List, [], ◌∷◌, ◌++◌, map, flat_map}
use Rattle.octets.specs.Bits.{Bytes}
use Rattle.octets.specs.Checks.{among}
use Rattle.octets.specs.Each.{Each}
use Rattle.octets.specs.Word.{word_bytes}
use Rattle.meaning.specs.declared.Kind.{Kind}
use Rattle.meaning.specs.declared.Refusal.{Refusal}
use Rattle.meaning.specs.declared.Refusal.TheVariants.{OtherMajor}
use Rattle.meaning.specs.Sizes.{longest_chunk, longest_listing}
use Rattle.meaning.specs.Numbers.{number_of, offset_of, read_values}
use Rattle.meaning.specs.Lists.{Service, Known, known, FicList, kind_of, current_of}
use Rattle.meaning.specs.Layout.{Carries}
use Rattle.meaning.specs.Listing.{mark_ts, mark_en, flags, sv_record, ensemble_listing, listing}
use Rattle.meaning.specs.Said.{listing_fits, list_said}
use Rattle.meaning.specs.Plain.{plain_length}
use Rattle.meaning.specs.Reading.{major_in, read_answer, read_buffer, ReadSays, listed}
use Rattle.segments.specs.Segment.{segment_bytes, segment_header_bytes, Head, sort_in, segment_major, segment_kind, error_in, number_in, last_in, payload_in}
use Rattle.segments.specs.Cut.{segment_count, up_from, joined}
use Rattle.writer.specs.declared.Unwritten.{Unwritten}
use Rattle.writer.specs.Writing.{unwritten_number, written_values, write_answer, write_output}
use Rattle.slots.specs.declared.Answer.{Answer}
use Rattle.slots.specs.Gathering.{answer_values}
use Rattle.desk.specs.declared.Desk.{Desk}
use Rattle.notes.specs.Notes.{slot_for}
use Rattle.desk.specs.Desks.{well_formed, bytes_for, After, segment_after}
use Rattle.desk.specs.Calls.{State, wholly, Ran, ran, answers_of}
use Rattle.effects.specs.Effects.{Lists, Waits}
use Rattle.gatherings.specs.Deliveries.{AtStart, first_segments, payloads_of, listed_by}
use Rattle.gatherings.specs.Once.{piece_answers, ComesInOrder}
use Rattle.lines.specs.Lines.{answer_lines}

-- ---- the reader

-- it refuses with f: one of these numbers, its offset, every other value 0, and nothing is written
pub record ReadRefused (xs before : List ℕ) (f : Refusal) : Type 0 where
  pub number : T (among (1 ∷ 5 ∷ 8 ∷ 9 ∷ []) (number_of f))
  pub values : read_values (read_answer xs before) ≡ record { number = number_of f; at = offset_of f; kind = 0; minor = 0; length = 0 }
  pub buffer : read_buffer xs before ≡ before

-- it reads the list l for the frame k in the minor edition m; the buffer past the listing stays
pub record ReadList (xs before : List ℕ) (k : Kind) (m : ℕ) (l : FicList) : Type 0 where
  pub values : read_values (read_answer xs before) ≡ record { number = 0; at = 0; kind = current_of k; minor = m; length = length (listing l) }
  pub buffer : read_buffer xs before ≡ listing l ++ drop (length (listing l)) before

-- xs is a chunk that carries a list of n bytes, and `after` begins with it
pub record ChunkListed (xs before : List ℕ) (k : Kind) (m n : ℕ) (after : List ℕ) : Type 0 where
  pub list : FicList
  pub carried : Carries xs k m list
  pub size : n ≡ length (listing list)
  pub buffer : after ≡ listing list ++ drop n before

-- ---- the writer

-- it refuses with f
pub record WriteRefused (xs : List ℕ) (k : Kind) (before : List ℕ) (f : Unwritten) : Type 0 where
  pub number : T (among (1 ∷ 13 ∷ 14 ∷ []) (unwritten_number f))
  pub values : written_values (write_answer xs k before) ≡ record { number = unwritten_number f; count = 0 }
  pub output : write_output xs k before ≡ before

-- it answers these segments, which stand at the start of the output; bytes past them stay
pub record WriteAnswered (xs : List ℕ) (k : Kind) (before : List ℕ) (segments : List (List ℕ)) : Type 0 where
  pub values : written_values (write_answer xs k before) ≡ record { number = 0; count = length segments }
  pub output : write_output xs k before ≡ joined segments ++ drop (segment_bytes * length segments) before

-- a listing that it takes: well formed, and of a list that fits a chunk
pub record Sendable (xs : List ℕ) : Type 0 where
  pub bytes : Bytes xs
  pub fits : listing_fits xs ≡ true
  pub room : plain_length (list_said xs) ≤ longest_chunk

-- a listing up to a service's record with another id than that of the ensemble above it, which counts one more service there; anything behind it
pub record OfAnother (xs : List ℕ) : Type 0 where
  pub stream : ℕ
  pub ensembles : ℕ
  pub before : List Known
  pub further : length before < ensembles
  pub own : Known
  pub services : ℕ
  pub more : length own.services < services
  pub other : ℕ
  pub differs : other ≡ own.id → ⊥
  pub service : Service
  pub behind : List ℕ
  pub said : xs ≡ mark_ts ++ word_bytes stream ++ (ensembles ∷ []) ++ (flat_map ensemble_listing (map known before) ++ (mark_en ++ (own.id ∷ flags own ∷ own.channel ∷ services ∷ []) ++ (flat_map (sv_record own.id) own.services ++ (sv_record other service ++ behind))))

-- so many segments are written for it
abbrev pub count_for : List ℕ → ℕ
count_for xs = segment_count (plain_length (list_said xs))

-- ---- the desk

-- it refuses a segment with f
pub record SegmentRefused (f : Refusal) (a : Result Answer Refusal) : Type 0 where
  pub number : T (among (1 ∷ 2 ∷ 3 ∷ 4 ∷ 5 ∷ 6 ∷ 7 ∷ 9 ∷ 10 ∷ 12 ∷ []) (number_of f))
  pub values : answer_values a ≡ record { number = number_of f; at = offset_of f; missing = 0; kind = 0; length = 0 }

-- it answers a list of the kind k and n bytes
pub record SegmentListed (d : Desk) (xs first second : List ℕ) (k : Kind) (n : ℕ) (r : After) : Type 0 where
  pub values : answer_values r.answer ≡ record { number = 0; at = 0; missing = 0; kind = current_of k; length = n }
  pub lists : Lists d xs first second k n r

-- it answers that n are missing
pub record SegmentMissing (d : Desk) (xs first second : List ℕ) (n : ℕ) (r : After) : Type 0 where
  pub values : answer_values r.answer ≡ record { number = 0; at = 0; missing = n; kind = 0; length = 0 }
  pub waits : Waits d xs first second n r

-- two desks are well formed, and agree on the slot of the segment's kind; the buffers lent to them have the same lengths
pub record Alike (d e : Desk) (xs first second third fourth : List ℕ) : Type 0 where
  pub formed : (well_formed d ≡ true) × (well_formed e ≡ true)
  pub slot : slot_for (segment_kind xs) d.notes ≡ slot_for (segment_kind xs) e.notes
  pub bytes : bytes_for (segment_kind xs) d ≡ bytes_for (segment_kind xs) e
  pub lengths : (length first ≡ length third) × (length second ≡ length fourth)

-- the same answer, and the same slot of that kind
pub record SameSlot (xs : List ℕ) (r t : After) : Type 0 where
  pub answer : r.answer ≡ t.answer
  pub slot : slot_for (segment_kind xs) r.desk.notes ≡ slot_for (segment_kind xs) t.desk.notes
  pub bytes : bytes_for (segment_kind xs) r.desk ≡ bytes_for (segment_kind xs) t.desk

-- two segments are answered alike by every desk
abbrev pub SameToAll : List ℕ → List ℕ → Type 0
SameToAll xs ys = (d : Desk) (first second : List ℕ) → segment_after d xs first second ≡ segment_after d ys first second

-- ---- segments

-- what is read of xs are the fields of this header, and this payload
pub record FieldsRead (h : Head) (payload xs : List ℕ) : Type 0 where
  pub sort : sort_in xs ≡ h.sort
  pub major : segment_major xs ≡ h.major
  pub kind : segment_kind xs ≡ kind_of h.current
  pub error : error_in xs ≡ h.error
  pub number : number_in xs ≡ h.number
  pub last : last_in xs ≡ h.last
  pub content : payload_in xs ≡ payload
  pub size : length xs ≡ segment_header_bytes + length payload

-- the header with another reserved bit and another wake_up_indicator
abbrev pub with_bits : Head → ℕ → ℕ → Head
with_bits h reserved wake =
    record {
      sort = h.sort;
      reserved = reserved;
      wake = wake;
      major = h.major;
      current = h.current;
      error = h.error;
      number = h.number;
      last = h.last;
    }

-- ---- gatherings and round trips

-- a gathering begins, with two buffers that are long enough
pub record Begins (s : State) : Type 0 where
  pub start : AtStart s.desk
  pub first : longest_listing ≤ length s.first
  pub second : longest_listing ≤ length s.second

-- the segments in the writer's output, given in order, come to the listing xs
abbrev pub ReadBack : List ℕ → Kind → List ℕ → State → Type 0
ReadBack xs k output s =
    let r = ran s (map (wholly s) (first_segments (count_for xs) output)) in
    ComesInOrder k xs (count_for xs) s.desk.notes.swapped s.first s.second r

-- their payloads, given whole to the reader, say it too
abbrev pub ReadWhole : List ℕ → Kind → List ℕ → List ℕ → Type 0
ReadWhole xs k output before =
    ReadSays (payloads_of (first_segments (count_for xs) output)) before (Ok (listed k 0 (length xs))) (xs ++ drop (length xs) before)

-- the listing of the chunk ys, written, gives back the bytes of ys before its stuffing
pub record WrittenBack (ys : List ℕ) (k : Kind) (l : FicList) (stuffing buffer output : List ℕ) : Type 0 where
  pub answer : write_answer (listed_by ys buffer) k output ≡ Ok (segment_count (plain_length l))
  pub bytes :
      take (plain_length l) (payloads_of (first_segments (segment_count (plain_length l)) (write_output (listed_by ys buffer) k output)))
      ≡ take (plain_length l) ys
  pub rest : ys ≡ take (plain_length l) ys ++ stuffing

-- of n pieces those with the numbers `earlier` came, then the last missing one, i, then `later`
pub record LastMissing (n : ℕ) (earlier : List ℕ) (i : ℕ) (later : List ℕ) : Type 0 where
  pub inside : Each (λ j. j < n) earlier × (i < n) × Each (λ j. j < n) later
  pub new : among earlier i ≡ false
  pub all : (j : ℕ) → j < n → among (i ∷ earlier) j ≡ true

-- a chunk of another major version
pub record OtherMajorChunk (ys : List ℕ) : Type 0 where
  pub two : 2 ≤ length ys
  pub room : length ys ≤ longest_chunk
  pub major : major_in ys ≡ 0 → ⊥

-- every piece with these numbers was refused with 5, and nothing has changed
pub record AllRefused (numbers : List ℕ) (s : State) (r : Ran) : Type 0 where
  pub answers : answers_of r.told ≡ map (λ i. Err OtherMajor) numbers
  pub left : r.left ≡ s

-- what is printed for the n answers in order, the listing being xs
abbrev pub order_lines : Kind → List ℕ → ℕ → List ℕ
order_lines k xs n = flat_map (λ a. answer_lines a xs) (piece_answers n k (length xs) [] (up_from 0 n))

-- ---- for programs in C: the parts of an answer that is one number

pub record ReadParts (xs buffer : List ℕ) (r : ℕ) : Type 0 where
  pub number : r % 0x100 ≡ (read_values (read_answer xs buffer)).number
  pub kind : r / 0x100 % 2 ≡ (read_values (read_answer xs buffer)).kind
  pub minor : r / 0x200 % 8 ≡ (read_values (read_answer xs buffer)).minor
  pub length : r / 0x10000 % 0x10000 ≡ (read_values (read_answer xs buffer)).length
  pub at : r / 0x100000000 ≡ (read_values (read_answer xs buffer)).at

pub record WriteParts (xs : List ℕ) (k : Kind) (output : List ℕ) (r : ℕ) : Type 0 where
  pub number : r % 0x100 ≡ (written_values (write_answer xs k output)).number
  pub count : r / 0x10000 ≡ (written_values (write_answer xs k output)).count

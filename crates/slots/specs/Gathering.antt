-- Document 01, "The desk" and "The numbers": what a segment does that passed the checks on itself, in the slot of its kind. Only that slot, its
-- bytes and the lent buffer of that kind are at hand here.
use Rattle.std.specs.Prelude.{ℕ, ◌+◌, ◌*◌, ◌%◌, cond, not, List, ◌++◌, eqb, length, get_or, take, drop, Result, Ok, Err}
use Rattle.std.proofs.lemmas.List.Edits.{sets}
use Rattle.octets.specs.Checks.{check}
use Rattle.meaning.specs.declared.Refusal.{Refusal}
use Rattle.meaning.specs.declared.Kind.{Kind}
use Rattle.meaning.specs.declared.Refusal.TheVariants.{Clash, KindDiffers}
use Rattle.meaning.specs.Numbers.{number_of, offset_of}
use Rattle.meaning.specs.Lists.{current_of}
use Rattle.meaning.specs.Listing.{listing}
use Rattle.meaning.specs.Checks.{and_then}
use Rattle.meaning.specs.Reading.{checks, list_in}
use Rattle.slots.specs.declared.Slot.{Slot}
use Rattle.slots.specs.declared.Answer.{Answer}
use Rattle.slots.specs.declared.Answer.TheVariants.{Missing, NewList}
use Rattle.segments.specs.Segment.{payload_bytes, number_in, payload_in}
use Rattle.octets.specs.Sets.{holds}
use Rattle.slots.specs.Slots.{no_bytes, spoiled_slot, missing_in, clashing, holding}

-- ---- an answer in document 01's numbers: its number, 0 where it is no refusal, and the offset that a refusal tells; how many are missing; the
-- kind of the listing, 1 for this frame and 0 for the next, and its length. What an answer does not say is 0

pub record AnswerValues : Type 0 where
  pub number : ℕ
  pub at : ℕ
  pub missing : ℕ
  pub kind : ℕ
  pub length : ℕ

abbrev pub answer_values : Result Answer Refusal → AnswerValues
answer_values (Ok (Missing n)) = record { number = 0; at = 0; missing = n; kind = 0; length = 0 }
answer_values (Ok (NewList k n)) = record { number = 0; at = 0; missing = 0; kind = current_of k; length = n }
answer_values (Err f) = record { number = number_of f; at = offset_of f; missing = 0; kind = 0; length = 0 }

-- and whether it is a refusal, as checks say it
abbrev pub answer_fault : Result Answer Refusal → Result Unit Refusal
answer_fault (Ok _) = Ok tt
answer_fault (Err f) = Err f

-- ---- a slot, its bytes, and the buffer of its kind; an answer, and what is left

pub record Side : Type 0 where
  pub slot : Slot
  pub bytes : List ℕ
  pub buffer : List ℕ

pub record Outcome : Type 0 where
  pub answer : Result Answer Refusal
  pub side : Side

abbrev pub side : Slot → List ℕ → List ℕ → Side
side s bytes buffer = record { slot = s; bytes = bytes; buffer = buffer }

abbrev pub outcome : Result Answer Refusal → Side → Outcome
outcome a s = record { answer = a; side = s }

-- a spoiled slot; a slot with the segment xs held besides
abbrev pub spoil : Side → Side
spoil s = side spoiled_slot no_bytes s.buffer

abbrev pub hold : List ℕ → Side → Side
hold xs s = side (holding s.slot xs) (sets s.bytes (payload_bytes * number_in xs) (payload_in xs)) s.buffer

-- ---- a complete slot: its chunk of 35 x (last + 1) bytes, the reader's checks on it, then whether its current_next is its segments'

abbrev pub chunk_in : Side → List ℕ
chunk_in s = take (payload_bytes * (s.slot.last + 1)) s.bytes

abbrev pub kind_checks : Result Unit Refusal → Kind → List ℕ → Result Unit Refusal
kind_checks v k xs = and_then v (check (not (eqb (get_or xs 1 0 % 2) (current_of k))) (Err KindDiffers) (Ok tt))  -- 10

-- a refused chunk changes no listing; the listing of any other goes to the start of the buffer, and bytes past it stay
abbrev pub judged : Result Unit Refusal → Kind → Side → Outcome
judged (Err f) k s = outcome (Err f) s
judged (Ok _) k s =
    let l = listing (list_in (chunk_in s)) in
    outcome (Ok (NewList k (length l))) (side s.slot s.bytes (l ++ drop (length l) s.buffer))

unfoldable pub completed : Kind → Side → Outcome
completed k s = judged (kind_checks (checks (chunk_in s)) k (chunk_in s)) k s

-- ---- the segment xs of the kind k: a clash, a repeat, or one more; the last missing one completes the slot

abbrev pub placed : Kind → Side → Outcome
placed k s = cond (eqb (missing_in s.slot) 0) (completed k s) (outcome (Ok (Missing (missing_in s.slot))) s)

unfoldable pub gathered : Kind → List ℕ → Side → Outcome
gathered k xs s =
    cond (clashing s.slot s.bytes xs) (outcome (Err Clash) (spoil s))  -- 7
    (cond (holds s.slot.held (number_in xs)) (outcome (Ok (Missing (missing_in s.slot))) s)
    (placed k (hold xs s)))

-- Document 01, "The desk": what is well formed, and what each call answers and leaves.
use Rattle.std.specs.Prelude.{ℕ, Bool, false, cond, not, ◌&&◌, ◌||◌, List, ◌++◌, take, drop, Result, Ok, Err}
use Rattle.octets.specs.Checks.{check}
use Rattle.meaning.specs.declared.Refusal.{Refusal}
use Rattle.meaning.specs.declared.Kind.{Kind}
use Rattle.meaning.specs.declared.Kind.TheVariants.{This, Next}
use Rattle.meaning.specs.declared.Refusal.TheVariants.{ShortBuffer, BadDesk}
use Rattle.meaning.specs.Sizes.{longest_chunk}
use Rattle.segments.specs.Segment.{segment_kind, segment_checks}
use Rattle.slots.specs.declared.Answer.{Answer}
use Rattle.slots.specs.Slots.{no_bytes, slot_fits}
use Rattle.slots.specs.Gathering.{Side, side, Outcome, gathered}
use Rattle.notes.specs.declared.Notes.{Notes}
use Rattle.notes.specs.Notes.{emptied_notes, length_fits, slot_for, length_for, notes_with, first_serves, lent_for, too_short}
use Rattle.desk.specs.declared.Desk.{Desk}

-- ---- desks

abbrev pub desk : Notes → List ℕ → Desk
desk m bytes = record { notes = m; bytes = bytes }

-- the bytes of a kind's slot: the desk has those of both in one string, for this frame first
abbrev pub bytes_for : Kind → Desk → List ℕ
bytes_for This d = take longest_chunk d.bytes
bytes_for Next d = drop longest_chunk d.bytes

-- the notes emptied, and no bytes
abbrev pub emptied : ℕ → ℕ → Bool → Desk
emptied shown coming swapped = desk (emptied_notes shown coming swapped) (no_bytes ++ no_bytes)

-- empty slots, no listing, and the first buffer for this frame
abbrev pub fresh : Desk
fresh = emptied 0 0 false

unfoldable pub well_formed : Desk → Bool
well_formed d =
    (length_fits d.notes.shown && length_fits d.notes.coming)
    && (slot_fits d.notes.this (bytes_for This d) && slot_fits d.notes.next (bytes_for Next d))

-- ---- new gathering and new frame

unfoldable pub new_gathering : Desk → Desk
new_gathering d = cond (well_formed d) (emptied d.notes.shown d.notes.coming d.notes.swapped) fresh

unfoldable pub new_frame : Desk → Desk
new_frame d = cond (well_formed d) (emptied d.notes.coming 0 (not d.notes.swapped)) fresh

-- ---- segment

-- an answer, the desk and both buffers afterwards
pub record After : Type 0 where
  pub answer : Result Answer Refusal
  pub desk : Desk
  pub first : List ℕ
  pub second : List ℕ

abbrev pub after : Result Answer Refusal → Desk → List ℕ → List ℕ → After
after a d first second = record { answer = a; desk = d; first = first; second = second }

-- what a segment of the kind k may read and alter besides: that kind's slot, and its buffer
abbrev pub side_of : Kind → Desk → List ℕ → Side
side_of k d buffer = side (slot_for k d.notes) (bytes_for k d) buffer

abbrev pub bytes_with : Kind → Desk → List ℕ → List ℕ
bytes_with This d bytes = bytes ++ bytes_for Next d
bytes_with Next d bytes = bytes_for This d ++ bytes

-- the desk with that slot and the length of that kind's listing as an outcome has them
abbrev pub altered : Kind → Desk → Outcome → Desk
altered k d o = desk (notes_with k d.notes o.side.slot o.answer) (bytes_with k d o.side.bytes)

-- the answer, the desk and both buffers, of which only that kind's may change
unfoldable pub taken_by : Kind → Desk → List ℕ → List ℕ → List ℕ → After
taken_by k d xs first second =
    let mine = first_serves k d.notes.swapped in
    let o = gathered k xs (side_of k d (cond mine first second)) in
    after o.answer (altered k d o) (cond mine o.side.buffer first) (cond mine second o.side.buffer)

-- 12, 1, then the checks on the segment itself
abbrev pub call_checks : Desk → List ℕ → List ℕ → List ℕ → Result Unit Refusal
call_checks d xs first second =
    check (not (well_formed d)) (Err BadDesk)  -- 12
    (check (too_short first || too_short second) (Err ShortBuffer)  -- 1
    (segment_checks xs))

-- a refusal by these leaves all as it was
abbrev pub answered_by : Result Unit Refusal → Desk → List ℕ → List ℕ → List ℕ → After
answered_by (Err f) d xs first second = after (Err f) d first second
answered_by (Ok _) d xs first second = taken_by (segment_kind xs) d xs first second

unfoldable pub segment_after : Desk → List ℕ → List ℕ → List ℕ → After
segment_after d xs first second = answered_by (call_checks d xs first second) d xs first second

-- ---- show

-- how much of the buffer is shown: nothing if either buffer is too short or the desk is not well formed
unfoldable pub shown_length : Kind → Desk → List ℕ → List ℕ → ℕ
shown_length k d first second =
    cond (well_formed d && not (too_short first || too_short second)) (length_for k d.notes) 0

unfoldable pub shown : Kind → Desk → List ℕ → List ℕ → List ℕ
shown k d first second = take (shown_length k d first second) (lent_for k d.notes.swapped first second)

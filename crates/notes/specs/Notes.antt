-- Document 01, "The desk": what it notes of each kind besides the bytes, and which lent buffer serves which.
use Rattle.std.specs.Prelude.{ℕ, Bool, cond, not, ◌&&◌, ◌||◌, List, eqb, leb, ltb, length, Result, Ok, Err}
use Rattle.meaning.specs.declared.Refusal.{Refusal}
use Rattle.meaning.specs.declared.Kind.{Kind}
use Rattle.meaning.specs.declared.Kind.TheVariants.{This, Next}
use Rattle.meaning.specs.Sizes.{ts_bytes, longest_listing}
use Rattle.slots.specs.declared.Slot.{Slot}
use Rattle.slots.specs.declared.Answer.{Answer}
use Rattle.slots.specs.declared.Answer.TheVariants.{Missing, NewList}
use Rattle.slots.specs.Slots.{empty_slot}
use Rattle.notes.specs.declared.Notes.{Notes}

-- ---- notes

-- empty slots, these listings, and the second buffer for this frame if they are swapped
abbrev pub emptied_notes : ℕ → ℕ → Bool → Notes
emptied_notes shown coming swapped =
    record { this = empty_slot; next = empty_slot; shown = shown; coming = coming; swapped = swapped }

-- 0, or 5 to 1,475
abbrev pub length_fits : ℕ → Bool
length_fits n = eqb n 0 || leb ts_bytes n && leb n longest_listing

-- what is noted for a kind: its slot's numbers, and the length of its listing
abbrev pub slot_for : Kind → Notes → Slot
slot_for This m = m.this
slot_for Next m = m.next

abbrev pub length_for : Kind → Notes → ℕ
length_for This m = m.shown
length_for Next m = m.coming

abbrev pub other_kind : Kind → Kind
other_kind This = Next
other_kind Next = This

-- the listing's length of a kind, once a segment of that kind was answered
abbrev pub length_after : Result Answer Refusal → ℕ → ℕ
length_after (Ok (Missing n)) before = before
length_after (Ok (NewList k n)) before = n
length_after (Err f) before = before

-- the notes with a kind's slot as it became, and the length of its listing as the answer has it
abbrev pub notes_with : Kind → Notes → Slot → Result Answer Refusal → Notes
notes_with This m s a =
    record { this = s; next = m.next; shown = length_after a m.shown; coming = m.coming; swapped = m.swapped }
notes_with Next m s a =
    record { this = m.this; next = s; shown = m.shown; coming = length_after a m.coming; swapped = m.swapped }

-- ---- the two lent buffers by their roles

-- whether the first of them is the one for this frame or the next
abbrev pub first_serves : Kind → Bool → Bool
first_serves This swapped = not swapped
first_serves Next swapped = swapped

-- that one of them
abbrev pub lent_for : {A : Type 0} → Kind → Bool → A → A → A
lent_for k swapped first second = cond (first_serves k swapped) first second

abbrev pub too_short : List ℕ → Bool
too_short buffer = ltb (length buffer) longest_listing

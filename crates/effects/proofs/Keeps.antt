-- A well formed desk stays well formed, whatever call is made; and what a segment's call leaves. Assumes nothing.
use mathlib.Core.Path.{◌≡◌, refl, ap, ◌∙◌}
use mathlib.Core.Bool.{Bool, true, false, not}
use mathlib.Core.List.{List}
use Prim.Native.Nat.{ℕ, ◌≤◌}
use native.Mathlib.Omega.{arith}
use lib.Dec.{eqb}
use lib.ListN.{length, length-append, length-drop}
use Rattle.std.proofs.Common.{Result, Ok, Err}
use Rattle.octets.proofs.Laws.{either}
use Rattle.meaning.specs.declared.Refusal.{Refusal}
use Rattle.meaning.specs.declared.Kind.{Kind}
use Rattle.meaning.specs.Sizes.{ts_bytes, longest_listing}
use Rattle.meaning.specs.Listing.{listing}
use Rattle.meaning.specs.Reading.{checks, list_in}
use Rattle.meaning.proofs.Lengths.{length-listing, listing-fits}
use Rattle.slots.specs.declared.Answer.{Answer}
use Rattle.slots.specs.declared.Answer.TheVariants.{Missing, NewList}
use Rattle.segments.specs.Segment.{segment_kind, segment_checks, number_in}
use Rattle.octets.specs.Sets.{holds}
use Rattle.slots.specs.Slots.{missing_in, clashing}
use Rattle.slots.specs.Gathering.{Side, Outcome, hold, chunk_in, kind_checks, judged, completed, gathered}
use Rattle.slots.proofs.Keeps.{empty-fits, gathered-fits}
use Rattle.notes.specs.Notes.{length_fits, length_for, other_kind, length_after}
use Rattle.notes.proofs.Roles.{both_roles}
use Rattle.notes.proofs.Laws.{small_length}
use Rattle.desk.specs.declared.Desk.{Desk}
use Rattle.desk.specs.Desks.{emptied, fresh, well_formed, new_gathering, new_frame, After, taken_by, segment_after}
use Rattle.desk.proofs.Parts.{desk_parts, kind_fits}
use Rattle.desk.proofs.Ready.{Ready, lent_room}
use Rattle.desk.proofs.Laws.{gathering_good, gathering_bad, frame_good, frame_bad}
use Rattle.effects.proofs.Parts.{parts_desk, kinds_fit}
use Rattle.effects.proofs.Ways.{own, Takes, takes, segment_cases}

-- ---- desks with empty slots

pub emptied-fits : (shown coming : ℕ) (swapped : Bool) → length_fits shown ≡ true → length_fits coming ≡ true → well_formed (emptied shown coming swapped) ≡ true
emptied-fits shown coming swapped l m = parts_desk (emptied shown coming swapped) l m empty-fits empty-fits

pub fresh-fits : well_formed fresh ≡ true
fresh-fits = emptied-fits 0 0 false refl refl

module _ (d : Desk) where
  pub gathering-fits : well_formed (new_gathering d) ≡ true
  gathering-fits =
      either (well_formed d) (λ w. let p = desk_parts d w in rw (gathering_good d w) (emptied-fits _ _ d.notes.swapped p.0 p.1))
      (λ w. rw (gathering_bad d w) fresh-fits)

  pub frame-fits : well_formed (new_frame d) ≡ true
  frame-fits =
      either (well_formed d) (λ w. rw (frame_good d w) (emptied-fits _ 0 (not d.notes.swapped) (desk_parts d w).1 refl))
      (λ w. rw (frame_bad d w) fresh-fits)

-- ---- what the slot of a kind answers, and that the buffer keeps its length

kind_fine : (v : Result Unit Refusal) (k : Kind) (xs : List ℕ) → kind_checks v k xs ≡ Ok tt → v ≡ Ok tt
kind_fine (Err f) k xs e = e
kind_fine (Ok _) k xs e = refl

-- what is listed is of this kind, and of a length that fits
abbrev pub Says : Kind → Result Answer Refusal → Type 0
Says k (Ok (Missing n)) = Unit {0}
Says k (Ok (NewList j n)) = (j ≡ k) × (length_fits n ≡ true)
Says k (Err f) = Unit {0}

abbrev Answers : Kind → Side → Outcome → Type 0
Answers k s o = Says k o.answer × (length o.side.buffer ≡ length s.buffer)

module _ (k : Kind) where
  says_length : (a : Result Answer Refusal) (n : ℕ) → Says k a → length_fits n ≡ true → length_fits (length_after a n) ≡ true
  says_length (Ok (Missing m)) n s h = h
  says_length (Ok (NewList j m)) n s h = s.1
  says_length (Err f) n s h = h

  judged-answers : (v : Result Unit Refusal) (s : Side) → longest_listing ≤ length s.buffer → (v ≡ Ok tt → checks (chunk_in s) ≡ Ok tt) → Answers k s (judged v k s)
  judged-answers (Err f) s room p = (tt, refl)
  judged-answers (Ok _) s room p =
      let l : List ℕ = listing (list_in (chunk_in s)) in
      let most = listing-fits (chunk_in s) (p refl) in
      let least : ts_bytes ≤ length l = omega (arith, length-listing (list_in (chunk_in s))) in (
        (refl, small_length (length l) least most),
        simp (length-append, length-drop) (omega arith),
      )

  gathered-answers : (xs : List ℕ) (s : Side) → longest_listing ≤ length s.buffer → Answers k s (gathered k xs s)
  unfolding gathered completed
  gathered-answers xs s room =
      either (clashing s.slot s.bytes xs) (λ c. simp c (tt, refl))
      (λ c.
      either (holds s.slot.held (number_in xs)) (λ h. simp (c, h) (tt, refl))
      (λ h.
      let more : Side = hold xs s in
      let chunk : List ℕ = chunk_in more in
      either (eqb (missing_in more.slot) 0)
      (λ m.
      simp (c, h, m)
      (judged-answers (kind_checks (checks chunk) k chunk) more room (kind_fine (checks chunk) k chunk)))
      (λ m. simp (c, h, m) (tt, refl))))

-- ---- a segment that comes to its slot

module _ (d : Desk) (xs first second : List ℕ) (y : Ready d first second) (fine : segment_checks xs ≡ Ok tt) where
  abbrev k : Kind
  k = segment_kind xs

  abbrev o : Outcome
  o = gathered k xs (own k d first second)

  abbrev r : After
  r = taken_by k d xs first second

  has : Takes k d first second o r
  has = takes k d xs first second y.formed fine

  answers : Answers k (own k d first second) o
  answers = gathered-answers k xs _ (lent_room y k d.notes.swapped)

  pub taken_says : Says k r.answer
  taken_says = rw has.answer answers.0

  taken_formed : well_formed r.desk ≡ true
  taken_formed =
      let p = kind_fits k d y.formed in
      kinds_fit k r.desk
      (rw (has.size, has.slot, has.bytes) (says_length k o.answer (length_for k d.notes) answers.0 p.0, gathered-fits k xs (own k d first second) p.1 fine))
      (rw (has.other.0, has.other.1, has.other.2) (kind_fits (other_kind k) d y.formed))

  taken_lengths : (length r.first ≡ length first) × (length r.second ≡ length second)
  taken_lengths =
      both_roles length k d.notes.swapped r.first r.second first second (ap length has.buffer ∙ answers.1) (ap length has.other.3)

  pub taken_ready : Ready r.desk r.first r.second
  taken_ready = record { formed = taken_formed; left = rw taken_lengths.0 y.left; right = rw taken_lengths.1 y.right }

-- ---- a segment

module _ (d : Desk) (xs first second : List ℕ) where
  pub segment-fits : well_formed d ≡ true → well_formed (segment_after d xs first second).desk ≡ true
  segment-fits w = segment_cases d xs first second (λ r. well_formed r.desk ≡ true) (λ f e. w) (taken_formed d xs first second)

  pub same_lengths : (length (segment_after d xs first second).first ≡ length first) × (length (segment_after d xs first second).second ≡ length second)
  same_lengths =
      segment_cases d xs first second (λ r. (length r.first ≡ length first) × (length r.second ≡ length second)) (λ f e. (refl, refl))
      (taken_lengths d xs first second)

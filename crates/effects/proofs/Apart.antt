-- A segment alters its own kind's slot, listing length and buffer only, and its answer depends on nothing of the other kind. Assumes nothing.
use mathlib.Core.Path.{◌≡◌, refl, sym, ap, ◌∙◌}
use mathlib.Core.Bool.{true, not, ◌||◌}
use mathlib.Core.List.{List}
use Prim.Native.Nat.{ℕ}
use lib.Dec.{eqb, ltb}
use lib.ListN.{length}
use Rattle.std.proofs.Common.{Result, Ok, Err}
use Rattle.octets.specs.Checks.{check}
use Rattle.meaning.specs.declared.Refusal.{Refusal}
use Rattle.meaning.specs.declared.Kind.{Kind}
use Rattle.meaning.specs.declared.Refusal.TheVariants.{ShortBuffer, BadDesk}
use Rattle.meaning.specs.Sizes.{longest_listing}
use Rattle.meaning.specs.Reading.{checks}
use Rattle.slots.specs.declared.Slot.{Slot}
use Rattle.slots.specs.declared.Answer.{Answer}
use Rattle.segments.specs.Segment.{segment_kind, segment_checks, number_in}
use Rattle.octets.specs.Sets.{holds}
use Rattle.slots.specs.Slots.{missing_in, clashing, holding}
use Rattle.slots.specs.Gathering.{side, Outcome, chunk_in, kind_checks, judged, completed, placed, gathered}
use Rattle.octets.proofs.Laws.{either}
use Rattle.notes.specs.Notes.{slot_for, other_kind}
use Rattle.desk.specs.declared.Desk.{Desk}
use Rattle.desk.specs.Desks.{well_formed, bytes_for, After, call_checks, answered_by, segment_after}
use Rattle.effects.specs.Effects.{Kept}
use Rattle.effects.proofs.Ways.{own, Takes, takes, segment_cases, segment_comes}

-- ---- what is not altered

pub other-kept : (d : Desk) (xs first second : List ℕ) → Kept d.notes.swapped (other_kind (segment_kind xs)) d first second (segment_after d xs first second)
other-kept d xs first second =
    let k = segment_kind xs in
    segment_cases d xs first second (Kept d.notes.swapped (other_kind k) d first second) (λ f e. (refl, refl, refl, refl, refl))
    (λ y fine. (takes k d xs first second y.formed fine).other)

-- ---- what the answer depends on

-- an answer, the slot and its bytes: of what a segment does there, and of what the desk then has for the kind k
abbrev Found : Type 0
Found = Result Answer Refusal × Slot × List ℕ

abbrev found : Outcome → Found
found o = (o.answer, o.side.slot, o.side.bytes)

abbrev found_for : Kind → After → Found
found_for k r = (r.answer, slot_for k r.desk.notes, bytes_for k r.desk)

module _ (k : Kind) (b c : List ℕ) where
  judged-apart : (v : Result Unit Refusal) (s : Slot) (bytes : List ℕ) → found (judged v k (side s bytes b)) ≡ found (judged v k (side s bytes c))
  judged-apart (Err f) s bytes = refl
  judged-apart (Ok _) s bytes = refl

  placed-apart : (s : Slot) (bytes : List ℕ) → found (placed k (side s bytes b)) ≡ found (placed k (side s bytes c))
  unfolding completed
  placed-apart s bytes =
      let chunk = chunk_in (side s bytes b) in
      either (eqb (missing_in s) 0) (λ q. simp q (judged-apart (kind_checks (checks chunk) k chunk) s bytes)) (λ q. simp q)

  -- the lent buffer makes no difference to them
  gathered-apart : (xs : List ℕ) (s : Slot) (bytes : List ℕ) → found (gathered k xs (side s bytes b)) ≡ found (gathered k xs (side s bytes c))
  unfolding gathered
  gathered-apart xs s bytes =
      either (clashing s bytes xs) (λ q. simp q)
      (λ q. either (holds s.held (number_in xs)) (λ h. simp (q, h)) (λ h. simp (q, h) (placed-apart (holding s xs) _)))

takes_found : {k : Kind} {d : Desk} {first second : List ℕ} {o : Outcome} {r : After} → Takes k d first second o r → found_for k r ≡ found o
takes_found h = λ i. (h.answer i, h.slot i, h.bytes i)

pub own_only : (d e : Desk) (xs first second first' second' : List ℕ) → well_formed d ≡ true → well_formed e ≡ true → let k = segment_kind xs in slot_for k d.notes ≡ slot_for k e.notes → bytes_for k d ≡ bytes_for k e → length first ≡ length first' → length second ≡ length second' → let r = segment_after d xs first second in let t = segment_after e xs first' second' in (r.answer ≡ t.answer) × (slot_for k r.desk.notes ≡ slot_for k t.desk.notes) × (bytes_for k r.desk ≡ bytes_for k t.desk)
unfolding segment_after
own_only d e xs first second first' second' wd we slot bytes one two =
    let k : Kind = segment_kind xs in
    let checked : call_checks d xs first second ≡ call_checks e xs first' second' =
    λ i. check (not ((wd ∙ sym we) i)) (Err BadDesk) (check (ltb (one i) longest_listing || ltb (two i) longest_listing) (Err ShortBuffer) (segment_checks xs)) in
    let all : found_for k (segment_after d xs first second) ≡ found_for k (segment_after e xs first' second') =
    segment_cases d xs first second (λ r. found_for k r ≡ found_for k (segment_after e xs first' second'))
    (λ f c. (λ i. (Err f, slot i, bytes i)) ∙ ap (λ (v : Result Unit Refusal). found_for k (answered_by v e xs first' second')) (sym c ∙ checked))
    (λ y fine.
    takes_found (takes k d xs first second y.formed fine)
    ∙ (λ i. found (gathered k xs (side (slot i) (bytes i) (own k d first second).buffer)))
    ∙ gathered-apart k _ _ xs (slot_for k e.notes) (bytes_for k e)
    ∙ sym (takes_found (segment_comes e xs first' second' k refl (record { formed = we; left = rw (sym one) y.left; right = rw (sym two) y.right }) fine))) in
    (ap (λ (x : Found). x.0) all, ap (λ (x : Found). x.1) all, ap (λ (x : Found). x.2) all)

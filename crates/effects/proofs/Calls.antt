-- A list applies to its one frame, whatever is called in it. Assumes nothing.
use mathlib.Core.Path.{◌≡◌, refl, sym, ap, ap₂, ◌∙◌, subst}
use mathlib.Core.Bool.{true}
use mathlib.Core.List.{List, [], ◌∷◌, ◌++◌, append-nil}
use mathlib.Core.Logic.{◌⊎◌, inl, inr}
use Prim.Native.Nat.{ℕ}
use lib.ListN.{length, take}
use lib.Seq.{length_front, take-length, drop-length}
use Rattle.std.proofs.Common.{Result, Ok, Err}
use Rattle.octets.specs.Each.{Each}
use Rattle.octets.proofs.Laws.{either}
use Rattle.meaning.specs.declared.Refusal.{Refusal}
use Rattle.meaning.specs.declared.Kind.{Kind}
use Rattle.meaning.specs.declared.Kind.TheVariants.{This, Next}
use Rattle.segments.specs.Segment.{segment_kind, segment_checks}
use Rattle.slots.specs.declared.Answer.{Answer}
use Rattle.slots.specs.declared.Answer.TheVariants.{Missing, NewList}
use Rattle.notes.specs.Notes.{length_for, other_kind, length_after}
use Rattle.desk.specs.declared.Desk.{Desk}
use Rattle.desk.specs.Desks.{well_formed, new_gathering, new_frame, After, after, taken_by, segment_after}
use Rattle.desk.specs.Calls.{Lending, Call, frame, gathering, segment, State, state, wholly, shown_in, lent_by, left_by, Ran, ran_by, ran, answers_of, InFrame, Lacks}
use Rattle.desk.proofs.Ready.{Ready}
use Rattle.desk.proofs.Laws.{gathering_good, frame_good, frame_bad}
use Rattle.effects.proofs.Ways.{takes, segment_cases}
use Rattle.effects.proofs.Keeps.{gathering-fits, frame-fits, segment-fits, same_lengths, Says, taken_says}
use Rattle.effects.proofs.Frames.{shown_none, frame-shows}

one_or_other : (k j : Kind) → (k ≡ j) ⊎ (k ≡ other_kind j)
one_or_other This This = inl refl
one_or_other This Next = inr refl
one_or_other Next This = inr refl
one_or_other Next Next = inl refl

length-kept : (k : Kind) (a : Result Answer Refusal) (n : ℕ) → Says k a → Lacks k a → length_after a n ≡ n
length-kept k (Ok (Missing m)) n s l = refl
length-kept k (Ok (NewList j m)) n s l = absurd (l m (ap (λ (i : Kind). Ok (NewList i m)) s.0))
length-kept k (Err f) n s l = refl

module _ (d : Desk) (xs first second : List ℕ) where
  abbrev own : Kind
  own = segment_kind xs

  abbrev r : After
  r = taken_by own d xs first second

  -- what comes to its slot and lists nothing of a kind keeps the length of that kind's listing
  taken_kept : Ready d first second → segment_checks xs ≡ Ok tt → (k : Kind) → (k ≡ own) ⊎ (k ≡ other_kind own) → Lacks k r.answer → length_for k r.desk.notes ≡ length_for k d.notes
  taken_kept y fine k (inl e) l =
      let n : ℕ = length_for own d.notes in
      let h = takes own d xs first second y.formed fine in
      let none : Lacks own r.answer = subst (λ (j : Kind). Lacks j r.answer) e l in
      rw e
      (h.size ∙ ap (λ (a : Result Answer Refusal). length_after a n) (sym h.answer) ∙ length-kept own r.answer n (taken_says d xs first second y fine) none)
  taken_kept y fine k (inr e) l = rw e (takes own d xs first second y.formed fine).other.2

  pub unlisted_kept : (k : Kind) → let r = segment_after d xs first second in Lacks k r.answer → length_for k r.desk.notes ≡ length_for k d.notes
  unlisted_kept k =
      segment_cases d xs first second (λ r. Lacks k r.answer → length_for k r.desk.notes ≡ length_for k d.notes) (λ f e l. refl)
      (λ y fine. taken_kept y fine k (one_or_other k own))

-- ---- in one frame

-- the desk is well formed, and has no list for the next frame
abbrev None : Desk → Type 0
None d = (well_formed d ≡ true) × (length_for Next d.notes ≡ 0)

frame_none : (d : Desk) → None (new_frame d)
frame_none d = (frame-fits d, either (well_formed d) (λ w. rw (frame_good d w)) (λ w. rw (frame_bad d w)))

ran_none : (s : State) (calls : List Call) → None s.desk → Each InFrame calls → let r = ran s calls in Each (Lacks Next) (answers_of r.told) → None r.left.desk
unfolding ran_by
ran_none s [] h inside lacks = h
ran_none s (frame ∷ more) h inside lacks = absurd inside.0
ran_none s (gathering ∷ more) h inside lacks =
    ran_none (state (new_gathering s.desk) s.first s.second) more (gathering-fits s.desk, rw (gathering_good s.desk h.0) h.1) inside.1 lacks
ran_none s (segment c ∷ more) h inside lacks =
    let d : Desk = s.desk in
    let xs : List ℕ = c.segment in
    let one : List ℕ = take c.first s.first in
    let two : List ℕ = take c.second s.second in
    ran_none (left_by segment_after s (segment c)) more (segment-fits d xs one two h.0, unlisted_kept d xs one two Next lacks.0 ∙ h.1) inside.1 lacks.1

-- a frame in which no list of kind next is completed leaves none to the frame after it
pub frame_only : (s : State) (calls : List Call) → Each InFrame calls → let r = ran (left_by segment_after s frame) calls in Each (Lacks Next) (answers_of r.told) → shown_in This (left_by segment_after r.left frame) ≡ []
frame_only s calls inside lacks =
    let r : Ran = ran (left_by segment_after s frame) calls in
    let t : State = r.left in
    frame-shows t.desk t.first t.second
    ∙ shown_none Next t.desk t.first t.second (λ w. (ran_none (left_by segment_after s frame) calls (frame_none s.desk) inside lacks).1)

-- ---- all of both memories is lent

module _ (s : State) (xs : List ℕ) where
  abbrev whole : Lending
  whole = record { segment = xs; first = length s.first; second = length s.second }

  pub lent_whole : lent_by segment_after s (record { segment = xs; first = length s.first; second = length s.second }) ≡ segment_after s.desk xs s.first s.second
  lent_whole =
      let r : After = segment_after s.desk xs s.first s.second in
      (λ i.
      let o = segment_after s.desk xs (take-length s.first i) (take-length s.second i) in
      after o.answer o.desk (o.first ++ drop-length s.first i) (o.second ++ drop-length s.second i))
      ∙ ap₂ (λ (x y : List ℕ). after r.answer r.desk x y) (append-nil r.first) (append-nil r.second)

  pub left_whole : let r = segment_after s.desk xs s.first s.second in left_by segment_after s (wholly s xs) ≡ state r.desk r.first r.second
  left_whole = ap (λ (r : After). state r.desk r.first r.second) lent_whole

-- the memories keep their lengths
pub left_lengths : (s : State) (c : Call) → (length (left_by segment_after s c).first ≡ length s.first) × (length (left_by segment_after s c).second ≡ length s.second)
left_lengths s frame = (refl, refl)
left_lengths s gathering = (refl, refl)
left_lengths s (segment c) =
    let one : List ℕ = take c.first s.first in
    let two : List ℕ = take c.second s.second in
    let r : After = segment_after s.desk c.segment one two in
    let same = same_lengths s.desk c.segment one two in
    (length_front s.first r.first c.first same.0, length_front s.second r.second c.second same.1)

-- what is left is lent wholly again
pub wholly_again : (s : State) (c : Call) (xs : List ℕ) → wholly (left_by segment_after s c) xs ≡ wholly s xs
wholly_again s c xs =
    let same = left_lengths s c in
    λ i. segment (record { segment = xs; first = same.0 i; second = same.1 i })

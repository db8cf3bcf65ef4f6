-- What is shown after a new gathering, a new frame and a segment. Assumes nothing.
use mathlib.Core.Path.{◌≡◌, refl, sym, ap, ◌∙◌, subst}
use mathlib.Core.Bool.{Bool, true, false, cond, not, ◌&&◌, ◌||◌, true≢false, not-not}
use mathlib.Core.List.{List, []}
use Prim.Native.Nat.{ℕ, ◌≤◌}
use native.Mathlib.Omega.{arith}
use borrow.Author.Tests.{le-ltb}
use lib.ListN.{length, take}
use lib.Seq.{length-take-le}
use Rattle.std.proofs.Common.{Result, Ok}
use Rattle.octets.proofs.Laws.{either}
use Rattle.meaning.specs.declared.Refusal.{Refusal}
use Rattle.meaning.specs.declared.Kind.{Kind}
use Rattle.meaning.specs.declared.Kind.TheVariants.{This, Next}
use Rattle.meaning.specs.Sizes.{longest_listing}
use Rattle.slots.specs.declared.Answer.{Answer}
use Rattle.slots.specs.declared.Answer.TheVariants.{NewList}
use Rattle.segments.specs.Segment.{segment_kind}
use Rattle.notes.specs.declared.Notes.{Notes}
use Rattle.notes.specs.Notes.{length_for, other_kind, lent_for, too_short, length_after}
use Rattle.notes.proofs.Laws.{length_small}
use Rattle.desk.specs.declared.Desk.{Desk}
use Rattle.desk.specs.Desks.{emptied, fresh, well_formed, new_gathering, new_frame, After, taken_by, segment_after, shown_length, shown}
use Rattle.desk.proofs.Ready.{Ready, lent_room}
use Rattle.desk.proofs.Laws.{gathering_good, gathering_bad, frame_good, frame_bad, length_cases, shown-fits}
use Rattle.effects.proofs.Ways.{takes, segment_cases}
use Rattle.effects.proofs.Keeps.{gathering-fits, frame-fits, Says, taken_says, taken_ready}

-- ---- what is shown

module _ (k : Kind) (d : Desk) (first second : List ℕ) where
  pub length-shown : length (shown k d first second) ≡ shown_length k d first second
  unfolding shown
  length-shown = length-take-le (shown_length k d first second) (lent_for k d.notes.swapped first second) (shown-fits k d first second)

  shown_ready : {t : Bool} {n : ℕ} → Ready d first second → d.notes.swapped ≡ t → length_for k d.notes ≡ n → shown k d first second ≡ take n (lent_for k t first second)
  unfolding shown shown_length
  shown_ready y e l = simp (y.formed, le-ltb _ _ y.left, le-ltb _ _ y.right) (λ i. take (l i) (lent_for k (e i) first second))

  pub shown_none : (well_formed d ≡ true → length_for k d.notes ≡ 0) → shown k d first second ≡ []
  unfolding shown
  shown_none e =
      length_cases k d first second (λ n. take n (lent_for k d.notes.swapped first second) ≡ []) refl
      (λ y. ap (λ (n : ℕ). take n (lent_for k d.notes.swapped first second)) (e y.formed))

  shown_bad : well_formed d ≡ false → shown k d first second ≡ []
  shown_bad w = shown_none (λ e. absurd (true≢false (sym e ∙ w)))

shown-fresh : (k : Kind) (first second : List ℕ) → shown k fresh first second ≡ []
shown-fresh This first second = shown_none This fresh first second (λ e. refl)
shown-fresh Next first second = shown_none Next fresh first second (λ e. refl)

-- a well formed desk e shows as k what any desk d shows as j, if it has that length and that buffer, or is fresh where d is not well formed
shown_alike : (k j : Kind) (e d : Desk) (first second : List ℕ) → well_formed e ≡ true → (well_formed d ≡ true → (length_for k e.notes ≡ length_for j d.notes) × (lent_for k e.notes.swapped first second ≡ lent_for j d.notes.swapped first second)) → (well_formed d ≡ false → e ≡ fresh) → shown k e first second ≡ shown j d first second
unfolding shown shown_length
shown_alike k j e d first second v good bad =
    either (well_formed d)
    (λ w i. take (cond ((v ∙ sym w) i && not (too_short first || too_short second)) ((good w).0 i) 0) ((good w).1 i))
    (λ w. ap (λ (x : Desk). shown k x first second) (bad w) ∙ shown-fresh k first second ∙ sym (shown_bad j d first second w))

-- ---- new gathering and new frame

emptied-length : (k : Kind) (m : Notes) → length_for k (emptied m.shown m.coming m.swapped).notes ≡ length_for k m
emptied-length This m = refl
emptied-length Next m = refl

pub gathering-shows : (k : Kind) (d : Desk) (first second : List ℕ) → shown k (new_gathering d) first second ≡ shown k d first second
gathering-shows k d first second =
    shown_alike k k (new_gathering d) d first second (gathering-fits d) (λ w. rw (gathering_good d w) (emptied-length k d.notes, refl)) (gathering_bad d)

pub frame-place : {A : Type 0} (d : Desk) → well_formed d ≡ true → (x y : A) → lent_for This (new_frame d).notes.swapped x y ≡ lent_for Next d.notes.swapped x y
frame-place d w x y = rw (frame_good d w) (ap (λ (t : Bool). cond t x y) (not-not d.notes.swapped))

module _ (d : Desk) (first second : List ℕ) where
  pub frame-shows : shown This (new_frame d) first second ≡ shown Next d first second
  frame-shows =
      shown_alike This Next (new_frame d) d first second (frame-fits d) (λ w. (rw (frame_good d w), frame-place d w first second)) (frame_bad d)

  pub frame_next : shown Next (new_frame d) first second ≡ []
  frame_next =
      shown_none Next (new_frame d) first second (λ e. either (well_formed d) (λ w. rw (frame_good d w)) (λ w. rw (frame_bad d w)))

-- ---- a segment

module _ (d : Desk) (xs first second : List ℕ) where
  -- what the other kind has is shown as before
  pub other-shown : let r = segment_after d xs first second in let j = other_kind (segment_kind xs) in shown j r.desk r.first r.second ≡ shown j d first second
  other-shown =
      let j : Kind = other_kind (segment_kind xs) in
      segment_cases d xs first second (λ r. shown j r.desk r.first r.second ≡ shown j d first second) (λ f e. refl)
      (λ y fine.
      let c = (takes (segment_kind xs) d xs first second y.formed fine).other in
      shown_ready j _ _ _ (taken_ready d xs first second y fine) c.4 c.2
      ∙ ap (take (length_for j d.notes)) c.3
      ∙ sym (shown_ready j d first second y refl refl))

  pub next_hidden : segment_kind xs ≡ Next → let r = segment_after d xs first second in shown This r.desk r.first r.second ≡ shown This d first second
  next_hidden e =
      let r : After = segment_after d xs first second in
      subst (λ (k : Kind). shown (other_kind k) r.desk r.first r.second ≡ shown (other_kind k) d first second) e other-shown

  -- what a segment's answer lists is of its kind, and is shown
  pub listed_shown : (k : Kind) (n : ℕ) → let r = segment_after d xs first second in r.answer ≡ Ok (NewList k n) → (k ≡ segment_kind xs) × (n ≤ length (lent_for k d.notes.swapped r.first r.second)) × (r.desk.notes.swapped ≡ d.notes.swapped) × (n ≤ longest_listing) × (shown k r.desk r.first r.second ≡ take n (lent_for k d.notes.swapped r.first r.second))
  listed_shown k n =
      let t : Bool = d.notes.swapped in
      let own : Kind = segment_kind xs in
      let r : After = taken_by own d xs first second in
      segment_cases d xs first second
      (λ r. r.answer ≡ Ok (NewList k n) → (k ≡ own) × (n ≤ length (lent_for k t r.first r.second)) × (r.desk.notes.swapped ≡ t) × (n ≤ longest_listing) × (shown k r.desk r.first r.second ≡ take n (lent_for k t r.first r.second)))
      (λ f e a. let z : ◌≡◌ {A = ℕ} 0 1 = cc in absurd (omega arith))
      (λ y fine a.
      let h = takes own d xs first second y.formed fine in
      let s : Says own (Ok (NewList k n)) = subst (Says own) a (taken_says d xs first second y fine) in
      let z = taken_ready d xs first second y fine in
      let small = length_small n s.1 in
      let size : length_for own r.desk.notes ≡ n = h.size ∙ ap (λ (b : Result Answer Refusal). length_after b (length_for own d.notes)) (sym h.answer ∙ a) in
      rw s.0 (
        refl,
        omega (arith, lent_room z own t),
        h.other.4,
        small,
        shown_ready own r.desk r.first r.second z h.other.4 size,
      ))

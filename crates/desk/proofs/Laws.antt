-- Laws of the desk's definitions in the code's own terms. Assumes nothing.
use mathlib.Core.Path.{◌≡◌, sym, ap, ◌∙◌}
use mathlib.Core.Bool.{Bool, true, false, cond, not, ◌&&◌, ◌||◌, not-not}
use mathlib.Core.List.{List, ◌++◌}
use Prim.Native.Nat.{ℕ, ◌≤◌}
use native.Mathlib.Omega.{arith}
use lib.ListN.{length, take}
use Rattle.std.proofs.Common.{Result, Ok, Err}
use Rattle.octets.proofs.Laws.{either}
use Rattle.meaning.specs.declared.Kind.{Kind}
use Rattle.meaning.specs.declared.Refusal.{Refusal}
use Rattle.meaning.specs.declared.Refusal.TheVariants.{ShortBuffer, BadDesk}
use Rattle.meaning.specs.Sizes.{longest_listing}
use Rattle.slots.specs.declared.Slot.{Slot}
use Rattle.slots.specs.declared.Answer.{Answer}
use Rattle.segments.specs.Segment.{segment_kind, segment_checks}
use Rattle.slots.specs.Slots.{no_bytes}
use Rattle.slots.specs.Gathering.{side, Outcome, outcome, gathered}
use Rattle.notes.specs.declared.Notes.{Notes}
use Rattle.notes.specs.Notes.{emptied_notes, slot_for, length_for, first_serves, lent_for, too_short, notes_with}
use Rattle.desk.specs.declared.Desk.{Desk}
use Rattle.desk.specs.Desks.{desk, bytes_for, emptied, fresh, well_formed, new_gathering, new_frame, After, after, side_of, bytes_with, taken_by, segment_after, shown_length, shown}
use Rattle.desk.proofs.Parts.{length_for_small}
use Rattle.desk.proofs.Ready.{Ready, lent_room, long_ready, ready_answered}

-- ---- two tests as `&&` runs them: v is the value of both, and r of the first

pub both_run : {r t v a b : Bool} → r ≡ a → r ≡ true → t ≡ b → v ≡ t → v ≡ a && b
both_run {b = b} is passes other v = v ∙ other ∙ ap (λ (s : Bool). s && b) (sym passes ∙ is)

pub first_fails : {r v a : Bool} (b : Bool) → r ≡ a → r ≡ false → v ≡ r → v ≡ a && b
first_fails b is fails v = v ∙ fails ∙ ap (λ (s : Bool). s && b) (sym fails ∙ is)

module _ (d : Desk) where
  -- ---- new gathering and new frame

  pub gathering_good : well_formed d ≡ true → new_gathering d ≡ emptied d.notes.shown d.notes.coming d.notes.swapped
  unfolding new_gathering
  gathering_good w = simp w

  pub gathering_bad : well_formed d ≡ false → new_gathering d ≡ fresh
  unfolding new_gathering
  gathering_bad w = simp w

  pub gathering_fit : (m : Notes) → well_formed d ≡ true → m ≡ emptied_notes d.notes.shown d.notes.coming d.notes.swapped → desk m (no_bytes ++ no_bytes) ≡ new_gathering d
  gathering_fit m w is = ap (λ (n : Notes). desk n (no_bytes ++ no_bytes)) is ∙ sym (gathering_good w)

  pub frame_good : well_formed d ≡ true → new_frame d ≡ emptied d.notes.coming 0 (not d.notes.swapped)
  unfolding new_frame
  frame_good w = simp w

  pub frame_bad : well_formed d ≡ false → new_frame d ≡ fresh
  unfolding new_frame
  frame_bad w = simp w

  pub frame_fit : (m : Notes) → well_formed d ≡ true → m ≡ emptied_notes d.notes.coming 0 (not d.notes.swapped) → desk m (no_bytes ++ no_bytes) ≡ new_frame d
  frame_fit m w is = ap (λ (n : Notes). desk n (no_bytes ++ no_bytes)) is ∙ sym (frame_good w)

-- ---- a segment of the kind k that passed the checks on itself

-- of the two buffers one is left by what came to the slot, and the other as it was
lent_after : (one : Bool) (o first second first' second' : List ℕ) → cond one first' second' ≡ o → cond one second' first' ≡ cond one second first → (first' ≡ cond one o first) × (second' ≡ cond one second o)
lent_after true o first second first' second' e f = (e, f)
lent_after false o first second first' second' e f = (f, e)

module _ (k : Kind) (d : Desk) (xs first second : List ℕ) where
  pub steered : (s : Slot) (one : Bool) {a : Result Answer Refusal} {t : Slot} {m : Notes} {part back bytes first' second' : List ℕ} → s ≡ slot_for k d.notes → part ≡ bytes_for k d → one ≡ first_serves k d.notes.swapped → outcome a (side t back (cond one first' second')) ≡ gathered k xs (side s part (cond one first second)) → cond one second' first' ≡ cond one second first → m ≡ notes_with k d.notes t a → bytes ≡ bytes_with k d back → after a (desk m bytes) first' second' ≡ taken_by k d xs first second
  unfolding taken_by
  steered s one {a} {t} {m} {part} {back} {bytes} {first'} {second'} s-is part-is one-is e other m-is bytes-is =
      let mine = first_serves k d.notes.swapped in
      let g = e ∙ (λ i. gathered k xs (side (s-is i) (part-is i) (cond (one-is i) first second))) in
      let l = lent_after one _ first second first' second' (ap (λ (o : Outcome). o.side.buffer) g) other in
      (λ i. after a (desk (m-is i) (bytes-is i)) (l.0 i) (l.1 i))
      ∙ (λ i. after a (desk (notes_with k d.notes t a) (bytes_with k d back)) (cond (one-is i) (gathered k xs (side_of k d (cond mine first second))).side.buffer first) (cond (one-is i) second (gathered k xs (side_of k d (cond mine first second))).side.buffer))
      ∙ (λ i. after (g i).answer (desk (notes_with k d.notes (g i).side.slot (g i).answer) (bytes_with k d (g i).side.bytes)) (cond mine (gathered k xs (side_of k d (cond mine first second))).side.buffer first) (cond mine second (gathered k xs (side_of k d (cond mine first second))).side.buffer))

-- what a flag says that is the opposite of a test
pub opposite : {t u : Bool} → t ≡ not u → not t ≡ u
opposite {t} {u} e = ap not e ∙ not-not u

-- ---- a segment: 12, 1, its own checks, or taken

module _ (d : Desk) (xs first second : List ℕ) where
  pub taken_unfit : well_formed d ≡ false → after (Err BadDesk) d first second ≡ segment_after d xs first second
  unfolding segment_after
  taken_unfit e = simp e

  pub taken_short : well_formed d ≡ true → (too_short first || too_short second) ≡ true → after (Err ShortBuffer) d first second ≡ segment_after d xs first second
  unfolding segment_after
  taken_short fit e = simp (fit, e)

  module _ (y : Ready d first second) where
    pub taken_refused : {f : Refusal} → segment_checks xs ≡ Err f → after (Err f) d first second ≡ segment_after d xs first second
    taken_refused e = rw (ready_answered d xs first second y, e)

    pub taken_steered : {k : Kind} {r : After} → segment_checks xs ≡ Ok tt → k ≡ segment_kind xs → r ≡ taken_by k d xs first second → r ≡ segment_after d xs first second
    taken_steered fine is e = e ∙ rw (ready_answered d xs first second y, fine, sym is)

-- ---- show

module _ (k : Kind) (d : Desk) (first second : List ℕ) where
  pub shown_long : well_formed d ≡ true → not (too_short first || too_short second) ≡ true → length_for k d.notes ≡ shown_length k d first second
  unfolding shown_length
  shown_long fit e = simp (fit, e)

  -- how much: nothing, or the listing's length where the desk is well formed and both buffers are long enough
  pub length_cases : (P : ℕ → Type 0) → P 0 → (Ready d first second → P (length_for k d.notes)) → P (shown_length k d first second)
  unfolding shown_length
  length_cases P none ready =
      either (well_formed d)
      (λ w. either (too_short first || too_short second) (λ s. simp (w, s) none) (λ s. simp (w, s) (ready (long_ready d first second w s))))
      (λ w. simp w none)

  pub shown_small : shown_length k d first second ≤ longest_listing
  shown_small = length_cases (λ n. n ≤ longest_listing) (omega arith) (λ y. length_for_small k d y.formed)

  pub shown-fits : shown_length k d first second ≤ length (lent_for k d.notes.swapped first second)
  shown-fits =
      length_cases (λ n. n ≤ length (lent_for k d.notes.swapped first second)) (omega arith)
      (λ y. omega (arith, length_for_small k d y.formed, lent_room y k d.notes.swapped))

pub shown_is : (k : Kind) (d : Desk) (first second : List ℕ) (n : ℕ) (r : List ℕ) → n ≡ shown_length k d first second → r ≡ take n (lent_for k d.notes.swapped first second) → r ≡ shown k d first second
unfolding shown
shown_is k d first second n r e is = is ∙ ap (λ (m : ℕ). take m (lent_for k d.notes.swapped first second)) e

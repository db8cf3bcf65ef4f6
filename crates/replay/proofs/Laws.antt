-- Laws of a call and of its lines in the code's own terms. Assumes nothing.
use mathlib.Core.Path.{◌≡◌, refl, sym, ap, ap₂, subst, ◌∙◌}
use mathlib.Core.Bool.{true, false, not}
use mathlib.Core.List.{List, ◌++◌}
use Prim.Native.Nat.{ℕ, ◌+◌, ◌-◌, ◌≤◌}
use native.Mathlib.Nat.{add-zero}
use native.Mathlib.Omega.{arith}
use borrow.Author.Tests.{ne_eqb}
use lib.ListN.{length, take, drop, length-drop}
use lib.Seq.{length-take-le, drop-drop}
use Rattle.std.proofs.Common.{Ok}
use Rattle.text.specs.declared.Output.{Output}
use Rattle.text.specs.Output.{Adds}
use Rattle.text.proofs.Adds.{adds_same}
use Rattle.records.specs.declared.Form.{Form}
use Rattle.records.specs.declared.Form.TheVariants.{Foreign}
use Rattle.records.specs.declared.Entry.{Entry}
use Rattle.records.specs.declared.Entry.TheVariants.{Whole}
use Rattle.records.specs.Records.{mark_bytes, mark_of, mark_in, entry_as, entry_in, is_whole, size_of, Record, record_in}
use Rattle.records.specs.Transcripts.{Filled, still, next_in, text_in, Turned}
use Rattle.records.proofs.Entries as programs
use Rattle.records.proofs.Entries.{size-inside, whole_some}
use Rattle.records.proofs.Transcripts.{none_size}
use Rattle.records.proofs.Filling.{Goes, goes_end}
use Rattle.meaning.specs.declared.Kind.{Kind}
use Rattle.meaning.specs.declared.Kind.TheVariants.{This}
use Rattle.meaning.specs.Sizes.{longest_listing}
use Rattle.slots.specs.declared.Answer.TheVariants.{NewList}
use Rattle.segments.specs.Segment.{segment_kind}
use Rattle.slots.specs.Slots.{no_bytes}
use Rattle.notes.specs.declared.Notes.{Notes}
use Rattle.notes.specs.Notes.{lent_for}
use Rattle.notes.proofs.Laws.{both_long}
use Rattle.desk.specs.declared.Desk.{Desk}
use Rattle.desk.specs.Desks.{desk, emptied, well_formed, new_frame, new_gathering, After, segment_after, shown_length, shown}
use Rattle.desk.specs.Calls.{Call, frame, gathering, State, state, wholly, shown_in, left_by, told_by}
use Rattle.desk.proofs.Laws.{frame_fit, shown_long, shown_is, shown-fits, shown_small}
use Rattle.effects.proofs.Keeps.{frame-fits}
use Rattle.effects.proofs.Frames.{listed_shown}
use Rattle.effects.proofs.Calls.{lent_whole, left_whole}
use Rattle.lines.specs.Lines.{frame_lines, gathering_line, list_lines, answer_lines}
use Rattle.lines.proofs.Laws.{listed_lines}
use Rattle.replay.specs.declared.Replay.{Replay}
use Rattle.replay.specs.Log.{log_form, call_of, lines_of, log_program, CallSays}
use Rattle.replay.specs.Seen.{lent, SameMemories}

-- ---- a new frame: what it shows

module _ (m n : Notes) (bytes first second : List ℕ) (fit : well_formed (desk m bytes) ≡ true) (one : longest_listing ≤ length first) (two : longest_listing ≤ length second) (is : n ≡ (emptied m.coming 0 (not m.swapped)).notes) where
  pub framed : desk n (no_bytes ++ no_bytes) ≡ new_frame (desk m bytes)
  framed = frame_fit (desk m bytes) n fit is

  framed-fits : well_formed (desk n (no_bytes ++ no_bytes)) ≡ true
  framed-fits = ap well_formed framed ∙ frame-fits (desk m bytes)

  pub framed-length : n.shown ≡ shown_length This (desk n (no_bytes ++ no_bytes)) first second
  framed-length = shown_long This (desk n (no_bytes ++ no_bytes)) first second framed-fits (sym (both_long first second one two))

  pub framed_room : n.shown ≤ length (lent_for This n.swapped first second)
  framed_room = omega (arith, framed-length, shown-fits This (desk n (no_bytes ++ no_bytes)) first second)

  pub framed_small : (l : List ℕ) → l ≡ take n.shown (lent_for This n.swapped first second) → length l ≤ longest_listing
  framed_small l e = omega (arith, ap length e, length-take-le n.shown (lent_for This n.swapped first second) framed_room, framed-length, shown_small This (desk n (no_bytes ++ no_bytes)) first second)

  pub framed-lines : (l : List ℕ) → l ≡ take n.shown (lent_for This n.swapped first second) → frame_lines l ≡ frame_lines (shown This (desk n (no_bytes ++ no_bytes)) first second)
  framed-lines l e = ap frame_lines (shown_is This (desk n (no_bytes ++ no_bytes)) first second n.shown l framed-length e)

-- ---- a segment: what its answer lists

module _ (d : Desk) (xs first second : List ℕ) (r : After) (is : r ≡ segment_after d xs first second) where
  pub answer_is : r.answer ≡ (segment_after d xs first second).answer
  answer_is = ap (λ (q : After). q.answer) is

  pub left_is : (r.desk ≡ (segment_after d xs first second).desk) × (r.first ≡ (segment_after d xs first second).first) × (r.second ≡ (segment_after d xs first second).second)
  left_is = (ap (λ (q : After). q.desk) is, ap (λ (q : After). q.first) is, ap (λ (q : After). q.second) is)

  module _ (k : Kind) (n : ℕ) (e : r.answer ≡ Ok (NewList k n)) where
    abbrev Shows : After → Type 0
    Shows q = (k ≡ segment_kind xs) × (n ≤ length (lent_for k d.notes.swapped q.first q.second)) × (q.desk.notes.swapped ≡ d.notes.swapped) × (n ≤ longest_listing) × (shown k q.desk q.first q.second ≡ take n (lent_for k d.notes.swapped q.first q.second))

    shows : Shows r
    shows = subst Shows (sym is) (listed_shown d xs first second k n (sym answer_is ∙ e))

    pub listed_room : n ≤ length (lent_for k r.desk.notes.swapped r.first r.second)
    listed_room = subst (λ t. n ≤ length (lent_for k t r.first r.second)) (sym shows.2) shows.1

    pub listed_small : (l : List ℕ) → l ≡ take n (lent_for k r.desk.notes.swapped r.first r.second) → length l ≤ longest_listing
    listed_small l is' = omega (arith, ap length is', length-take-le n (lent_for k r.desk.notes.swapped r.first r.second) listed_room, shows.3)

    pub listed_same : (l : List ℕ) → l ≡ take n (lent_for k r.desk.notes.swapped r.first r.second) → list_lines k l ≡ answer_lines (segment_after d xs first second).answer (shown (segment_kind xs) r.desk r.first r.second)
    listed_same l is' =
        listed_lines (Ok (NewList k n)) k n l refl
        ∙ ap₂ answer_lines (sym e ∙ answer_is)
        (is'
        ∙ ap (λ t. take n (lent_for k t r.first r.second)) shows.2
        ∙ sym shows.4
        ∙ ap (λ (j : Kind). shown j r.desk r.first r.second) shows.0)

-- ---- a record by its mark: what its call leaves, and its lines

module _ (s : State) (mark : ℕ) (content : List ℕ) (o p : Output) where
  abbrev r : Record
  r = record { mark = mark; content = content }

  by_call : (c : Call) → call_of s r ≡ c → (t : State) → t ≡ left_by segment_after s c → Adds (lines_of (told_by segment_after s c)) o p → CallSays s mark content t o p
  by_call c is t e put =
      subst (λ (d : Call). (t ≡ left_by segment_after s d) × Adds (lines_of (told_by segment_after s d)) o p) (sym is) (e, put)

  called : {k : ℕ} → mark ≡ k → call_of s r ≡ call_of s (record { mark = k; content = content })
  called m = ap (λ (k : ℕ). call_of s (record { mark = k; content = content })) m

  pub call-frame : mark ≡ mark_of "FR" → (d : Desk) → d ≡ new_frame s.desk → Adds (frame_lines (shown This d s.first s.second)) o p → CallSays s mark content (state d s.first s.second) o p
  call-frame m d e put =
      by_call frame (called m) (state d s.first s.second) (ap (λ (x : Desk). state x s.first s.second) e)
      (adds_same (ap (λ (x : Desk). frame_lines (shown This x s.first s.second)) e) put)

  pub call-gathering : mark ≡ mark_of "GA" → (d : Desk) → d ≡ new_gathering s.desk → Adds gathering_line o p → CallSays s mark content (state d s.first s.second) o p
  call-gathering m d e put = by_call gathering (called m) (state d s.first s.second) (ap (λ (x : Desk). state x s.first s.second) e) put

  pub call-segment : (mark ≡ mark_of "FR" → ⊥) → (mark ≡ mark_of "GA" → ⊥) → (d : Desk) (first second : List ℕ) → let a = segment_after s.desk content s.first s.second in (d ≡ a.desk) × (first ≡ a.first) × (second ≡ a.second) → Adds (answer_lines a.answer (shown (segment_kind content) d first second)) o p → CallSays s mark content (state d first second) o p
  call-segment f g d first second e put =
      let leaves : state d first second ≡ left_by segment_after s (wholly s content) = (λ i. state (e.0 i) (e.1 i) (e.2 i)) ∙ sym (left_whole s content) in
      by_call (wholly s content) (simp (ne_eqb _ _ f, ne_eqb _ _ g)) (state d first second) leaves
      (adds_same (λ i. answer_lines (sym (lent_whole s content) i).answer (shown_in (segment_kind content) (leaves i))) put)

-- ---- a mark

pub form_foreign : (m : ℕ) → (m ≡ mark_of "FR" → ⊥) → (m ≡ mark_of "GA" → ⊥) → (m ≡ mark_of "SG" → ⊥) → Foreign ≡ log_form m
form_foreign m f g h = simp (ne_eqb _ _ f, ne_eqb _ _ g, ne_eqb _ _ h)

-- ---- the memories

pub lent_same : (p q : Replay) → SameMemories p q → lent q ≡ lent p
lent_same p q same = λ i. (same.0 i, same.1 i, same.2 i)

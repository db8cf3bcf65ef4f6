-- What a segment leaves, for its explanation: the lengths, the slot of its kind, and what is explained. Assumes nothing.
use mathlib.Core.Path.{◌≡◌, refl, ap, ◌∙◌}
use mathlib.Core.Bool.{true}
use mathlib.Core.List.{List, []}
use Prim.Native.Nat.{ℕ, ◌+◌, ◌≤◌, ◌<◌}
use lib.ListN.{length}
use Rattle.std.proofs.Common.{Result, Option}
use Rattle.meaning.specs.declared.Refusal.{Refusal}
use Rattle.meaning.specs.declared.Kind.{Kind}
use Rattle.meaning.specs.Sizes.{longest_chunk}
use Rattle.segments.specs.Segment.{segment_kind, most_segments}
use Rattle.slots.specs.declared.Answer.{Answer}
use Rattle.slots.specs.Gathering.{chunk_in}
use Rattle.slots.proofs.Keeps.{slot-numbers}
use Rattle.notes.specs.declared.Notes.{Notes}
use Rattle.notes.specs.Notes.{slot_for}
use Rattle.desk.specs.declared.Desk.{Desk}
use Rattle.desk.specs.Desks.{desk, bytes_for, well_formed, side_of, After, segment_after, shown}
use Rattle.desk.specs.Calls.{state}
use Rattle.desk.proofs.Parts.{kind_fits, length-desk}
use Rattle.effects.proofs.Keeps.{segment-fits}
use Rattle.lines.specs.Lines.{answer_lines, longest_lines}
use Rattle.lines.proofs.Laws.{length-answer}
use Rattle.replay.proofs.Log.{length-shown, few}
use Rattle.explains.specs.declared.Explained.{Explained}
use Rattle.explains.specs.Explaining.{chunk_explained, gathered_explained}
use Rattle.explaining.specs.Explained.{refused_by, under_segment}

module _ (d : Desk) (xs first second : List ℕ) where
  abbrev r : After
  r = segment_after d xs first second

  -- the lines of its answer have room
  pub answer_room : (d' : Desk) (first' second' : List ℕ) → length (answer_lines r.answer (shown (segment_kind xs) d' first' second')) ≤ longest_lines
  answer_room d' first' second' =
      length-answer r.answer (shown (segment_kind xs) d' first' second') (few d xs first second r.answer refl) (length-shown (segment_kind xs) (state d' first' second'))

  -- a desk that was well formed is so afterwards
  module _ (formed : well_formed d ≡ true) {m : Notes} {bytes : List ℕ} (is : desk m bytes ≡ r.desk) where
    left_formed : well_formed (desk m bytes) ≡ true
    left_formed = ap well_formed is ∙ segment-fits d xs first second formed

    pub left_length : length bytes ≡ longest_chunk + longest_chunk
    left_length = length-desk (desk m bytes) left_formed

    pub left_last : (k : Kind) → (slot_for k m).last < most_segments
    left_last k = (slot-numbers (slot_for k m) (bytes_for k (desk m bytes)) (kind_fits k (desk m bytes) left_formed).1).1

  -- what is explained under it
  pub under_is : {k : Kind} {d' : Desk} {a : Result Answer Refusal} {before e : Option Explained} → k ≡ segment_kind xs → d' ≡ r.desk → a ≡ r.answer → before ≡ gathered_explained (slot_for k d.notes) (bytes_for k d) xs → e ≡ refused_by a before (chunk_explained (chunk_in (side_of k d' []))) → e ≡ under_segment (state d first second) xs
  unfolding under_segment
  under_is {k} kind left answer own is =
      is
      ∙ (λ i. refused_by (answer i) (own i) (chunk_explained (chunk_in (side_of k (left i) []))))
      ∙ ap (λ (j : Kind). refused_by r.answer (gathered_explained (slot_for j d.notes) (bytes_for j d) xs) (chunk_explained (chunk_in (side_of j r.desk [])))) kind

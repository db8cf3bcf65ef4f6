-- The records of an explained log: none has more than 65,539 bytes, each keeps the desk well formed, and its lines have room. Assumes nothing.
use mathlib.Core.Path.{◌≡◌, refl}
use mathlib.Core.Bool.{not}
use mathlib.Core.List.{List, [], ◌∷◌, ◌++◌}
use Prim.Native.Nat.{ℕ, ◌+◌, ◌-◌, ◌*◌, ◌^◌, ◌≤◌, ◌<◌}
use native.Mathlib.Omega.{arith}
use lib.Dec.{eqb}
use lib.ListN.{length, length-append, length-take, length-drop}
use Rattle.std.proofs.Common.{Result, Ok, Err, Option, None, Some}
use Rattle.octets.specs.Tables.{before, first_not_whole}
use Rattle.octets.proofs.Laws.{either, cond_both}
use Rattle.octets.proofs.Tables.{not_whole_before, number_small}
use Rattle.text.specs.Text.{text, decimal, numbered}
use Rattle.text.proofs.Laws.{length-decimal, length-numbered}
use Rattle.records.specs.Records.{length_bytes, mark_of, Record, body_in}
use Rattle.records.proofs.Entries.{Within}
use Rattle.programs.specs.Programs.{Holds}
use Rattle.programs.proofs.Filling.{holds-short}
use Rattle.meaning.specs.declared.Kind.{Kind}
use Rattle.meaning.specs.declared.Refusal.{Refusal}
use Rattle.meaning.specs.declared.Refusal.TheVariants.{ShortBuffer, SegmentLength, SegmentType, ErrorBit, OtherMajor, NumberAboveLast, Clash, TooLong, EndsEarly, KindDiffers, BadDesk}
use Rattle.meaning.specs.Sizes.{longest_chunk}
use Rattle.meaning.specs.Numbers.{checked_number}
use Rattle.meaning.specs.Reading.{checks}
use Rattle.meaning.proofs.Ends.{told_small}
use Rattle.segments.specs.Segment.{segment_header_bytes, payload_bytes, segment_kind, place_of, number_in, last_in, payload_in, segment_checks}
use Rattle.slots.specs.declared.Slot.{Slot}
use Rattle.slots.specs.declared.Answer.{Answer}
use Rattle.slots.specs.declared.Answer.TheVariants.{Missing, NewList}
use Rattle.slots.specs.Slots.{clashing}
use Rattle.slots.specs.Gathering.{chunk_in}
use Rattle.notes.specs.Notes.{slot_for}
use Rattle.desk.specs.Desks.{bytes_for, side_of, After}
use Rattle.desk.specs.Calls.{State, answer_to, Ready}
use Rattle.desk.proofs.Parts.{length-bytes}
use Rattle.effects.proofs.Keeps.{segment-fits}
use Rattle.replay.specs.Log.{call_of, log_program}
use Rattle.replay.proofs.Log.{log-within, next_ready, lines_fit}
use Rattle.fields.specs.declared.Table.TheVariants.{Segment}
use Rattle.explains.specs.declared.Explained.{Explained}
use Rattle.explains.specs.declared.Explained.TheVariants.{Found, Spoiled}
use Rattle.explains.specs.Explaining.{widths_in, row_fault, table_of, chunk_fault, chunk_by, chunk_explained, segment_row, segment_fault, first_differing, payload_fault, clash_fault, gathered_explained}
use Rattle.explain_lines.specs.Lines.{field_name, found_text, explained_line, longest_explained, checked_line, chunk_lines}
use Rattle.explain_lines.proofs.Laws.{field-short, checked_short}
use Rattle.explaining.specs.Explained.{explain_form, longest_record, refused_by, under_segment, under_call, longest_text, is_chunk, lines_of, explain_program}

-- ---- an explanation whose numbers have at most 20 digits: its line is short

abbrev Small : Option Explained → Type 0
Small None = Unit {0}
Small (Some (Found n field at value)) = (at < 10 ^ 20) × (value < 10 ^ 20)
Small (Some Spoiled) = Unit {0}

line-short : (e : Option Explained) → Small e → length (explained_line e) ≤ longest_explained
unfolding explained_line
line-short None s = omega arith
line-short (Some (Found n field at value)) s =
    omega (
      arith,
      length-append (field_name field) (found_text at value),
      field-short field,
      length-append (decimal at) (text " is " ++ numbered value),
      length-decimal 19 at s.0,
      length-numbered 19 value s.1,
    )
line-short (Some Spoiled) s = omega arith

-- ---- a chunk and a segment that are no longer than a record

differing_most : (ys zs : List ℕ) → first_differing ys zs ≤ length ys
unfolding first_differing
differing_most [] zs = omega arith
differing_most (y ∷ ys) [] = omega arith
differing_most (y ∷ ys) (z ∷ zs) = either (eqb y z) (λ t. simp t (omega (arith, differing_most ys zs))) (λ t. simp t (omega arith))

abbrev pub Short : List ℕ → Type 0
Short xs = length xs ≤ longest_record

module _ (xs : List ℕ) (short : Short xs) where
  fault_small : (f : Refusal) → checks xs ≡ Err f → Small (chunk_fault f xs)
  unfolding before
  fault_small TooLong e = (omega arith, omega arith)
  fault_small (EndsEarly part at) e =
      let ws : List ℕ = widths_in (table_of part) xs in
      let n : ℕ = 8 * (length xs - at) in
      (omega (arith, told_small xs (EndsEarly part at) e, not_whole_before ws n (first_not_whole ws n) (omega arith)), omega arith)
  fault_small OtherMajor e = (omega arith, omega (arith, number_small xs 0 2))
  fault_small ShortBuffer e = tt
  fault_small SegmentLength e = tt
  fault_small SegmentType e = tt
  fault_small ErrorBit e = tt
  fault_small NumberAboveLast e = tt
  fault_small Clash e = tt
  fault_small KindDiffers e = tt
  fault_small BadDesk e = tt

  chunk_small : Small (chunk_explained xs)
  unfolding chunk_explained
  chunk_small = go (checks xs) refl
    where
      go : (v : Result Unit Refusal) → checks xs ≡ v → Small (chunk_by v xs)
      go (Ok _) e = tt
      go (Err f) e = fault_small f e

  chunk-fits : length (chunk_lines xs) ≤ longest_text
  chunk-fits =
      omega (arith, length-append (checked_line (checks xs)) (explained_line (chunk_explained xs)), checked_short xs (checks xs) refl, line-short (chunk_explained xs) chunk_small)

  row_small : (n : ℕ) → Small (Some (row_fault n Segment (segment_row n) xs))
  unfolding before
  row_small n =
      either (eqb n 3) (λ a. simp a (omega arith, omega (arith, number_small xs 0 2)))
      (λ a.
      either (eqb n 4) (λ b. simp (a, b) (omega arith, omega (arith, number_small xs 7 1)))
      (λ b.
      either (eqb n 5) (λ c. simp (a, b, c) (omega arith, omega (arith, number_small xs 4 2)))
      (λ c.
      either (eqb n 6) (λ d. simp (a, b, c, d) (omega arith, omega (arith, number_small xs 8 4)))
      (λ d. simp (a, b, c, d) (omega arith, omega (arith, number_small xs 12 4))))))

  segment_small : (n : ℕ) → Small (Some (segment_fault n xs))
  segment_small n = cond_both (λ (e : Explained). Small (Some e)) (eqb n 2) (omega arith, omega arith) (row_small n)

  payload_small : (zs : List ℕ) → Small (Some (payload_fault (first_differing (payload_in xs) zs) xs))
  payload_small zs =
      let i : ℕ = first_differing (payload_in xs) zs in
      (omega (arith, differing_most (payload_in xs) zs, length-drop segment_header_bytes xs), omega (arith, number_small xs (8 * (segment_header_bytes + i)) 8))

  clash_small : (s : Slot) (bytes : List ℕ) → Small (Some (clash_fault s bytes xs))
  clash_small s bytes =
      let place : List ℕ = place_of bytes (number_in xs) in
      cond_both (λ (e : Explained). Small (Some e)) s.spoiled tt
      (cond_both (λ (e : Explained). Small (Some e)) (not (eqb s.last (last_in xs))) (segment_small 7) (payload_small place))

  gathered_small : (s : Slot) (bytes : List ℕ) → Small (gathered_explained s bytes xs)
  unfolding gathered_explained
  gathered_small s bytes =
      let n : ℕ = checked_number (segment_checks xs) in
      cond_both Small (eqb n 0) (cond_both Small (clashing s bytes xs) (clash_small s bytes) tt) (segment_small n)

-- ---- under the line of a segment

refused_small : (a : Result Answer Refusal) (own held : Option Explained) → Small own → Small held → Small (refused_by a own held)
refused_small (Ok (Missing n)) own held o h = tt
refused_small (Ok (NewList k n)) own held o h = tt
refused_small (Err f) None held o h = h
refused_small (Err f) (Some e) held o h = o

module _ (s : State) (y : Ready s) where
  under_small : (xs : List ℕ) → Short xs → Small (under_segment s xs)
  unfolding under_segment
  under_small xs short =
      let r : After = answer_to s xs in
      let k : Kind = segment_kind xs in
      let held : List ℕ = chunk_in (side_of k r.desk []) in
      let bytes : length (bytes_for k r.desk) ≡ longest_chunk = length-bytes k r.desk (segment-fits s.desk xs s.first s.second y.0) in
      let small : Short held = omega (arith, length-take (payload_bytes * ((slot_for k r.desk.notes).last + 1)) (bytes_for k r.desk)) in
      refused_small r.answer _ _ (gathered_small xs short _ _) (chunk_small held small)

  called_small : (r : Record) → Short r.content → Small (under_call s (call_of s r))
  called_small r short =
      either (eqb r.mark (mark_of "FR")) (λ t. simp t tt)
      (λ t. either (eqb r.mark (mark_of "GA")) (λ u. simp (t, u) tt) (λ u. simp (t, u) (under_small r.content short)))

  pub record_fits : (r : Record) → Short r.content → length (lines_of s r) ≤ longest_text
  record_fits r short =
      either (is_chunk r) (λ t. rw t (chunk-fits (body_in r) (omega (arith, length-drop length_bytes r.content))))
      (λ t.
      let e : Option Explained = under_call s (call_of s r) in
      rw t (omega (arith, length-append (log_program.text s r) (explained_line e), lines_fit.cost s r, line-short e (called_small r short))))

-- ---- the records of a file

pub explain_within : Within longest_record explain_form
explain_within m = either (eqb m (mark_of "CH")) (λ t. rw t (omega arith)) (λ t. rw t (omega (arith, log-within m)))

-- a record that a mark tells is no longer
pub record-short : (mark : ℕ) (content : List ℕ) → Holds (explain_form mark) content → Short content
record-short mark content holds = omega (arith, holds-short (explain_form mark) content holds, explain_within mark)

pub explain_ready : (s : State) (r : Record) → Ready s → Ready (explain_program.next s r)
explain_ready s r y = either (is_chunk r) (λ t. rw t y) (λ t. rw t (next_ready s r y))

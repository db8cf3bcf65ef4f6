-- The records of an explained log in the code's own terms: what each leaves, and what a loop from record to record has done. Assumes nothing.
use mathlib.Core.Path.{◌≡◌, refl, sym, ◌∙◌}
use mathlib.Core.Bool.{false}
use mathlib.Core.List.{List, ◌++◌, append-nil}
use Prim.Native.Nat.{ℕ}
use borrow.Author.Tests.{ne_eqb}
use lib.ListN.{length, drop}
use Rattle.text.specs.Text.{Put}
use Rattle.text.specs.declared.Output.{Output}
use Rattle.text.specs.Output.{Adds}
use Rattle.text.proofs.Adds.{adds_same}
use Rattle.records.specs.Records.{length_bytes, mark_of, Record}
use Rattle.records.specs.Transcripts.{filled}
use Rattle.records.specs.Channels.{Fills}
use Rattle.programs.specs.Programs.{alone}
use Rattle.programs.proofs.Alone.{fills_alone}
use Rattle.segments.specs.Segment.{segment_kind}
use Rattle.desk.specs.Desks.{segment_after}
use Rattle.desk.specs.Calls.{State, state, wholly, answer_to, shown_in, left_by}
use Rattle.effects.proofs.Calls.{lent_whole, left_whole}
use Rattle.lines.specs.Lines.{answer_lines}
use Rattle.replay.specs.Log.{log_form, call_of, log_program, CallSays}
use Rattle.std.proofs.Common.{None}
use Rattle.explain_lines.specs.Lines.{explained_line, chunk_lines}
use Rattle.explaining.specs.Explained.{explain_form, under_segment, under_call, is_chunk, explain_program, RecordSays}

-- ---- a record by its mark

pub form_log : (mark : ℕ) → (mark ≡ mark_of "CH" → ⊥) → log_form mark ≡ explain_form mark
form_log mark other = simp (ne_eqb _ _ other)

module _ (s : State) (mark : ℕ) (content : List ℕ) (t : State) (o p : Output) where
  abbrev r : Record
  r = record { mark = mark; content = content }

  pub says_chunk : mark ≡ mark_of "CH" → t ≡ s → Adds (chunk_lines (drop length_bytes content)) o p → RecordSays s mark content t o p
  says_chunk m is put = rw m (is, put)

  -- what nothing is explained under
  says_bare : is_chunk r ≡ false → under_call s (call_of s r) ≡ None → CallSays s mark content t o p → RecordSays s mark content t o p
  unfolding explained_line
  says_bare other none says = rw (other, none) (says.0, adds_same (sym (append-nil (log_program.text s r))) says.1)

  pub says_frame : mark ≡ mark_of "FR" → CallSays s mark content t o p → RecordSays s mark content t o p
  says_frame m = says_bare (rw m refl) (rw m refl)

  pub says_gathering : mark ≡ mark_of "GA" → CallSays s mark content t o p → RecordSays s mark content t o p
  says_gathering m = says_bare (rw m refl) (rw m refl)

  pub says_segment : (mark ≡ mark_of "CH" → ⊥) → (mark ≡ mark_of "FR" → ⊥) → (mark ≡ mark_of "GA" → ⊥) → let a = answer_to s content in (t.desk ≡ a.desk) × (t.first ≡ a.first) × (t.second ≡ a.second) → Adds (answer_lines a.answer (shown_in (segment_kind content) t) ++ explained_line (under_segment s content)) o p → RecordSays s mark content t o p
  says_segment c f g e put =
      let called : call_of s r ≡ wholly s content = simp (ne_eqb _ _ f, ne_eqb _ _ g) in
      let leaves : t ≡ left_by segment_after s (wholly s content) = (λ i. state (e.0 i) (e.1 i) (e.2 i)) ∙ sym (left_whole s content) in
      rw (ne_eqb _ _ c, called)
      (leaves, adds_same (λ i. answer_lines (sym (lent_whole s content) i).answer (shown_in (segment_kind content) (leaves i)) ++ explained_line (under_segment s content)) put)

-- ---- what `programs::fill` says of `Explain` is what the program gives

-- a record takes the room of its lines and no more
pub lines_cost : (s : State) (r : Record) → explain_program.cost s r ≡ length (explain_program.text s r)
lines_cost s r = refl

pub explain_fills : {s : State} {block out report : List ℕ} {t : State} {read : ℕ} {out' : List ℕ} {wrote : ℕ} {report' : List ℕ} {told : ℕ} → Fills (alone explain_program) s block out report t read out' wrote report' told → let f = filled explain_program (length out) s block in (t ≡ f.state) × (read ≡ f.read) × Put f.text out 0 out' wrote
explain_fills = fills_alone explain_program lines_cost

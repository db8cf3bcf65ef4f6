-- Document 02, 8/14, and the programs' page: a log with each refusal explained under its line, and chunks by themselves.
use Rattle.std.specs.Prelude.{ℕ, ◌+◌, ◌≡◌, Bool, cond, List, [], ◌++◌, eqb, length, Result, Ok, Err, Option, None}
use Rattle.std.specs.Option.{option_or}
use Rattle.text.specs.declared.Output.{Output}
use Rattle.text.specs.Output.{Adds}
use Rattle.records.specs.declared.Form.TheVariants.{Counted}
use Rattle.records.specs.Records.{mark_bytes, length_bytes, mark_of, Forms, Record, body_in, last_line}
use Rattle.records.specs.Transcripts.{Program}
use Rattle.segments.specs.Segment.{segment_kind}
use Rattle.slots.specs.declared.Answer.{Answer}
use Rattle.slots.specs.declared.Answer.TheVariants.{Missing, NewList}
use Rattle.slots.specs.Gathering.{chunk_in}
use Rattle.desk.specs.Desks.{side_of}
use Rattle.desk.specs.Calls.{Call, frame, gathering, segment, State, answer_to}
use Rattle.lines.specs.Lines.{longest_lines}
use Rattle.replay.specs.Log.{log_form, call_of, log_program}
use Rattle.explains.specs.declared.Explained.{Explained}
use Rattle.explains.specs.Explaining.{chunk_explained, gathered_explained}
use Rattle.explain_lines.specs.Lines.{explained_line, longest_explained, chunk_lines}
use Rattle.meaning.specs.declared.Refusal.{Refusal}

-- the records of a log, and CH with a chunk, whatever its length
abbrev pub explain_form : Forms
explain_form mark = cond (eqb mark (mark_of "CH")) (Counted 0 65535) (log_form mark)

abbrev pub longest_record : ℕ
longest_record = mark_bytes + length_bytes + 65535

-- ---- what is explained under the line of a segment

-- a refusal: what is at fault in the segment itself or with its slot; else in the chunk that the slot then holds
abbrev pub refused_by : Result Answer Refusal → Option Explained → Option Explained → Option Explained
refused_by (Ok (Missing n)) own held = None
refused_by (Ok (NewList k n)) own held = None
refused_by (Err f) own held = option_or own held

unfoldable pub under_segment : State → List ℕ → Option Explained
under_segment s xs =
    let r = answer_to s xs in
    let old = side_of (segment_kind xs) s.desk [] in
    let new = side_of (segment_kind xs) r.desk [] in
    refused_by r.answer (gathered_explained old.slot old.bytes xs) (chunk_explained (chunk_in new))

-- of the calls that a log makes only a segment is refused
abbrev pub under_call : State → Call → Option Explained
under_call s frame = None
under_call s gathering = None
under_call s (segment c) = under_segment s c.segment

-- ---- what is printed, record by record

-- room for the lines of any record
abbrev pub longest_text : ℕ
longest_text = longest_lines + longest_explained

abbrev pub is_chunk : Record → Bool
is_chunk r = eqb r.mark (mark_of "CH")

-- a chunk changes nothing
abbrev pub left_of : State → Record → State
left_of s r = cond (is_chunk r) s (log_program.next s r)

abbrev pub lines_of : State → Record → List ℕ
lines_of s r = cond (is_chunk r) (chunk_lines (body_in r)) (log_program.text s r ++ explained_line (under_call s (call_of s r)))

abbrev pub explain_program : Program State
explain_program =
    record {
      forms = explain_form;
      next = left_of;
      text = lines_of;
      cost = λ s r. length (lines_of s r);
      longest = longest_text;
      last = λ s e. last_line e;
    }

-- what a record leaves, with its lines put to the output o, which they leave as p
abbrev pub RecordSays : State → ℕ → List ℕ → State → Output → Output → Type 0
RecordSays s mark content t o p =
    let r : Record = record { mark = mark; content = content } in
    (t ≡ left_of s r) × Adds (lines_of s r) o p

-- Document 01, "The log program": the records of a log, the calls that they make, and the transcript that is printed.
use Rattle.std.specs.Prelude.{ℕ, ◌+◌, ◌≡◌, cond, eqb, length}
use mathlib.Core.List.{List, ◌++◌, map, flat_map}
use Rattle.text.specs.declared.Output.{Output}
use Rattle.text.specs.Output.{Adds}
use Rattle.records.specs.declared.Entry.{Entry}
use Rattle.records.specs.declared.Form.TheVariants.{Foreign, Fixed}
use Rattle.records.specs.Records.{mark_bytes, mark_of, Forms, Record, file_in, last_line}
use Rattle.records.specs.Transcripts.{Program}
use Rattle.segments.specs.Segment.{segment_bytes}
use Rattle.desk.specs.Desks.{segment_after}
use Rattle.desk.specs.Calls.{Call, frame, gathering, State, wholly, left_by, Told, framed, begun, answered, told_by, ran}
use Rattle.lines.specs.Lines.{frame_lines, gathering_line, answer_lines, longest_lines}

-- FR, GA, and SG with a segment
abbrev pub log_form : Forms
log_form mark =
    cond (eqb mark (mark_of "FR")) (Fixed 0)
    (cond (eqb mark (mark_of "GA")) (Fixed 0)
    (cond (eqb mark (mark_of "SG")) (Fixed segment_bytes)
    Foreign))

abbrev pub longest_record : ℕ
longest_record = mark_bytes + segment_bytes

-- the call that a record makes; a segment is lent all of both buffers
abbrev pub call_of : State → Record → Call
call_of s r =
    cond (eqb r.mark (mark_of "FR")) frame
    (cond (eqb r.mark (mark_of "GA")) gathering
    (wholly s r.content))

abbrev pub lines_of : Told → List ℕ
lines_of (framed l) = frame_lines l
lines_of begun = gathering_line
lines_of (answered a l) = answer_lines a l

-- the lines of what the calls are told, then what is written for what stands behind the last record
unfoldable pub printed_with : (Entry → List ℕ) → State → List ℕ → List ℕ
printed_with last s log =
    let f = file_in log_form log in
    flat_map lines_of (ran s (map (call_of s) f.records)).told ++ last f.end

-- the whole transcript: these lines, then the last line
abbrev pub printed : State → List ℕ → List ℕ
printed s log = printed_with last_line s log

-- ---- the same record by record, for a log that comes in blocks

abbrev pub log_program : Program State
log_program =
    record {
      forms = log_form;
      next = λ s r. left_by segment_after s (call_of s r);
      text = λ s r. lines_of (told_by segment_after s (call_of s r));
      cost = λ s r. length (lines_of (told_by segment_after s (call_of s r)));
      longest = longest_lines;
      last = λ s e. last_line e;
    }

-- what the call of a record leaves, with its lines put to the output o, which they leave as p
abbrev pub CallSays : State → ℕ → List ℕ → State → Output → Output → Type 0
CallSays s mark content t o p =
    let r : Record = record { mark = mark; content = content } in
    (t ≡ log_program.next s r) × Adds (log_program.text s r) o p

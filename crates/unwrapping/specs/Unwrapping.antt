-- The program `unwrap`: a file of outer packets, the packets that it writes, and its report.
use Rattle.std.specs.Prelude.{ℕ, ◌+◌, ◌≡◌, cond, List, [], ◌++◌, eqb, length, take, replicate}
use Rattle.text.specs.Text.{text, Put}
use Rattle.records.specs.declared.Form.TheVariants.{Foreign, Counted}
use Rattle.records.specs.Records.{mark_bytes, length_bytes, mark_of, Forms, body_in, last_line}
use Rattle.records.specs.Channels.{Channels}
use Rattle.reports.specs.Reports.{following, said, report_line, held_line}
use Rattle.tunnel.specs.declared.Numbers.{Numbers}
use Rattle.tunnel.specs.declared.Values.{Values}
use Rattle.tunnel.specs.Unwrap.{shortest_output, Reader, reader, part_of, unwrapped_values, Result, unwrapped}

-- OP with an outer packet, of any length that two bytes tell
abbrev pub outer_form : Forms
outer_form mark = cond (eqb mark (mark_of "OP")) (Counted 0 65535) Foreign

abbrev pub longest_record : ℕ
longest_record = mark_bytes + length_bytes + 65535

-- ---- the state: the reader's, and how many records were read, in 64 bits

pub record State : Type 0 where
  pub reader : Reader
  pub count : ℕ

abbrev pub state : Numbers → List ℕ → ℕ → State
state numbers part count = record { reader = reader numbers part; count = count }

-- ---- an outer packet: the call, with an output that is long enough

unfoldable pub long_output : List ℕ
long_output = replicate shortest_output 0

abbrev pub call : State → List ℕ → Result
call s outer = unwrapped s.reader outer long_output

abbrev pub next_state : State → List ℕ → State
next_state s outer = record { reader = (call s outer).reader; count = following s.count }

-- what it stores, for standard output
abbrev pub packets_text : State → List ℕ → List ℕ
packets_text s outer = let u = call s outer in take (unwrapped_values u.answer).stored u.output

-- its line of the report, for standard error
abbrev pub sayings : Values → List ℕ
sayings v = said v.number v.repeat v.gap v.lost

abbrev pub report_text : State → List ℕ → List ℕ
report_text s outer = report_line (text "OP") (following s.count) (sayings (unwrapped_values (call s outer).answer))

-- ---- the program: behind the last record it tells which part is held, and how the file ends

abbrev pub unwrap_channels : Channels State
unwrap_channels =
    record {
      forms = outer_form;
      next = λ s r. next_state s (body_in r);
      text = λ s r. packets_text s (body_in r);
      report = λ s r. report_text s (body_in r);
      longest = shortest_output;
      last = λ s e. [];
      last_report = λ s e. held_line (length (part_of s.reader)) ++ last_line e;
    }

-- what an outer packet leaves
pub record FedTo (s : State) (outer out : List ℕ) (to : ℕ) (report : List ℕ) (told : ℕ) (t : State) (out' : List ℕ) (to' : ℕ) (report' : List ℕ) (told' : ℕ) : Type 0 where
  pub left : t ≡ next_state s outer
  pub stores : Put (packets_text s outer) out to out' to'
  pub tells : Put (report_text s outer) report told report' told'

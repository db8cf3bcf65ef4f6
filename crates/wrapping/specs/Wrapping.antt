-- The program `wrap`: a file of timestamps and stored packets, the outer packets that it writes, and its report.
use Rattle.std.specs.Prelude.{ℕ, zero, suc, ◌+◌, ◌*◌, ◌≡◌, Bool, false, cond, eqb, length, get_or, take, drop, replicate}
use mathlib.Core.List.{List, [], ◌∷◌, ◌++◌, flat_map}
use Rattle.octets.specs.Word.{word, word_bytes}
use Rattle.text.specs.Text.{text, Put}
use Rattle.records.specs.declared.Form.TheVariants.{Foreign, Fixed, Counted}
use Rattle.records.specs.Records.{mark_bytes, length_bytes, mark_of, Forms, Record, body_in, last_line}
use Rattle.records.specs.Channels.{Channels}
use Rattle.packets.specs.Packets.{shortest_packet, longest_packet}
use Rattle.reports.specs.Reports.{said, report_line, following}
use Rattle.wrapper.specs.declared.Numbers.{Numbers}
use Rattle.wrapper.specs.Wrap.{Writer, writer, wrapped_values, Outcome, wrapped, closed}

-- TI with the timestamp from here on; IP with a packet, of a length within its limits
abbrev pub stamp_bytes : ℕ
stamp_bytes = 4

abbrev pub wrap_form : Forms
wrap_form mark =
    cond (eqb mark (mark_of "TI")) (Fixed stamp_bytes)
    (cond (eqb mark (mark_of "IP")) (Counted shortest_packet longest_packet)
    Foreign)

abbrev pub longest_record : ℕ
longest_record = mark_bytes + length_bytes + longest_packet

-- ---- the state: the writer's, the timestamp, and how many records were read, in 64 bits

pub record State : Type 0 where
  pub writer : Writer
  pub stamp : ℕ
  pub count : ℕ

abbrev pub state : Numbers → List ℕ → ℕ → ℕ → State
state numbers bytes stamp count = record { writer = writer numbers bytes; stamp = stamp; count = count }

-- ---- outer packets as records

abbrev pub record_head_bytes : ℕ
record_head_bytes = mark_bytes + length_bytes

abbrev pub outer_record : List ℕ → List ℕ
outer_record outer = text "OP" ++ (word_bytes (length outer) ++ outer)

unfoldable pub outer_records : List (List ℕ) → List ℕ
outer_records outers = flat_map outer_record outers

-- the first k pieces of n bytes
unfoldable pub cut_into : ℕ → ℕ → List ℕ → List (List ℕ)
cut_into zero n xs = []
cut_into (suc k) n xs = take n xs ∷ cut_into k n (drop n xs)

-- ---- a timestamp

abbrev pub is_stamp : Record → Bool
is_stamp r = eqb r.mark (mark_of "TI")

-- four bytes, the high one first
abbrev pub stamp_in : List ℕ → ℕ
stamp_in xs = word (get_or xs 0 0) (get_or xs 1 0) * 65536 + word (get_or xs 2 0) (get_or xs 3 0)

-- ---- a packet, or the close: the call, with an output that is long enough

abbrev pub longest_output : ℕ
longest_output = 4096

unfoldable pub long_output : List ℕ
long_output = replicate longest_output 0

abbrev pub call : State → List ℕ → Outcome
call s packet = wrapped s.writer long_output packet s.stamp

abbrev pub closing : Writer → Outcome
closing w = closed w long_output

-- ---- a record: the state that it leaves, its outer packets for standard output, and its line of the report for standard error

abbrev pub next_state : State → Record → State
next_state s r =
    let count = following s.count in
    cond (is_stamp r) (record { writer = s.writer; stamp = stamp_in r.content; count = count })
    (record { writer = (call s (body_in r)).writer; stamp = s.stamp; count = count })

abbrev pub outers_text : State → Record → List ℕ
outers_text s r = cond (is_stamp r) [] (outer_records (call s (body_in r)).outers)

abbrev pub report_text : State → Record → List ℕ
report_text s r =
    cond (is_stamp r) []
    (report_line (text "IP") (following s.count) (said (wrapped_values (call s (body_in r)).answer).number false 0 0))

-- ---- the program: it closes behind the last record

abbrev pub wrap_channels : Channels State
wrap_channels =
    record {
      forms = wrap_form;
      next = next_state;
      text = outers_text;
      report = report_text;
      longest = longest_output;
      last = λ s e. outer_records (closing s.writer).outers;
      last_report = λ s e. last_line e;
    }

-- what a packet leaves
pub record FedTo (s : State) (packet out : List ℕ) (to : ℕ) (report : List ℕ) (told : ℕ) (t : State) (out' : List ℕ) (to' : ℕ) (report' : List ℕ) (told' : ℕ) : Type 0 where
  pub left : t ≡ record { writer = (call s packet).writer; stamp = s.stamp; count = following s.count }
  pub stores : Put (outer_records (call s packet).outers) out to out' to'
  pub tells : Put (report_line (text "IP") (following s.count) (said (wrapped_values (call s packet).answer).number false 0 0)) report told report' told'

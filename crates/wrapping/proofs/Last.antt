-- What comes last in the program `wrap`: the outer packet of the close, and the last line. Assumes nothing.
use mathlib.Core.Path.{◌≡◌, refl}
use mathlib.Core.List.{List, [], ◌∷◌, flat_map}
use Prim.Native.Nat.{ℕ, ◌+◌, ◌*◌, ◌≤◌}
use native.Mathlib.Omega.{arith}
use lib.ListN.{length, length-append}
use Rattle.text.specs.Text.{Put}
use Rattle.packets.specs.Stored.{line}
use Rattle.records.specs.declared.Entry.{Entry}
use Rattle.records.specs.Records.{last_line}
use Rattle.records.proofs.Entries.{length_last}
use Rattle.programs.specs.Programs.{PutsLast}
use Rattle.wrapper.specs.Wrap.{Writer}
use Rattle.round_trip.proofs.Results.{close_end_to_end, close-outers-short, close_most}
use Rattle.wrapping.specs.Wrapping.{State, record_head_bytes, outer_record, outer_records, longest_output, long_output, closing, wrap_channels}

length-records : (xs : List (List ℕ)) → length (outer_records xs) ≡ length xs * record_head_bytes + length (line xs)
unfolding outer_records line flat_map
length-records [] = refl
length-records (x ∷ xs) = omega (arith, length-append (outer_record x) (outer_records xs), length-append x (line xs), length-records xs)

close-short : (w : Writer) → length (outer_records (closing w).outers) ≤ longest_output
close-short w =
    omega (arith, length-records (closing w).outers, (close_end_to_end w long_output).0, close_most w long_output, (close-outers-short w long_output).0)

pub puts_last : (s : State) (e : Entry) {out report out' : List ℕ} {to : ℕ} {report' : List ℕ} {told : ℕ} → longest_output ≤ length out → longest_output ≤ length report → Put (outer_records (closing s.writer).outers) out 0 out' to → Put (last_line e) report 0 report' told → PutsLast wrap_channels s e out report out' to report' told
puts_last s e room tellable stores tells =
    record { stores = stores; tells = tells; output-fits = omega (arith, close-short s.writer); report-fits = omega (arith, length_last e) }

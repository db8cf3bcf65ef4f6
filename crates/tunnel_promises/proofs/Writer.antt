-- What is promised of the tunnel's writer, each statement proved by citing its lemma. What a reader must believe is this page, the contracts that src/lib.rt
-- repeats, and the definitions that both cite.
use mathlib.Core.Path.{◌≡◌}
use mathlib.Core.Bool.{true, not, cond}
use mathlib.Core.List.{List, [], ◌++◌, map}
use Prim.Native.Nat.{ℕ, ◌+◌, ◌*◌, ◌/◌, ◌≤◌, ◌<◌}
use lib.Dec.{ltb, eqb}
use lib.ListN.{length}
use Rattle.octets.specs.Checks.{check}
use Rattle.octets.specs.Each.{Each}
use Rattle.rtp.specs.Header.{header_bytes, sequences}
use Rattle.packets.specs.Packets.{longest_packet, is_carried}
use Rattle.packets.specs.Stored.{line}
use Rattle.tunnel.specs.Outer.{is_outer}
use Rattle.tunnel.specs.Unwrap.{reader, fresh_numbers}
use Rattle.carriage.specs.Fed.{fed, out_of, Read, Long}
use Rattle.carriage.specs.Fed.{Call as Reading-as-Call}
use Rattle.wrapper.specs.declared.Numbers.{Numbers}
use Rattle.wrapper.specs.declared.Refusal.{Refusal}
use Rattle.std.proofs.Common.{Result}
use Rattle.wrapper.specs.Wrap.{most_size, most_wrapped, is_size, Writer, writer, left_by, waiting_in, wrapped_values, wrapped, closed, WrapSays, CloseSays}
use Rattle.round_trip.specs.Calls.{Same, EndToEnd, Full, Last}
use Rattle.round_trip.specs.Trips.{Call, Fair, given, fresh, left_after, outers_in, taken_in, payloads_in, apart}
use Rattle.round_trip.proofs.Results as results
use Rattle.round_trip.proofs.Trips as trips
use Rattle.records.specs.Channels.{output_of, report_of}
use Rattle.records.specs.Transcripts.{printed_with}
use Rattle.blocks.specs.Turns.{Reading, brought_by, fails_in, last_written, turned, enough}
use Rattle.blocks.proofs.Turns.{turned-printed}
use Rattle.wrapping.specs.Wrapping.{State, longest_output, wrap_channels}

-- ---- one call, for any state whose memory has its length, and any output

module _ (w : Writer) (output : List ℕ) where
  abbrev size : ℕ
  size = w.numbers.size

  abbrev left : ℕ
  left = left_by w.numbers

  module _ (packet : List ℕ) (timestamp : ℕ) where
    -- each number exactly when its check, in this order, is the first to fail; 1 counts exactly the outer packets that this call finishes
    pub write-number_exactly : length w.bytes ≡ most_size → (wrapped_values (wrapped w output packet timestamp).answer).number ≡ check (not (is_size size)) 18 (check (not (is_carried packet)) 19 (check (ltb (length output) ((left + length packet) / size * (header_bytes + size))) 1 0))
    write-number_exactly memory = results.write-number_exactly w output memory packet timestamp

    -- a refusal changes nothing, the sequence included
    pub write_refused : ((wrapped_values (wrapped w output packet timestamp).answer).number ≡ 0 → ⊥) → Same w output (wrapped w output packet timestamp)
    write_refused = results.write_refused_same w output packet timestamp

    -- nothing stands between the outer packets, and nothing behind them changes
    pub write_end_to_end : EndToEnd output (wrapped w output packet timestamp)
    write_end_to_end = results.write_end_to_end w output packet timestamp

    -- every outer packet of a write has the payload size
    pub write_full : Full size (wrapped w output packet timestamp).outers
    write_full = results.write-outers_full w output packet timestamp

    -- no full payload waits
    pub write-leaves_less : is_size size ≡ true → length (waiting_in (wrapped w output packet timestamp).writer).bytes < size
    write-leaves_less = results.write-leaves_less w output packet timestamp

    -- the most that one call writes
    pub write_most : (wrapped_values (wrapped w output packet timestamp).answer).wrote ≤ most_wrapped
    write_most = results.write_most w output packet timestamp

  -- the same of the close
  pub close-number_exactly : length w.bytes ≡ most_size → (wrapped_values (closed w output).answer).number ≡ check (not (is_size size)) 18 (check (ltb (length output) (cond (eqb left 0) 0 (header_bytes + left))) 1 0)
  close-number_exactly = results.close-number_exactly w output

  pub close_refused : ((wrapped_values (closed w output).answer).number ≡ 0 → ⊥) → Same w output (closed w output)
  close_refused = results.close_refused_same w output

  pub close_end_to_end : EndToEnd output (closed w output)
  close_end_to_end = results.close_end_to_end w output

  -- at the most one outer packet, shorter and not empty
  pub close_last : Last size (closed w output).outers
  close_last = results.close-outers-short w output

  -- nothing is left after a close
  pub close-leaves_none : (wrapped_values (closed w output).answer).number ≡ 0 → (waiting_in (closed w output).writer).bytes ≡ []
  close-leaves_none = results.close-leaves_none w output

-- two results can't both meet the promises
pub one_write : (m : Numbers) (bytes packet : List ℕ) (timestamp : ℕ) (output : List ℕ) {a b : Result ℕ Refusal} {n n' : Numbers} {p p' o o' : List ℕ} → WrapSays m bytes packet timestamp output a n p o → WrapSays m bytes packet timestamp output b n' p' o' → (a ≡ b) × (writer n p ≡ writer n' p') × (o ≡ o')
one_write m bytes packet timestamp output = results.one_result

pub one_close : (m : Numbers) (bytes output : List ℕ) {a b : Result ℕ Refusal} {n n' : Numbers} {o o' : List ℕ} → CloseSays m bytes output a n o → CloseSays m bytes output b n' o' → (a ≡ b) × (writer n bytes ≡ writer n' bytes) × (o ≡ o')
one_close m bytes output = results.one_result

-- ---- any calls of a fresh writer: packets, closes and refused calls in any order; any size, any first number, any timestamps

module _ (size first : ℕ) (sized : is_size size ≡ true) (number : first < sequences) (bytes : List ℕ) (memory : length bytes ≡ most_size) (calls : List Call) (fair : Each Fair calls) where
  abbrev w : Writer
  w = fresh size first bytes

  abbrev outers : List (List ℕ)
  outers = outers_in (given w calls)

  abbrev packets : List (List ℕ)
  packets = taken_in w calls

  -- every outer packet passes the reader's checks
  pub each_outer : Each (λ o. is_outer o ≡ true) outers
  each_outer = trips.each_outer size first sized number bytes memory calls fair

  -- no byte comes twice, and none is missing
  pub no_byte_twice : payloads_in outers ++ left_after w calls ≡ line packets
  no_byte_twice = trips.no_byte_twice size first sized number bytes memory calls fair

  -- where nothing is left, as after a close: given in order to a fresh reader, they store exactly the packets that were taken, in order; no answer is a refusal or a
  -- repeat
  pub round_trip : left_after w calls ≡ [] → (part : List ℕ) → length part ≡ longest_packet → (reads : List Reading-as-Call) → map (λ c. c.outer) reads ≡ outers → Each Long reads → let r = reader fresh_numbers part in (out_of (fed r reads) ≡ packets) × Each Read (fed r reads)
  round_trip = trips.round_trip size first sized number bytes memory calls fair

  -- with a run of outer packets left out, exactly those packets are lost that had a byte in it
  pub round_trip_gap : left_after w calls ≡ [] → (before run behind : List (List ℕ)) → outers ≡ before ++ (run ++ behind) → 1 ≤ length run → length run ≤ 65534 → (part : List ℕ) → length part ≡ longest_packet → (reads : List Reading-as-Call) → map (λ c. c.outer) reads ≡ before ++ behind → Each Long reads → let r = reader fresh_numbers part in (out_of (fed r reads) ≡ apart (length (payloads_in before)) (length (payloads_in before) + length (payloads_in run)) packets) × Each Read (fed r reads)
  round_trip_gap = trips.round_trip_gap size first sized number bytes memory calls fair

-- ---- the program: what all turns write, on either channel, is what it prints for the file, whatever the reads bring

module _ (room : ℕ) (s : State) (xs : List ℕ) (reads : List Reading) (turns : ℕ) (space : longest_output ≤ room) (many : enough xs reads ≤ turns) where
  pub outers_written : turned (output_of wrap_channels) room turns s xs reads ≡ printed_with (λ t. last_written (fails_in reads) (wrap_channels.last t)) (output_of wrap_channels) s (xs ++ brought_by reads)
  outers_written = turned-printed (output_of wrap_channels) room s xs reads turns space many

  pub report_written : turned (report_of wrap_channels) room turns s xs reads ≡ printed_with (λ t. last_written (fails_in reads) (wrap_channels.last_report t)) (report_of wrap_channels) s (xs ++ brought_by reads)
  report_written = turned-printed (report_of wrap_channels) room s xs reads turns space many

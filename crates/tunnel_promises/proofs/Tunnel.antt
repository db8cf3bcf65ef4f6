-- What is promised of the tunnel, each statement proved by citing its lemma. What a reader must believe is this page, the contracts that src/lib.rt repeats, and the
-- definitions that both cite.
use mathlib.Core.Path.{◌≡◌}
use mathlib.Core.Bool.{not, ◌&&◌}
use mathlib.Core.Logic.{◌⊎◌}
use mathlib.Core.List.{List, ◌++◌}
use Prim.Native.Nat.{ℕ, ◌+◌, ◌≤◌}
use lib.Dec.{ltb, leb}
use lib.ListN.{length}
use Rattle.octets.specs.Checks.{check}
use Rattle.octets.specs.Each.{Each}
use Rattle.rtp.specs.Header.{sequence_in, payload_in}
use Rattle.packets.specs.declared.Start.TheVariants.{Running}
use Rattle.packets.specs.Packets.{longest_packet, Carried, start_of}
use Rattle.packets.specs.Stored.{stored, line}
use Rattle.std.specs.Prelude.{None, Ok}
use Rattle.store.specs.Store.{kept_in}
use Rattle.store.proofs.Laws as stores
use Rattle.tunnel.specs.declared.Numbers.{Numbers}
use Rattle.tunnel.specs.Outer.{offset_in, is_outer}
use Rattle.tunnel.specs.Unwrap.{shortest_output, most_stored, Answer, Reader, reader, part_of, unwrapped_values, is_repeat, marked, unwrapped, UnwrapSays}
use Rattle.tunnel.proofs.Results as results
use Rattle.carriage.specs.Sent.{Sendable, Choice, Fits, taken, between, sent}
use Rattle.carriage.specs.Fed.{Call, fed, out_of, Whole, Read, Idle, Balanced, Feeds}
use Rattle.carriage.proofs.Results as calls
use Rattle.carriage.proofs.InOrder as orders
use Rattle.records.specs.Transcripts.{printed_with}
use Rattle.records.specs.Channels.{output_of, report_of}
use Rattle.blocks.specs.Turns.{Reading, brought_by, fails_in, last_written, turned, enough}
use Rattle.unwrapping.specs.Unwrapping.{State, unwrap_channels}
use Rattle.unwrap_stream.proofs.Written as written

-- ---- one call, for any state, any outer packet and any output

module _ (r : Reader) (outer output : List ℕ) where
  -- each number exactly when its check, in this order, is the first to fail; a repeat has none
  pub number_exactly : (unwrapped_values (unwrapped r outer output).answer).number ≡ check (ltb (length output) shortest_output) 1 (check (not (is_outer outer)) 16 (check (is_repeat r.numbers (sequence_in outer)) 0 (check (marked r outer output && leb (length (payload_in outer)) (offset_in outer)) 17 0)))
  number_exactly = results.number_exactly r outer output

  -- a repeat, 1 and 16 change nothing
  pub nothing_changes : Idle (unwrapped r outer output) → ((unwrapped r outer output).reader ≡ r) × ((unwrapped r outer output).output ≡ output)
  nothing_changes = calls.unchanged-idle r outer output

  -- what is stored is always whole packets, each IPv4 by its first half byte, with its own length, within the limits
  pub whole_packets : Whole (unwrapped r outer output)
  whole_packets = calls.always_whole r outer output

  -- the most that it stores, so that an output of 4,096 bytes is enough
  pub longest_store : (unwrapped_values (unwrapped r outer output).answer).stored ≤ most_stored
  longest_store = results.most_stored_lem r outer output

  -- nothing is lost in silence
  pub balance : length r.bytes ≡ longest_packet → Balanced r outer (unwrapped r outer output) ⊎ Idle (unwrapped r outer output)
  balance = calls.balanced r outer output

  -- a part that is held is the start of a packet, so far right
  pub part_runs : start_of (part_of r) ≡ Running
  part_runs = results.part_running r

-- two results can't both meet the promise
pub one_result : (m : Numbers) (part outer output : List ℕ) {a b : Answer} {n n' : Numbers} {p p' o o' : List ℕ} → UnwrapSays m part outer output a n p o → UnwrapSays m part outer output b n' p' o' → (a ≡ b) × (reader n p ≡ reader n' p') × (o ≡ o')
one_result m part outer output = results.one_result

-- ---- a whole tunnel: any packets, cut in any way, from any place of the line on

module _ (packets : List (List ℕ)) (carried : Each Sendable packets) (n at : ℕ) where
  -- the outer packets of all payloads are those of some, and then of the others
  pub cut_anywhere : (before after : List Choice) → sent packets n at (before ++ after) ≡ sent packets n at before ++ sent packets (n + length before) (at + taken before) after
  cut_anywhere = orders.sent-append packets n at

  -- in order: exactly the packets come out that begin at or behind the place and end at or before the one that was come to; no answer is a refusal or a repeat
  pub in_order_lem : (cs : List Choice) → Each Fits cs → at + taken cs ≤ length (line packets) → (r : Reader) (calls : List Call) → Feeds (sent packets n at cs) r calls → (out_of (fed r calls) ≡ between at (at + taken cs) packets) × Each Read (fed r calls)
  in_order_lem = orders.in_order_lem packets carried n at

  -- a run of outer packets is left out: the packets come out that end before it, and those that begin behind it
  pub after_a_gap : (before run after : List Choice) → Each Fits before → Each Fits after → at + taken before + taken run + taken after ≤ length (line packets) → 1 ≤ length run → length run ≤ 65534 → (r : Reader) (calls : List Call) → let gap = at + taken before in let on = gap + taken run in Feeds (sent packets n at before ++ sent packets (n + length before + length run) on after) r calls → (out_of (fed r calls) ≡ between at gap packets ++ between on (on + taken after) packets) × Each Read (fed r calls)
  after_a_gap = orders.after_gap packets carried n at

-- ---- stored packets: reading back what was stored gives the packets

pub read_back : (packets : List (List ℕ)) → Each Carried packets → kept_in (stored packets) ≡ record { packets = packets; end = Ok None }
read_back = stores.stored-kept

-- ---- the program: what all turns write, on either channel, is what it prints for the file, whatever the reads bring

module _ (room : ℕ) (s : State) (xs : List ℕ) (reads : List Reading) (turns : ℕ) (space : shortest_output ≤ room) (many : enough xs reads ≤ turns) where
  pub packets_written : turned (output_of unwrap_channels) room turns s xs reads ≡ printed_with (λ t. last_written (fails_in reads) (unwrap_channels.last t)) (output_of unwrap_channels) s (xs ++ brought_by reads)
  packets_written = written.packets_written room s xs reads turns space many

  pub report_written : turned (report_of unwrap_channels) room turns s xs reads ≡ printed_with (λ t. last_written (fails_in reads) (unwrap_channels.last_report t)) (report_of unwrap_channels) s (xs ++ brought_by reads)
  report_written = written.report_written room s xs reads turns space many

-- What a whole run of the program `unwrap` writes on each channel, however the reads cut the file: the transcript of what they bring. Assumes nothing.
use mathlib.Core.Path.{◌≡◌}
use mathlib.Core.List.{List, ◌++◌}
use Prim.Native.Nat.{ℕ, ◌≤◌}
use Rattle.records.specs.Transcripts.{printed_with}
use Rattle.records.specs.Channels.{output_of, report_of}
use Rattle.blocks.specs.Turns.{Reading, brought_by, fails_in, last_written, turned, enough}
use Rattle.blocks.proofs.Turns.{turned-printed}
use Rattle.tunnel.specs.Unwrap.{shortest_output}
use Rattle.unwrapping.specs.Unwrapping.{State, unwrap_channels}

pub packets_written : (room : ℕ) (s : State) (xs : List ℕ) (reads : List Reading) (n : ℕ) → shortest_output ≤ room → enough xs reads ≤ n → turned (output_of unwrap_channels) room n s xs reads ≡ printed_with (λ t. last_written (fails_in reads) (unwrap_channels.last t)) (output_of unwrap_channels) s (xs ++ brought_by reads)
packets_written = turned-printed (output_of unwrap_channels)

pub report_written : (room : ℕ) (s : State) (xs : List ℕ) (reads : List Reading) (n : ℕ) → shortest_output ≤ room → enough xs reads ≤ n → turned (report_of unwrap_channels) room n s xs reads ≡ printed_with (λ t. last_written (fails_in reads) (unwrap_channels.last_report t)) (report_of unwrap_channels) s (xs ++ brought_by reads)
report_written = turned-printed (report_of unwrap_channels)

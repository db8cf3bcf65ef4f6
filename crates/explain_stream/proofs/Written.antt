-- What a whole run of the program `explain` prints, however the reads cut the file: the lines of what they bring. Assumes nothing.
use mathlib.Core.Path.{◌≡◌}
use mathlib.Core.List.{List, ◌++◌}
use Prim.Native.Nat.{ℕ, ◌≤◌}
use Rattle.records.specs.Transcripts.{printed_with}
use Rattle.blocks.specs.Turns.{Reading, brought_by, fails_in, last_written, turned, enough}
use Rattle.blocks.proofs.Turns.{turned-printed}
use Rattle.desk.specs.Calls.{State}
use Rattle.explaining.specs.Explained.{longest_text, explain_program}

pub lines_written : (room : ℕ) (s : State) (xs : List ℕ) (reads : List Reading) (turns : ℕ) → longest_text ≤ room → enough xs reads ≤ turns → turned explain_program room turns s xs reads ≡ printed_with (λ t. last_written (fails_in reads) (explain_program.last t)) explain_program s (xs ++ brought_by reads)
lines_written = turned-printed explain_program

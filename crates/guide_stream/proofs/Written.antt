-- What a whole run of the program `guide` prints, however the reads cut the file: the lines of what they bring. Assumes nothing.
use mathlib.Core.Path.{◌≡◌}
use mathlib.Core.List.{List, ◌++◌}
use Prim.Native.Nat.{ℕ, ◌≤◌}
use Rattle.records.specs.Transcripts.{printed_with}
use Rattle.blocks.specs.Turns.{Reading, brought_by, fails_in, last_written, turned, enough}
use Rattle.blocks.proofs.Turns.{turned-printed}
use Rattle.guides.specs.declared.Gathering.{Gathering}
use Rattle.guide_lines.specs.Lines.{longest_lines}
use Rattle.guiding.specs.Guiding.{guide_program}

pub lines_written : (room : ℕ) (g : Gathering) (xs : List ℕ) (reads : List Reading) (turns : ℕ) → longest_lines ≤ room → enough xs reads ≤ turns → turned guide_program room turns g xs reads ≡ printed_with (λ t. last_written (fails_in reads) (guide_program.last t)) guide_program g (xs ++ brought_by reads)
lines_written = turned-printed guide_program

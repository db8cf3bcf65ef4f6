-- What comes last in the program `log` is the last line. Assumes nothing.
use Rattle.std.proofs.Common.{arith, refl}
use Rattle.programs.proofs.Alone.{puts_line}
use Rattle.replay.specs.Log.{log_program}
use Rattle.replay.proofs.ReplayBorrower.put_last.Goals as goal

pub returns : goal.returns
returns c = puts_line log_program refl (omega arith) c.put_last-wrote.ensures

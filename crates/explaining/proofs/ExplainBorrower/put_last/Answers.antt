-- What comes last in the program `explain` is the last line. Assumes nothing.
use Rattle.std.proofs.Common.{arith, refl}
use Rattle.programs.proofs.Alone.{puts_line}
use Rattle.explaining.specs.Explained.{explain_program}
use Rattle.explaining.proofs.ExplainBorrower.put_last.Goals as goal

pub returns : goal.returns
returns c = puts_line explain_program refl (omega arith) c.put_last-wrote.ensures

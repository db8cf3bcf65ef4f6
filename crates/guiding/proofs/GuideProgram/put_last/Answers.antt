-- What comes last in the program `guide` is the last line. Assumes nothing.
use Rattle.std.proofs.Common.{arith, refl}
use Rattle.programs.proofs.Alone.{puts_line}
use Rattle.guiding.specs.Guiding.{guide_program}
use Rattle.guiding.proofs.GuideProgram.put_last.Goals as goal

pub returns : goal.returns
returns c = puts_line guide_program refl (omega arith) c.put_last-wrote.ensures

-- What comes last in the program `wrap`: the outer packet of the close, and the last line. Assumes nothing.
use Rattle.std.proofs.Common.{arith, refl}
use Rattle.wrapping.specs.Seen.{seen}
use Rattle.wrapping.proofs.Last.{puts_last}
use Rattle.wrapping.proofs.WrapBorrower.put_last.Goals as goal

pub put_last-told-requires : goal.put_last-told-requires
put_last-told-requires c = omega (arith, c.requires.tellable.1 refl)

pub returns : goal.returns
returns c = puts_last (seen c.args.self.now) c.args.entry c.requires.room (c.requires.tellable.1 refl) c.put_close-wrote.ensures.put c.put_last-told.ensures

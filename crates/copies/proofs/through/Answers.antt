-- `copies::through` meets its contract: what the array holds is the part that was asked for. Assumes nothing.
use Rattle.copies.proofs.Laws.{sets_held}
use Rattle.copies.proofs.through.Goals as goal

pub returns : goal.returns
returns c = let a = c.args in
    sets_held a.dst.now _ _ _ a.src.now a.to a.from a.n c.requires.2 c.requires.1 c.bytes.ensures c.bytes-2.ensures

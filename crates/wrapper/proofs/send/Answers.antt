-- `wrapper::send` meets its contract: the first outer packet, those behind it, and what is left. Assumes nothing.
use mathlib.Core.Path.{refl}
use native.Mathlib.Omega.{arith}
use lib.ListN.{length}
use Rattle.wrapper.proofs.Fills.{fill_says}
use Rattle.wrapper.proofs.send.Goals as goal

pub returns : goal.returns
returns c = let a = c.args in
    fill_says a.numbers a.bytes.now c.requires.sized (omega arith) a.packet.now a.timestamp a.full (length a.out.now) c.requires a.out.now _ _ _ _ _ _ _ c.waiting-left.ensures c.following.ensures c.put_joined.ensures c.put_later.ensures c.following-2.ensures refl c.put.ensures

-- `tunnel::put_packet` meets its contract: three runs of bytes. Assumes nothing.
use Rattle.tunnel.proofs.Laws.{joined-stored}
use Rattle.tunnel.proofs.put_packet.Goals as goal

pub returns : goal.returns
returns c = let a = c.args in
    joined-stored a.part.now a.more.now a.out.now _ _ _ a.to c.put_head.ensures c.put_all.ensures c.put_all-2.ensures

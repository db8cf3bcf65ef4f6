-- `packets::put_head` meets its contract: its mark and its length are the head. Assumes nothing.
use Rattle.packets.proofs.Laws.{head-stored}
use Rattle.packets.proofs.put_head.Goals as goal

pub returns : goal.returns
returns c = let a = c.args in
    head-stored a.store.now a.at a.n _ _ c.put_mark.ensures c.put_word.ensures

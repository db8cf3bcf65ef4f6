-- `wrapper::put_header` meets its contract: its six numbers are the header. Assumes nothing.
use native.Mathlib.Omega.{arith}
use Rattle.wrapper.proofs.Outers.{header-stored}
use Rattle.wrapper.proofs.put_header.Goals as goal

pub returns : goal.returns
returns c = let a = c.args in
    header-stored a.sequence a.timestamp a.begin a.size (omega arith) (omega arith) c.requires.0 a.out.now a.at _ _ _ _ _ _ _ _
    c.mark_by.ensures c.offset_by.ensures
    c.put_word.ensures c.put_word-2.ensures c.put_word-3.ensures c.put_word-4.ensures c.put_word-5.ensures c.put_word-6.ensures

-- `records::put_last` meets its contract: the word, then the number and the end of the line. Assumes nothing.
use native.Mathlib.Omega.{arith}
use Rattle.text.specs.Text.{text, numbered}
use Rattle.text.proofs.Laws.{put_same, put_both, length-numbered}
use Rattle.records.proofs.Entries.{end_number_small, last_is}
use Rattle.records.proofs.put_last.Goals as goal

pub put_numbered-requires : goal.put_numbered-requires
put_numbered-requires c = omega (arith, length-numbered 1 c.end_number.result (rw c.end_number.ensures (end_number_small c.args.entry)), c.put_text-end.ensures.0)

pub returns : goal.returns
returns c = let a = c.args in
    put_same a.out.now 0 (last_is a.entry c.end_number.result c.end_number.ensures) (put_both (text "END ") (numbered c.end_number.result) a.out.now 0 c.put_text-end.ensures c.put_numbered.ensures)

-- `explain_lines::put_found` meets its contract: the words and the two numbers come one after the other. Assumes nothing.
use native.Mathlib.Omega.{arith}
use lib.ListN.{length-append}
use Rattle.text.specs.Text.{text, decimal}
use Rattle.text.proofs.Laws.{length-decimal, length-numbered}
use Rattle.text.proofs.Adds.{adds_both, room_left}
use Rattle.explain_lines.proofs.put_found.Goals as goal

pub number-requires : goal.number-requires
number-requires c = room_left c.put.ensures _ _ (omega (arith, length-decimal 4 c.args.at (omega arith))) c.requires

pub put-requires-2 : goal.put-requires-2
put-requires-2 c = room_left (adds_both c.put.ensures c.number.ensures) _ _ (omega (arith, length-decimal 4 c.args.at (omega arith))) c.requires

pub numbered-requires : goal.numbered-requires
numbered-requires c = let a = c.args in
    room_left (adds_both c.put.ensures (adds_both c.number.ensures c.put-2.ensures)) _ _
    (omega (arith, length-append (decimal a.at) (text " is "), length-decimal 4 a.at (omega arith), length-numbered 19 a.value (omega arith))) c.requires

pub returns : goal.returns
returns c = adds_both c.put.ensures (adds_both c.number.ensures (adds_both c.put-2.ensures c.numbered.ensures))

-- `guide_lines::put_name_line` meets its contract: the word, the number, the name and the line's end come one after the other. Assumes nothing.
use native.Mathlib.Omega.{arith}
use lib.ListN.{length-append}
use Rattle.text.specs.Text.{decimal}
use Rattle.text.proofs.Adds.{adds_both, adds_same, room_left}
use Rattle.guide_lines.specs.Lines.{name_text}
use Rattle.guide_lines.proofs.Laws.{line_parts, length-line}
use Rattle.guide_lines.proofs.put_name_line.Goals as goal

pub put-requires : goal.put-requires
put-requires c = let a = c.args in omega (arith, length-line a.n a.name.now, c.requires)

pub number-requires : goal.number-requires
number-requires c = let a = c.args in room_left c.put.ensures _ _ (omega (arith, length-line a.n a.name.now)) c.requires

pub put_name-requires : goal.put_name-requires
put_name-requires c = let a = c.args in
    room_left (adds_both c.put.ensures c.number.ensures) _ _ (omega (arith, length-line a.n a.name.now)) c.requires

pub put-requires-2 : goal.put-requires-2
put-requires-2 c = let a = c.args in
    room_left (adds_both c.put.ensures (adds_both c.number.ensures c.put_name.ensures)) _ _ (omega (arith, length-line a.n a.name.now, length-append (decimal a.n) (name_text a.name.now))) c.requires

pub returns : goal.returns
returns c = let a = c.args in
    adds_same (line_parts a.n a.name.now) (adds_both c.put.ensures (adds_both c.number.ensures (adds_both c.put_name.ensures c.put-2.ensures)))

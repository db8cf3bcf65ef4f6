-- `guide_lines::put_escaped` meets its contract. The loop's invariant: of the whole that was asked for, the bytes left are left to put. Assumes nothing.
use Rattle.guide_lines.proofs.Laws.{left_more, left_none, left_room, escaped_next, escaped_none}
use Rattle.guide_lines.proofs.put_escaped.Goals as goal

pub put_byte-requires : goal.put_byte-requires
put_byte-requires c = let l = c.loop-byte in
    left_room _ _ (escaped_next c.args.name.now l.byte-index c.loop-byte-test.true) l.invariant c.requires

pub loop-byte-preserved : goal.loop-byte-preserved
loop-byte-preserved c = let l = c.loop-byte in
    left_more (escaped_next c.args.name.now l.byte-index c.loop-byte-test.true) l.invariant c.put_byte.ensures

pub returns : goal.returns
returns c = let l = c.loop-byte in
    left_none (escaped_none c.args.name.now l.byte-index c.loop-byte-test.false) l.invariant

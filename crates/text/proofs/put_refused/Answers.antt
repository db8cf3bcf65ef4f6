-- `text::put_refused` meets its contract: the number, the offset behind it, and the line's end. Assumes nothing.
use native.Mathlib.Omega.{arith}
use Rattle.text.specs.Text.{newline, decimal, offset_text, refused_with}
use Rattle.text.proofs.Laws.{put_both, length-decimal, length-offset}
use Rattle.text.proofs.put_refused.Goals as goal

pub put_number-at-requires : goal.put_number-at-requires
put_number-at-requires c = omega (arith, length-decimal 2 c.args.number (omega arith))

pub put_offset-end-requires : goal.put_offset-end-requires
put_offset-end-requires c = omega (arith, length-decimal 2 c.args.number (omega arith), c.put_number-at.ensures.0)

pub put_text-requires : goal.put_text-requires
put_text-requires c = let a = c.args in
    omega (arith, length-decimal 2 a.number (omega arith), length-offset a.telling a.number a.offset (omega arith), c.put_number-at.ensures.0, c.put_offset-end.ensures.0)

pub returns : goal.returns
unfolding refused_with
returns c = let a = c.args in
    let behind = put_both (offset_text a.telling a.number a.offset) newline _ _ c.put_offset-end.ensures c.put_text.ensures in
    put_both (decimal a.number) _ a.out.now a.to c.put_number-at.ensures behind

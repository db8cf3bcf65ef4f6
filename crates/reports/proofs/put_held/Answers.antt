-- `reports::put_held` meets its contract: nothing, or the word and the number behind it. Assumes nothing.
use native.Mathlib.Omega.{arith}
use lib.ListN.{length-append}
use Rattle.text.specs.Text.{newline, decimal}
use Rattle.text.proofs.Laws.{length_wide}
use Rattle.text.proofs.Adds.{adds_both, adds_same, adds_none, room_left}
use Rattle.reports.proofs.Laws.{held_none, held_some}
use Rattle.reports.proofs.put_held.Goals as goal

pub returns-then-n-eq0 : goal.returns-then-n-eq0
returns-then-n-eq0 c = let a = c.args in adds_same (held_none a.n c.if-n-eq0.true) (adds_none a.out.now)

pub numbered-requires : goal.numbered-requires
numbered-requires c = let a = c.args in
    room_left c.put.ensures _ _ (omega (arith, length-append (decimal a.n) newline, length_wide a.n (omega arith))) c.requires

pub returns : goal.returns
returns c = adds_same (held_some c.args.n c.if-n-eq0.false) (adds_both c.put.ensures c.numbered.ensures)

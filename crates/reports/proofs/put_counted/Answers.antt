-- `reports::put_counted` meets its contract: nothing, or the word and the number behind it. Assumes nothing.
use native.Mathlib.Omega.{arith}
use Rattle.text.proofs.Laws.{length_wide}
use Rattle.text.proofs.Adds.{adds_both, adds_same, adds_none, room_left}
use Rattle.reports.proofs.Laws.{behind_none, behind_some}
use Rattle.reports.proofs.put_counted.Goals as goal

pub returns-then-n-eq0 : goal.returns-then-n-eq0
returns-then-n-eq0 c = let a = c.args in
    adds_same (behind_none a.word.now a.n c.if-n-eq0.true) (adds_none a.out.now)

pub number-requires : goal.number-requires
number-requires c = room_left c.put.ensures _ _ (omega (arith, length_wide c.args.n (omega arith))) c.requires

pub returns : goal.returns
returns c = let a = c.args in
    adds_same (behind_some a.word.now a.n c.if-n-eq0.false) (adds_both c.put.ensures c.number.ensures)

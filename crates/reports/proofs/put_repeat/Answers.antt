-- `reports::put_repeat` meets its contract: nothing, or the word. Assumes nothing.
use mathlib.Core.Path.{sym, ap}
use Rattle.text.proofs.Adds.{adds_same, adds_none}
use Rattle.reports.proofs.Laws.{repeated}
use Rattle.reports.proofs.put_repeat.Goals as goal

pub returns-then-not-repeat : goal.returns-then-not-repeat
returns-then-not-repeat c = adds_same (ap repeated (sym c.if-not-repeat.true)) (adds_none c.args.out.now)

pub returns : goal.returns
returns c = adds_same (ap repeated (sym c.if-not-repeat.false)) c.put.ensures

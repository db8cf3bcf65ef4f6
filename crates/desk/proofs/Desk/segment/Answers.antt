-- `desk::Desk::segment` meets its contract: 12, 1, or what `drive` gives. Assumes nothing.
use mathlib.Core.Path.{sym, ap, ◌∙◌}
use mathlib.Core.Bool.{not}
use Rattle.desk.proofs.Ready.{long_ready}
use Rattle.desk.proofs.Laws.{opposite, taken_unfit, taken_short}
use Rattle.desk.proofs.Desk.segment.Goals as goal

pub returns-then-not-formed : goal.returns-then-not-formed
returns-then-not-formed c = taken_unfit _ _ _ _ (sym c.well_formed-formed.ensures ∙ c.if-not-formed.true)

pub returns-then-not-long : goal.returns-then-not-long
returns-then-not-long c = taken_short _ _ _ _ (sym c.well_formed-formed.ensures ∙ c.if-not-formed.false) (sym (opposite c.roomy-long.ensures) ∙ ap not c.if-not-long.true)

pub drive-driven-requires : goal.drive-driven-requires
drive-driven-requires c = let a = c.args in
    let y = long_ready a.self a.first.now a.second.now (sym c.well_formed-formed.ensures ∙ c.if-not-formed.false) (sym (opposite c.roomy-long.ensures) ∙ ap not c.if-not-long.false) in
    (y.formed, y.left, y.right)

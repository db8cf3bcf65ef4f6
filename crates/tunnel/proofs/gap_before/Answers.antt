-- `tunnel::gap_before` meets its contract. Assumes nothing.
use Rattle.tunnel.proofs.Laws.{gap-fresh, gap_begun}
use Rattle.tunnel.proofs.gap_before.Goals as goal

pub returns-in-Some : goal.returns-in-Some
returns-in-Some c = let a = c.args in gap_begun a.numbers a.sequence c.in-Some.last c.in-Some.is

pub returns-in-None : goal.returns-in-None
returns-in-None c = let a = c.args in gap-fresh a.numbers a.sequence c.in-None.is

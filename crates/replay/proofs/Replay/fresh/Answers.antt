-- `replay::Replay::fresh` meets its contract: a fresh desk is well formed. Assumes nothing.
use Rattle.std.proofs.Common.{arith, sym, ap, subst}
use Rattle.desk.specs.declared.Desk.{Desk}
use Rattle.desk.specs.Calls.{state, Ready}
use Rattle.effects.proofs.Keeps.{fresh-fits}
use Rattle.replay.proofs.Replay.fresh.Goals as goal

pub returns-clause-left : goal.returns-clause-left
returns-clause-left c = ap (λ (d : Desk). state d c.args.first.now c.args.second.now) c.fresh-desk.ensures

pub returns-clause-ready : goal.returns-clause-ready
returns-clause-ready c = subst Ready (sym (returns-clause-left c)) (fresh-fits, omega arith, omega arith)

-- `replay::Replay::gathering` meets its contract: a new gathering, and its line. Assumes nothing.
use Rattle.std.proofs.Common.{ap}
use Rattle.desk.specs.declared.Desk.{Desk}
use Rattle.desk.specs.Calls.{state}
use Rattle.desk.proofs.Laws.{gathering_fit}
use Rattle.replay.specs.Seen.{desk_of}
use Rattle.replay.proofs.Replay.gathering.Goals as goal

pub returns-clause-left : goal.returns-clause-left
returns-clause-left c =
    let a = c.args.self.now in
    rw c.clear.ensures (ap (λ (d : Desk). state d a.first.now a.second.now) (gathering_fit (desk_of a) _ c.requires.ready.0 c.gathering-self.ensures))

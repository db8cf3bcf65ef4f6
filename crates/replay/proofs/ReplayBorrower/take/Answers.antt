-- A record of a log: its call, and its lines, which have room. Assumes nothing.
use Rattle.std.proofs.Common.{rules, sym, subst}
use Rattle.desk.specs.Calls.{Ready}
use Rattle.programs.proofs.Alone.{takes_alone}
use Rattle.replay.specs.Log.{log_program}
use Rattle.replay.specs.Seen.{seen}
use Rattle.replay.proofs.Log.{next_ready, lines_fit}
use Rattle.replay.proofs.Laws.{lent_same}
use Rattle.replay.proofs.ReplayBorrower.take.Goals as goal

pub returns-clause-takes : goal.returns-clause-takes
returns-clause-takes c =
    let says = c.call.ensures.says in
    takes_alone log_program says.0 (says.1.at, search rules) (lines_fit.cost (seen c.args.self.now) (record { mark = c.args.mark; content = c.args.content.now })) c.requires.tellable.0

pub returns-clause-ready : goal.returns-clause-ready
returns-clause-ready c =
    subst Ready (sym c.call.ensures.says.0) (next_ready (seen c.args.self.now) (record { mark = c.args.mark; content = c.args.content.now }) c.requires.ready)

pub returns-clause-same_memories : goal.returns-clause-same_memories
returns-clause-same_memories c = lent_same c.args.self.now c.call.new.self c.call.ensures.same_memories

-- A record of an explained log: its call, and its lines, which have room. Assumes nothing.
use Rattle.std.proofs.Common.{rules, sym, subst}
use Rattle.desk.specs.Calls.{Ready}
use Rattle.programs.proofs.Alone.{takes_alone}
use Rattle.replay.specs.Seen.{seen}
use Rattle.replay.proofs.Laws.{lent_same}
use Rattle.explaining.specs.Explained.{explain_program}
use Rattle.explaining.proofs.Fits.{record-short, record_fits, explain_ready}
use Rattle.explaining.proofs.ExplainBorrower.take.Goals as goal

pub call-requires-clause-length_bytes_in_bounds : goal.call-requires-clause-length_bytes_in_bounds
call-requires-clause-length_bytes_in_bounds c m = (rw m at c.requires.holds).0

pub returns-clause-takes : goal.returns-clause-takes
returns-clause-takes c =
    let a = c.args in
    let s = seen a.self.now.replay in
    let says = c.call.ensures.says in
    takes_alone explain_program says.0 (says.1.at, search rules) (record_fits s c.requires.ready (record { mark = a.mark; content = a.content.now }) (record-short a.mark a.content.now c.requires.holds)) c.requires.tellable.0

pub returns-clause-ready : goal.returns-clause-ready
returns-clause-ready c =
    subst Ready (sym c.call.ensures.says.0) (explain_ready (seen c.args.self.now.replay) (record { mark = c.args.mark; content = c.args.content.now }) c.requires.ready)

pub returns-clause-same_memories : goal.returns-clause-same_memories
returns-clause-same_memories c = lent_same c.args.self.now.replay c.call.new.self.replay c.call.ensures.same_memories

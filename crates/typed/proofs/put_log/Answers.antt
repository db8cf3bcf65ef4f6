-- `typed::put_log` meets its contract. The loop's invariant: what is left, put here, makes the whole that was asked for. Assumes nothing.
use mathlib.Core.Path.{sym, ◌∙◌}
use Rattle.typed.proofs.Logs.{log_next, log_none}
use Rattle.typed.proofs.put_log.Goals as goal

pub loop-i-preserved : goal.loop-i-preserved
loop-i-preserved c = let a = c.args in
    let l = c.loop-i in
    log_next a.segments.now l.log _ a.count l.i c.loop-i-test.true c.requires.1 c.put_record.ensures ∙ l.invariant

pub returns : goal.returns
returns c = let a = c.args in
    let l = c.loop-i in
    sym (log_none a.segments.now l.log a.count l.i c.loop-i-test.false) ∙ l.invariant

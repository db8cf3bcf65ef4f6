-- `blocks::run` meets its contract: a turn keeps the unread part inside the block. Assumes nothing.
use Rattle.std.proofs.Common.{arith, sym, ap, ◌∙◌}
use mathlib.Core.Bool.{true≢false}
use Rattle.blocks.specs.Blocks.{stops_at}
use Rattle.blocks.proofs.Channels.{both_keep, run_says}
use Rattle.blocks.proofs.run.Goals as goal

pub finish-requires-clause-at_le_have : goal.finish-requires-clause-at_le_have
finish-requires-clause-at_le_have g c =
    let k = both_keep g.P.Borrower.channels c.turn.ensures.both_say c.loop-turns.invariant.ahead c.loop-turns.invariant.inside in
    (k.ahead, k.inside)

pub returns-then-stops : goal.returns-then-stops
returns-then-stops g c =
    let t = c.turn in
    let k = both_keep g.P.Borrower.channels t.ensures.both_say c.loop-turns.invariant.ahead c.loop-turns.invariant.inside in
    run_says g.P.Borrower.channels t.result.unread.step c.finish.result.ending _ _ t.new.block t.result.unread.at _ t.result.unread.have _ c.finish.new.out c.finish.new.report (g.P.Borrower.seen t.new.program) c.finish.ensures k.over
    (λ e. absurd (true≢false (sym c.if-stops.true ∙ c.stops.ensures ∙ ap stops_at e)))

pub loop-turns-preserved : goal.loop-turns-preserved
loop-turns-preserved g c =
    let t = c.turn in
    let k = both_keep g.P.Borrower.channels t.ensures.both_say c.loop-turns.invariant.ahead c.loop-turns.invariant.inside in
    record { ready = t.ensures.ready; ahead = k.ahead; inside = k.inside; turns = omega arith }

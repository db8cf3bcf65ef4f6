-- A turn keeps the unread part inside the block; the measure is the number of turns left. Assumes nothing.
use Rattle.std.proofs.Common.{length, ◌-◌, ◌≤◌}
use Rattle.blocks.specs.Blocks.{most_turns}
use Rattle.blocks.proofs.run.Given as goal

abbrev pub invariant-loop-turns : goal.invariant-loop-turns
invariant-loop-turns g l = record {
  ready : g.P.Borrower.Ready l.program;
  ahead : l.at ≤ l.have;
  inside : l.have ≤ length l.block;
  turns : l.turns ≤ most_turns;
}

abbrev pub decreases-loop-turns : goal.decreases-loop-turns
decreases-loop-turns g l = most_turns - l.turns

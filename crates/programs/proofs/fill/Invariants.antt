-- What is left to fill, put here, makes the whole that was asked for; the measure is what is left of the file. Assumes nothing.
use mathlib.Core.Path.{◌≡◌}
use Prim.Native.Nat.{◌-◌}
use lib.ListN.{length}
use Rattle.programs.proofs.Filling.{Doing}
use Rattle.programs.proofs.fill.Given as goal

abbrev pub invariant-loop-out : goal.invariant-loop-out
invariant-loop-out g l = record {
  doing : Doing g.P.Borrower.channels (g.P.Borrower.seen l.initial.program) l.file l.initial.out l.initial.report (g.P.Borrower.seen l.program) l.out l.report l.read l.wrote l.told;
  ready : g.P.Borrower.Ready l.program;
  same_memories : g.P.Borrower.lent l.program ≡ g.P.Borrower.lent l.initial.program;
}

abbrev pub decreases-loop-out : goal.decreases-loop-out
decreases-loop-out g l = length l.file - l.read

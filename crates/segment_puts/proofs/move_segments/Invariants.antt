use Prim.Native.Nat.{◌+◌, ◌-◌}
use Rattle.segment_puts.proofs.Laws.{Moving}
use Rattle.segment_puts.proofs.move_segments.Given as goal

abbrev pub invariant-loop-i : goal.invariant-loop-i
invariant-loop-i l = Moving l.kind l.last l.initial.out l.out (l.last + 1 - l.i)

-- `segment_puts::move_segments` meets its contract. The loop's invariant: the pieces left stand as they stood, and the segments of the others where
-- they belong. Assumes nothing.
use native.Mathlib.Nat.{sub-zero}
use native.Mathlib.Omega.{arith}
use Prim.Native.Nat.{◌+◌, ◌-◌}
use Rattle.segment_puts.proofs.Laws.{moving_starts, moving_on, moving_ends}
use Rattle.segment_puts.proofs.move_segments.Goals as goal

pub loop-i-init : goal.loop-i-init
loop-i-init c = let a = c.args in rw (sub-zero (a.last + 1)) (moving_starts a.kind a.last a.out.now)

pub loop-i-preserved : goal.loop-i-preserved
loop-i-preserved c = let a = c.args in
    let l = c.loop-i in
    moving_on a.kind a.last a.out.now c.requires.1 l.out _ l.i c.loop-i-test.true l.invariant c.move_segment.ensures

pub returns : goal.returns
returns c = let a = c.args in
    let l = c.loop-i in
    moving_ends a.kind a.last a.out.now c.requires.1 l.out (a.last + 1 - l.i) (omega (arith, c.loop-i-test.false)) l.invariant

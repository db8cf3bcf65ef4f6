-- `wrapping::put_outers` meets its contract: the invariant is that what is still to be put, where it has come to, is the whole. Assumes nothing.
use mathlib.Core.Path.{◌≡◌}
use native.Mathlib.Omega.{arith}
use Prim.Native.Nat.{◌+◌, ◌-◌}
use Rattle.wrapping.proofs.Outers.{puts_next, puts_end}
use Rattle.wrapping.proofs.put_outers.Goals as goal

pub loop-preserved : goal.loop-preserved
loop-preserved c = let a = c.args in
    let l = c.loop in
    let count : l.from + a.n - l.from ≡ a.n = omega arith in
    puts_next a.k a.n a.outers.now a.out.now a.to l.out (a.k - l.counter) (a.k - (l.counter + 1)) l.from l.end (omega arith) l.invariant _ (rw count at c.put_outer.ensures)

pub returns : goal.returns
returns c = let a = c.args in
    let l = c.loop in
    puts_end a.k a.n a.outers.now a.out.now a.to l.out (a.k - l.counter) l.from l.end (omega arith) l.invariant

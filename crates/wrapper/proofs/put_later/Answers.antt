-- `wrapper::put_later` meets its contract: the invariant is that what is still to be put, where it has come to, is the whole. Assumes nothing.
use native.Mathlib.Omega.{arith}
use Prim.Native.Nat.{◌+◌, ◌-◌}
use Rattle.octets.proofs.Laws.{bytes_all}
use Rattle.wrapper.proofs.Later.{puts_next, puts_end}
use Rattle.wrapper.proofs.put_later.Goals as goal

pub loop-preserved : goal.loop-preserved
loop-preserved c = let a = c.args in
    let l = c.loop in
    puts_next a.k a.size a.sequence a.timestamp a.packet.now a.from a.out.now a.at (omega arith) c.requires.0 (bytes_all a.packet.now (λ i. omega (arith, c.type_inv.packet i))) l.out (a.k - l.counter) (a.k - (l.counter + 1)) l.next l.here l.to (omega arith) l.invariant _ _ _ c.put_header.ensures c.put.ensures c.following-next.ensures

pub returns : goal.returns
returns c = let a = c.args in
    let l = c.loop in
    puts_end a.k a.size a.sequence a.timestamp a.packet.now a.from a.out.now a.at l.out (a.k - l.counter) l.next l.here l.to (omega arith) l.invariant

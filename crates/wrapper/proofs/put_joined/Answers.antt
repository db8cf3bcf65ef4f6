-- `wrapper::put_joined` meets its contract: the header, what was left, and the start of the packet. Assumes nothing.
use native.Mathlib.Omega.{arith}
use Rattle.octets.proofs.Laws.{bytes_all}
use Rattle.wrapper.proofs.Fills.{joined-stored}
use Rattle.wrapper.proofs.put_joined.Goals as goal

pub returns : goal.returns
returns c = let a = c.args in
    let held = bytes_all a.bytes.now (λ i. omega (arith, c.fits-bytes i)) in
    let given = bytes_all a.packet.now (λ i. omega (arith, c.type_inv.packet i)) in
    joined-stored a.numbers a.bytes.now c.requires.0 (omega arith) a.packet.now a.timestamp (omega arith) (omega arith) (omega arith) (omega arith) held given a.out.now _ _ _ _ _ _ c.waiting-left.ensures c.first_begin-begin.ensures c.first_stamp-stamp.ensures c.put_header.ensures c.put.ensures c.put-2.ensures

-- `wrapper::keep` meets its contract. Assumes nothing.
use mathlib.Core.Path.{refl}
use native.Mathlib.Omega.{arith}
use Rattle.wrapper.proofs.Fills.{keep_says}
use Rattle.wrapper.proofs.keep.Goals as goal

pub returns : goal.returns
returns c = let a = c.args in
    (refl, keep_says a.numbers a.bytes.now c.requires.0 (omega arith) a.packet.now a.timestamp (omega (arith, c.requires.0)) _ _ _ _ c.waiting-left.ensures c.first_begin.ensures c.first_stamp.ensures c.put.ensures (omega arith))

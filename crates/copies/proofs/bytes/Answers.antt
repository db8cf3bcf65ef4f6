-- `copies::bytes` meets its contract. The loop's invariant: the first i are copied. Assumes nothing.
use native.Mathlib.Omega.{arith}
use mathlib.Core.Path.{◌≡◌, refl}
use lib.ListN.{length-set}
use Rattle.copies.proofs.Laws.{set_more}
use Rattle.copies.proofs.bytes.Goals as goal

pub loop-i-preserved : goal.loop-i-preserved
loop-i-preserved c = let a = c.args in
    let l = c.loop-i in (
      simp length-set l.invariant.0,
      set_more a.dst.now l.dst a.src.now a.to a.from l.i (omega arith) l.invariant.1,
    )

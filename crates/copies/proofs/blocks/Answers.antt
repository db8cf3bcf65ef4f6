-- `copies::blocks` meets its contract. The loop's invariant: the first i are copied; the measure is what is left. Assumes nothing.
use native.Mathlib.Omega.{arith}
use Prim.Native.Nat.{◌+◌, ◌-◌}
use mathlib.Core.Path.{refl}
use Rattle.copies.proofs.Laws.{sets_more}
use Rattle.copies.proofs.blocks.Goals as goal

pub loop-i-init : goal.loop-i-init
loop-i-init c = (omega arith, refl, refl, refl)

pub loop-i-preserved : goal.loop-i-preserved
loop-i-preserved c = let a = c.args in
    let l = c.loop-i in (
      omega arith,
      refl,
      omega arith,
      sets_more a.dst.now l.dst _ a.src.now a.to a.from l.i l.i a.width (l.i + a.width) (omega arith) l.invariant.3 c.through.ensures,
    )

pub returns : goal.returns
returns c = let a = c.args in
    let l = c.loop-i in
    sets_more a.dst.now l.dst _ a.src.now a.to a.from l.i (a.n - a.width) a.width a.n (omega arith) l.invariant.3 c.through-2.ensures

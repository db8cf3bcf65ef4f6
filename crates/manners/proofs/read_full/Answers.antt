-- What one more read gave stands behind what came before it. Assumes nothing.
use Rattle.std.proofs.Common.{rules, sym, subst}
use Rattle.std.specs.Io.KnownBytes.{Consumes}
use Rattle.std.proofs.KnownBytes.{Consumes-trans}
use Rattle.manners.proofs.Laws.{take-put_mid_more}
use Rattle.manners.proofs.read_full.Goals as goal

pub loop-have-preserved : goal.loop-have-preserved
loop-have-preserved g c =
    let before = c.loop-have.invariant in
    let read = c.in-Ok.ensures in
    (search rules, subst (Consumes _ _) (sym (take-put_mid_more _ _ _ _ _ before.0 read.bound.0)) (Consumes-trans _ _ _ _ _ before.1 read.bytes.0))

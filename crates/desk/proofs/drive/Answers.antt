-- `desk::drive` meets its contract: a refusal of the segment itself, or the slot of its kind. Assumes nothing.
use mathlib.Core.Path.{sym}
use native.Mathlib.Omega.{arith}
use Rattle.slots.proofs.Keeps.{segment-passes}
use Rattle.desk.proofs.Laws.{taken_refused, taken_steered}
use Rattle.desk.proofs.drive.Goals as goal

pub bounds-seg-0 : goal.bounds-seg-0
bounds-seg-0 c = omega (arith, segment-passes c.args.seg.now (sym c.in-Ok.ensures))

pub steer-requires : goal.steer-requires
steer-requires c = (c.requires.0, sym c.in-Ok.ensures, c.requires.1, c.requires.2)

pub returns-in-Err : goal.returns-in-Err
returns-in-Err c = taken_refused _ _ _ _ (record { formed = c.requires.0; left = c.requires.1; right = c.requires.2 }) (sym c.in-Err.ensures)

pub returns-in-Ok : goal.returns-in-Ok
returns-in-Ok c = taken_steered _ _ _ _ (record { formed = c.requires.0; left = c.requires.1; right = c.requires.2 }) (sym c.in-Ok.ensures) c.from-kind.ensures c.steer.ensures

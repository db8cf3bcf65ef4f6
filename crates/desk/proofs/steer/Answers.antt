-- `desk::steer` meets its contract: the slot's bytes are lent as a part of the desk's and put back. Assumes nothing.
use native.Mathlib.Omega.{arith}
use Rattle.desk.specs.declared.Desk.{Desk}
use Rattle.desk.specs.Desks.{desk}
use Rattle.desk.proofs.Parts.{kind_fits, length-desk, start-low, part_own}
use Rattle.desk.proofs.Laws.{steered}
use Rattle.desk.proofs.steer.Goals as goal

pub slice_bounds-gather-end : goal.slice_bounds-gather-end
slice_bounds-gather-end c = omega (arith, start-low c.start_of-at.ensures, length-desk (desk c.args.notes c.args.bytes.now) c.requires.0)

pub gather-g-requires : goal.gather-g-requires
gather-g-requires c = let d : Desk = desk c.args.notes c.args.bytes.now in
    rw (c.own-slot.ensures, (part_own c.args.kind d c.requires.0 c.start_of-at.result c.start_of-at.ensures).0) ((kind_fits c.args.kind d c.requires.0).1, c.requires.1, c.requires.2, c.requires.3)

pub returns : goal.returns
returns c = let d : Desk = desk c.args.notes c.args.bytes.now in
    let p = part_own c.args.kind d c.requires.0 c.start_of-at.result c.start_of-at.ensures in
    steered c.args.kind d c.args.seg.now c.args.first.now c.args.second.now _ _ c.own-slot.ensures p.0 c.first_serves-one.ensures c.gather-g.ensures.second_after c.gather-g.ensures.first_unchanged c.with_slot.ensures (p.1 _)

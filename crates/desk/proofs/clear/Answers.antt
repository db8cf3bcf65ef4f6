-- `desk::clear` meets its contract: one slot's bytes, then the other's. Assumes nothing.
use mathlib.Core.Path.{sym}
use native.Mathlib.Omega.{arith}
use Rattle.meaning.specs.declared.Kind.TheVariants.{This}
use Rattle.meaning.specs.Sizes.{longest_chunk}
use Rattle.slots.specs.Slots.{no_bytes}
use Rattle.desk.specs.declared.Desk.{Desk}
use Rattle.desk.specs.Desks.{desk}
use Rattle.desk.proofs.Parts.{desk_parts, length-bytes, length-desk, length_none, length_halves, second_half, both_halves}
use Rattle.desk.proofs.clear.Goals as goal

pub slice_bounds-clear-end : goal.slice_bounds-clear-end
slice_bounds-clear-end c = omega (arith, length-desk (desk c.args.notes c.args.bytes.now) c.requires)

pub slice_bounds-clear-end-2 : goal.slice_bounds-clear-end-2
slice_bounds-clear-end-2 c = sym (length-bytes This (desk c.args.notes c.args.bytes.now) c.requires)

pub clear-requires : goal.clear-requires
clear-requires c = (desk_parts (desk c.args.notes c.args.bytes.now) c.requires).2

pub slice_bounds-clear-start : goal.slice_bounds-clear-start
slice_bounds-clear-start c = omega (arith, length_halves longest_chunk c.args.bytes.now no_bytes (length-desk (desk c.args.notes c.args.bytes.now) c.requires) length_none c.clear.ensures)

pub clear-requires-2 : goal.clear-requires-2
clear-requires-2 c = let d : Desk = desk c.args.notes c.args.bytes.now in
    rw (second_half longest_chunk d.bytes no_bytes (length-desk d c.requires) length_none c.clear.ensures) (desk_parts d c.requires).3

pub returns : goal.returns
returns c = both_halves longest_chunk c.args.bytes.now no_bytes (length-desk (desk c.args.notes c.args.bytes.now) c.requires) length_none c.clear.ensures c.clear-2.ensures

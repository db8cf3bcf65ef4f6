-- `desk::fits` meets its contract: the lengths, then the slot for this frame, then that for the next. Assumes nothing.
use mathlib.Core.Path.{◌≡◌, refl, sym, ap, ◌∙◌}
use mathlib.Core.Bool.{◌&&◌}
use lib.ListN.{take, drop}
use lib.Seq.{length-take-le}
use native.Mathlib.Omega.{arith}
use borrow.Author.Rules.{part_to_end}
use Rattle.std.proofs.Math.Bool.{and_assoc}
use Rattle.meaning.specs.Sizes.{longest_chunk}
use Rattle.slots.specs.Slots.{slot_fits}
use Rattle.notes.specs.Notes.{length_fits}
use Rattle.desk.specs.Desks.{well_formed}
use Rattle.desk.proofs.Laws.{both_run, first_fails}
use Rattle.desk.proofs.fits.Goals as goal
use Rattle.desk.proofs.fits.Goals.{then-length_fits, else-length_fits, then-length_fits-2, else-length_fits-2}

pub slice_bounds-slot_fits-end : goal.slice_bounds-slot_fits-end
slice_bounds-slot_fits-end c = sym (length-take-le longest_chunk c.args.bytes.now (omega (arith, c.requires)))

pub returns-then-slot_fits : goal.returns-then-slot_fits
unfolding well_formed
returns-then-slot_fits c =
    let n = c.args.notes in
    let bytes = c.args.bytes.now in
    let lengths : c.if-length_fits.value ≡ length_fits n.shown && length_fits n.coming =
    elim c.if-length_fits.branch [
      | then-length_fits w ↦ both_run c.length_fits.ensures w.if-length_fits.true w.length_fits-then-length_fits.ensures w.value-is
      | else-length_fits w ↦ first_fails (length_fits n.coming) c.length_fits.ensures w.if-length_fits.false w.value-is
    ] in
    let first : c.if-length_fits-2.value ≡ (length_fits n.shown && length_fits n.coming) && slot_fits n.this (take longest_chunk bytes) =
    elim c.if-length_fits-2.branch [
      | then-length_fits-2 w ↦ both_run lengths w.if-length_fits-2.true w.slot_fits.ensures w.value-is
      | else-length_fits-2 w ↦ first_fails (slot_fits n.this (take longest_chunk bytes)) lengths w.if-length_fits-2.false w.value-is
    ] in
    let second = c.slot_fits-then-slot_fits.ensures ∙ ap (slot_fits n.next) (part_to_end bytes longest_chunk) in
    both_run first c.if-slot_fits.true second refl
    ∙ and_assoc (length_fits n.shown && length_fits n.coming) (slot_fits n.this (take longest_chunk bytes)) (slot_fits n.next (drop longest_chunk bytes))

pub returns-else-slot_fits : goal.returns-else-slot_fits
unfolding well_formed
returns-else-slot_fits c =
    let n = c.args.notes in
    let bytes = c.args.bytes.now in
    let lengths : c.if-length_fits.value ≡ length_fits n.shown && length_fits n.coming =
    elim c.if-length_fits.branch [
      | then-length_fits w ↦ both_run c.length_fits.ensures w.if-length_fits.true w.length_fits-then-length_fits.ensures w.value-is
      | else-length_fits w ↦ first_fails (length_fits n.coming) c.length_fits.ensures w.if-length_fits.false w.value-is
    ] in
    let first : c.if-length_fits-2.value ≡ (length_fits n.shown && length_fits n.coming) && slot_fits n.this (take longest_chunk bytes) =
    elim c.if-length_fits-2.branch [
      | then-length_fits-2 w ↦ both_run lengths w.if-length_fits-2.true w.slot_fits.ensures w.value-is
      | else-length_fits-2 w ↦ first_fails (slot_fits n.this (take longest_chunk bytes)) lengths w.if-length_fits-2.false w.value-is
    ] in
    first_fails (slot_fits n.next (drop longest_chunk bytes)) first c.if-slot_fits.false refl
    ∙ and_assoc (length_fits n.shown && length_fits n.coming) (slot_fits n.this (take longest_chunk bytes)) (slot_fits n.next (drop longest_chunk bytes))

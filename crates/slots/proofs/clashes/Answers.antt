-- `slots::clashes` meets its contract: spoiled, empty, another last number, or the place. Assumes nothing.
use mathlib.Core.Path.{sym, ◌∙◌}
use Rattle.slots.proofs.Laws.{clash_spoiled, clash-empty, clash_last, clash_none, clash_held}
use Rattle.slots.proofs.clashes.Goals as goal

pub returns-then-slot : goal.returns-then-slot
returns-then-slot c = clash_spoiled c.args.slot c.args.bytes.now c.args.seg.now c.if-slot.true

pub returns-then-slot-eq0 : goal.returns-then-slot-eq0
returns-then-slot-eq0 c = clash-empty c.args.slot c.args.bytes.now c.args.seg.now c.if-slot.false c.if-slot-eq0.true

pub returns-then-slot-last : goal.returns-then-slot-last
returns-then-slot-last c = clash_last c.args.slot c.args.bytes.now c.args.seg.now c.if-slot.false c.if-slot-eq0.false c.if-slot-last.true

pub returns-then-holds : goal.returns-then-holds
returns-then-holds c = clash_held c.args.slot c.args.bytes.now c.args.seg.now c.if-slot.false c.if-slot-eq0.false c.if-slot-last.false _ c.requires.1 (sym c.holds.ensures ∙ c.if-holds.true) c.same.ensures

pub returns : goal.returns
returns c = clash_none c.args.slot c.args.bytes.now c.args.seg.now c.if-slot.false c.if-slot-eq0.false c.if-slot-last.false (sym c.holds.ensures ∙ c.if-holds.false)

-- `slots::numbers_fit` meets its contract: each way out is one case of `numbersFit`. Assumes nothing.
use Rattle.octets.proofs.Sets.{bit_pos}
use Rattle.slots.proofs.Leaves.{none_fits, spoiled_unfit, high_unfit, low_fits}
use Rattle.slots.proofs.numbers_fit.Goals as goal

pub returns-then-slot-eq0 : goal.returns-then-slot-eq0
returns-then-slot-eq0 c = none_fits c.args.slot c.if-slot-eq0.true

pub returns-then-slot : goal.returns-then-slot
returns-then-slot c = spoiled_unfit c.args.slot c.if-slot-eq0.false c.if-slot.true

pub returns-then-slot-ge-MOST_SEGMENTS : goal.returns-then-slot-ge-MOST_SEGMENTS
returns-then-slot-ge-MOST_SEGMENTS c = high_unfit c.args.slot c.if-slot-eq0.false c.if-slot.false c.if-slot-ge-MOST_SEGMENTS.true

pub nonzero_div-result : goal.nonzero_div-result
nonzero_div-result c = bit_pos c.args.slot.last _ c.bit.ensures

pub returns : goal.returns
returns c = low_fits c.args.slot c.if-slot-eq0.false _ c.if-slot.false c.if-slot-ge-MOST_SEGMENTS.false c.bit.ensures

-- `slots::slot_fits` meets its contract: the length, the numbers, then the bytes. Assumes nothing.
use Rattle.slots.proofs.Leaves.{slot_long, slot-fits, slot_unfit}
use Rattle.slots.proofs.slot_fits.Goals as goal

pub returns-then-bytes-ne-LONGEST_CHUNK : goal.returns-then-bytes-ne-LONGEST_CHUNK
returns-then-bytes-ne-LONGEST_CHUNK c = slot_long c.args.slot c.args.bytes.now c.if-bytes-ne-LONGEST_CHUNK.true

pub returns-then-numbers_fit : goal.returns-then-numbers_fit
returns-then-numbers_fit c = slot-fits c.args.slot c.args.bytes.now c.if-bytes-ne-LONGEST_CHUNK.false c.numbers_fit.ensures c.if-numbers_fit.true c.bytes_fit.ensures

pub returns-else-numbers_fit : goal.returns-else-numbers_fit
returns-else-numbers_fit c = slot_unfit c.args.slot c.args.bytes.now c.if-bytes-ne-LONGEST_CHUNK.false c.numbers_fit.ensures c.if-numbers_fit.false

-- `slots::clear` meets its contract: the bytes of a slot that holds nothing are zeros already. Assumes nothing.
use mathlib.Core.Path.{ap, ◌∙◌}
use Rattle.slots.specs.Slots.{zeros}
use Rattle.slots.proofs.Keeps.{none_held, slot-numbers}
use Rattle.slots.proofs.clear.Goals as goal

pub returns-then-slot-ne0 : goal.returns-then-slot-ne0
returns-then-slot-ne0 c = c.fill.ensures.after (λ y h. h) ∙ ap zeros (slot-numbers c.args.slot c.args.bytes.now c.requires).0

pub returns-else-slot-ne0 : goal.returns-else-slot-ne0
returns-else-slot-ne0 c = none_held c.args.slot c.args.bytes.now c.requires c.if-slot-ne0.false

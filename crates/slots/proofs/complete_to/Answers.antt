-- `slots::complete_to` meets its contract, for the first buffer and for the second. Assumes nothing.
use mathlib.Core.Path.{refl}
use Rattle.slots.proofs.complete_to.Goals as goal

pub returns-then-one : goal.returns-then-one
returns-then-one c = rw c.if-one.true (record { second_after = c.complete.ensures; first_unchanged = refl })

pub returns-else-one : goal.returns-else-one
returns-else-one c = rw c.if-one.false (record { second_after = c.complete-else-one.ensures; first_unchanged = refl })

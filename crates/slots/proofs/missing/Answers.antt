-- `slots::missing` meets its contract: a number below 2 ^ (last + 1) has at most last + 1 ones. Assumes nothing.
use native.Mathlib.Omega.{arith}
use lib.Count.{ones-le}
use Rattle.slots.proofs.missing.Goals as goal

pub overflow_cast-result : goal.overflow_cast-result
overflow_cast-result c = omega (arith, ones-le _ _ c.requires.1)

pub overflow_sub-result : goal.overflow_sub-result
overflow_sub-result c = omega (arith, ones-le _ _ c.requires.1)

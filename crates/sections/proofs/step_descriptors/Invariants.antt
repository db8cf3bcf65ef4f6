use mathlib.Core.Path.{◌≡◌}
use Prim.Native.Nat.{◌-◌, ◌≤◌}
use lib.ListN.{length}
use Rattle.sections.specs.Walks.{descriptors}
use Rattle.sections.proofs.step_descriptors.Given as goal

abbrev pub invariant-loop : goal.invariant-loop
invariant-loop l = (l.at ≤ length l.section) × (descriptors l.section (l.count - l.counter) l.at ≡ descriptors l.section l.count l.from)

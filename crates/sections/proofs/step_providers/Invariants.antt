use mathlib.Core.Path.{◌≡◌}
use Prim.Native.Nat.{◌-◌, ◌≤◌}
use lib.ListN.{length}
use Rattle.sections.specs.Walks.{providers}
use Rattle.sections.proofs.step_providers.Given as goal

abbrev pub invariant-loop : goal.invariant-loop
invariant-loop l = (l.at ≤ length l.section) × (providers l.section (l.count - l.counter) l.at ≡ providers l.section l.count l.from)

use Prim.Native.Nat.{◌-◌, ◌≤◌}
use mathlib.Core.Path.{◌≡◌}
use lib.ListN.{length, drop}
use Rattle.meaning.specs.Reading.{ensembles_checks}
use Rattle.chunk_checks.proofs.check_ensembles.Given as goal

abbrev pub invariant-loop : goal.invariant-loop
invariant-loop l = (l.at ≤ length l.chunk) × (ensembles_checks l.e l.s (l.count - l.counter) l.at (drop l.at l.chunk) ≡ ensembles_checks l.e l.s l.count l.from (drop l.from l.chunk))

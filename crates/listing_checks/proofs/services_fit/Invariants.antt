use mathlib.Core.Path.{◌≡◌}
use Rattle.meaning.specs.Said.{services_fit}
use Rattle.listing_checks.proofs.Checks.{services_left}
use Rattle.listing_checks.proofs.services_fit.Given as goal

abbrev pub invariant-loop-i : goal.invariant-loop-i
invariant-loop-i l = services_left l.ensemble l.count l.i l.records ≡ services_fit l.ensemble l.count l.records

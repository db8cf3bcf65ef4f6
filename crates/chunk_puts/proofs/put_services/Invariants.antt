use mathlib.Core.Path.{◌≡◌}
use lib.Seq.{sets}
use Rattle.chunk_puts.specs.Laid.{services_laid}
use Rattle.chunk_puts.proofs.Laws.{services_left}
use Rattle.chunk_puts.proofs.put_services.Given as goal

abbrev pub invariant-loop-i : goal.invariant-loop-i
invariant-loop-i l = services_left l.count l.i l.records l.start l.chunk ≡ sets l.initial.chunk l.start (services_laid l.count l.records)

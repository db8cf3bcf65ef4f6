use Prim.Native.Nat.{◌+◌, ◌-◌, ◌≤◌}
use mathlib.Core.Path.{◌≡◌}
use mathlib.Core.Bool.{true}
use lib.ListN.{length}
use lib.Seq.{sets}
use Rattle.meaning.specs.Said.{ensembles_fit}
use Rattle.chunk_puts.specs.Laid.{ensembles_laid}
use Rattle.chunk_puts.proofs.put_ensembles.Given as goal

abbrev pub invariant-loop : goal.invariant-loop
invariant-loop l = (ensembles_fit (l.count - l.counter) l.rest ≡ true)
    × (l.to + length (ensembles_laid (l.count - l.counter) l.rest) ≤ length l.chunk)
    × (sets l.chunk l.to (ensembles_laid (l.count - l.counter) l.rest) ≡ sets l.initial.chunk l.start (ensembles_laid l.count l.records))

use Prim.Native.Nat.{◌+◌, ◌-◌, ◌≤◌}
use mathlib.Core.Path.{◌≡◌}
use mathlib.Core.List.{flat_map}
use lib.ListN.{length, drop}
use lib.Seq.{sets}
use Rattle.std.proofs.Common.{Ok}
use Rattle.meaning.specs.Listing.{ensemble_listing}
use Rattle.meaning.specs.Reading.{ensembles_checks, ensembles_at}
use Rattle.listing_puts.proofs.write_ensembles.Given as goal

abbrev pub invariant-loop : goal.invariant-loop
invariant-loop l = let rest = flat_map ensemble_listing (ensembles_at l.e l.s (l.count - l.counter) (drop l.at l.chunk)) in
    let all = flat_map ensemble_listing (ensembles_at l.e l.s l.count (drop l.from l.chunk)) in
    (l.at ≤ length l.chunk)
    × (ensembles_checks l.e l.s (l.count - l.counter) l.at (drop l.at l.chunk) ≡ Ok tt)
    × (length l.out ≡ length l.initial.out)
    × (l.to + length rest ≡ l.start + length all)
    × (sets l.out l.to rest ≡ sets l.initial.out l.start all)

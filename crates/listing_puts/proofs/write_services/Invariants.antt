use Prim.Native.Nat.{◌+◌, ◌-◌, ◌*◌, ◌≤◌}
use mathlib.Core.Path.{◌≡◌}
use mathlib.Core.List.{flat_map}
use lib.ListN.{length, drop}
use lib.Seq.{sets}
use Rattle.meaning.specs.Sizes.{service_bytes, sv_bytes}
use Rattle.meaning.specs.Listing.{sv_record}
use Rattle.meaning.specs.Reading.{services_at}
use Rattle.listing_puts.proofs.write_services.Given as goal

abbrev pub invariant-loop : goal.invariant-loop
invariant-loop l = (l.at + (l.count - l.counter) * (service_bytes + l.s) ≤ length l.chunk)
    × (l.to + sv_bytes * (l.count - l.counter) ≤ length l.out)
    × (length l.out ≡ length l.initial.out)
    × (sets l.out l.to (flat_map (sv_record l.ensemble) (services_at l.s (l.count - l.counter) (drop l.at l.chunk))) ≡ sets l.initial.out l.start (flat_map (sv_record l.ensemble) (services_at l.s l.count (drop l.from l.chunk))))

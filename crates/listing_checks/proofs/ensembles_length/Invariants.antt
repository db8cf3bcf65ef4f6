use Prim.Native.Nat.{◌+◌, ◌-◌, ◌≤◌}
use mathlib.Core.Path.{◌≡◌}
use lib.ListN.{length}
use Rattle.meaning.specs.Sizes.{chunk_header_bytes}
use Rattle.listing_checks.proofs.Lengths.{length_with}
use Rattle.listing_checks.proofs.ensembles_length.Given as goal

abbrev pub invariant-loop : goal.invariant-loop
invariant-loop l = (l.length + length l.rest ≤ chunk_header_bytes + length l.records)
    × (length_with l.length (l.count - l.counter) l.rest ≡ length_with chunk_header_bytes l.count l.records)

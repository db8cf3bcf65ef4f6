-- `listing_puts::write_known` meets its contract: its mark and the four stores behind it are the ensemble's record, and its services' records come after it. Assumes nothing.
use native.Mathlib.Omega.{arith}
use lib.ListN.{length-set}
use Rattle.chunk_checks.proofs.Laws.{services_at_lem, room_at}
use Rattle.listing_puts.proofs.Laws.{known-stored}
use Rattle.listing_puts.proofs.write_known.Goals as goal

pub bounds-out-to-2 : goal.bounds-out-to-2
bounds-out-to-2 c = simp length-set (omega arith)

pub bounds-out-to-3 : goal.bounds-out-to-3
bounds-out-to-3 c = simp length-set (omega arith)

pub bounds-out-to-4 : goal.bounds-out-to-4
bounds-out-to-4 c = simp length-set (omega arith)

pub overflow_mul-result : goal.overflow_mul-result
overflow_mul-result c = omega (arith, services_at_lem c.args.chunk.now c.args.at c.args.e c.args.s)

pub overflow_add-result : goal.overflow_add-result
overflow_add-result c = omega (arith, services_at_lem c.args.chunk.now c.args.at c.args.e c.args.s)

pub overflow_add-result-2 : goal.overflow_add-result-2
overflow_add-result-2 c = omega (arith, services_at_lem c.args.chunk.now c.args.at c.args.e c.args.s)

pub write_services-requires : goal.write_services-requires
write_services-requires c = let a = c.args in (
  omega (arith, c.requires.chunk_in_bounds, room_at a.chunk.now a.at a.e a.s),
  simp length-set (omega (arith, c.requires.chunk_in_bounds_2, services_at_lem a.chunk.now a.at a.e a.s)),
)

pub returns : goal.returns
returns c = let a = c.args in
    record {
      value = omega (arith, services_at_lem a.chunk.now a.at a.e a.s);
      out_after = known-stored a.chunk.now a.out.now _ _ a.at a.to a.e a.s c.put_mark.ensures c.write_services.ensures;
    }

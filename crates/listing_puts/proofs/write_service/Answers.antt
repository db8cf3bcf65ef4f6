-- `listing_puts::write_service` meets its contract: its mark and the six stores behind it are the service's record. Assumes nothing.
use native.Mathlib.Omega.{arith}
use lib.ListN.{length-set}
use Rattle.listing_puts.proofs.Laws.{service-stored}
use Rattle.listing_puts.proofs.write_service.Goals as goal

pub bounds-out-to-2 : goal.bounds-out-to-2
bounds-out-to-2 c = simp length-set (omega arith)

pub bounds-out-to-3 : goal.bounds-out-to-3
bounds-out-to-3 c = simp length-set (omega arith)

pub bounds-out-to-4 : goal.bounds-out-to-4
bounds-out-to-4 c = simp length-set (omega arith)

pub bounds-out-to-5 : goal.bounds-out-to-5
bounds-out-to-5 c = simp length-set (omega arith)

pub bounds-out-to-6 : goal.bounds-out-to-6
bounds-out-to-6 c = simp length-set (omega arith)

pub returns : goal.returns
returns c = let a = c.args in
    service-stored a.chunk.now a.out.now _ a.at a.ensemble a.to (omega arith) c.put_mark.ensures

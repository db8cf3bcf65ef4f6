-- `listing_puts::write_unknown` meets its contract: its mark and the two stores behind it are the record. Assumes nothing.
use native.Mathlib.Omega.{arith}
use lib.ListN.{length-set}
use Rattle.listing_puts.proofs.Laws.{unknown-stored}
use Rattle.listing_puts.proofs.write_unknown.Goals as goal

pub bounds-out-to-2 : goal.bounds-out-to-2
bounds-out-to-2 c = simp length-set (omega arith)

pub returns : goal.returns
returns c = let a = c.args in
    unknown-stored a.chunk.now a.out.now _ a.at a.to c.put_mark.ensures

-- `lukasembo::lukasembo_write` meets its contract: a listing's bytes are bytes, so the segments are few. Assumes nothing.
use Rattle.std.proofs.Common.{arith}
use Rattle.octets.proofs.Laws.{bytes_all}
use Rattle.lukasembo.proofs.Laws.{segments_few}
use Rattle.lukasembo.proofs.lukasembo_write.Goals as goal

pub pack_written-requires : goal.pack_written-requires
pack_written-requires c = let bytes = bytes_all c.args.listing.now (λ i. omega (arith, c.type_inv.listing i)) in
    rw c.write-answer.ensures.answers (segments_few _ _ _ bytes)

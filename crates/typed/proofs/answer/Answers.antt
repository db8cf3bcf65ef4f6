-- `typed::answer` meets its contract: what it puts is the log of the writer's segments. Assumes nothing.
use Rattle.octets.proofs.Laws.{bytes_all}
use Rattle.typed.proofs.Replies.{segments_few, reply_log_lem}
use native.Mathlib.Omega.{arith}
use Rattle.typed.proofs.answer.Goals as goal

pub put_log-requires : goal.put_log-requires
put_log-requires c = omega (arith, segments_few c.args.listing.now c.args.kind _ c.write.result c.write.ensures _ c.in_ok-count.was (bytes_all c.args.listing.now (λ i. (c.type_inv.listing i).fits)))

pub overflow_mul-result : goal.overflow_mul-result
overflow_mul-result c = omega (arith, segments_few c.args.listing.now c.args.kind _ c.write.result c.write.ensures _ c.in_ok-count.was (bytes_all c.args.listing.now (λ i. (c.type_inv.listing i).fits)))

pub returns-clause-log_after : goal.returns-clause-log_after
returns-clause-log_after c = let a = c.args in
    (reply_log_lem a.listing.now a.kind _ c.write.result c.write.ensures _ c.in_ok-count.was (bytes_all a.listing.now (λ i. (c.type_inv.listing i).fits)) a.log.now _ c.requires c.put_log.ensures).1

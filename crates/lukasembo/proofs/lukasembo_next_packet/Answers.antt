-- `lukasembo::lukasembo_next_packet` meets its contract: a packet's length fits sixteen bits. Assumes nothing.
use Rattle.std.proofs.Common.{arith, sym, ap, ◌∙◌, drop, Ok}
use Rattle.store.proofs.Laws.{packet_means}
use Rattle.lukasembo.proofs.lukasembo_next_packet.Goals as goal

pub overflow_mul-result : goal.overflow_mul-result
overflow_mul-result c = let a = c.args in
    omega (arith, (packet_means (drop a.at a.store.now) _ (sym (ap Ok (sym c.in-Ok-Some.field-0-is) ∙ c.in-Ok-Some.ensures))).1)

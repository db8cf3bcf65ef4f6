-- `lukasembo::lukasembo_unwrap_step` meets its contract: the parts of the tunnel's answer are small. Assumes nothing.
use Rattle.std.proofs.Common.{arith, ap}
use Rattle.tunnel.specs.Unwrap.{Reader}
use Rattle.lukasembo.proofs.Laws.{unwrapped_small, held_small}
use Rattle.lukasembo.proofs.lukasembo_unwrap_step.Goals as goal

pub pack_unwrapped-requires : goal.pack_unwrapped-requires
pack_unwrapped-requires c = rw c.unwrap-fed.ensures.answers (unwrapped_small _ _ _)

pub left_numbers-requires : goal.left_numbers-requires
left_numbers-requires c =
    rw (ap (λ (r : Reader). r.numbers.held) c.unwrap-fed.ensures.holds)
    (held_small _ _ _ (rw c.unpack_numbers-m.ensures (omega arith)))

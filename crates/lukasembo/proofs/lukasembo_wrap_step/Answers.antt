-- `lukasembo::lukasembo_wrap_step` meets its contract: the parts of the writer's answer are small. Assumes nothing.
use Rattle.std.proofs.Common.{arith}
use Rattle.lukasembo.proofs.Wraps.{wrap_fits}
use Rattle.lukasembo.proofs.lukasembo_wrap_step.Goals as goal

pub pack_given-requires : goal.pack_given-requires
pack_given-requires c = let a = c.args in
    wrap_fits _ a.numbers a.since (omega arith) c.unpack_writer-before.ensures a.left.now a.packet.now a.timestamp a.output.now c.wrap.ensures

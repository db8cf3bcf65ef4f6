-- `lukasembo::lukasembo_close_step` meets its contract: the parts of the writer's answer are small. Assumes nothing.
use Rattle.std.proofs.Common.{arith}
use Rattle.lukasembo.proofs.Wraps.{close-fits}
use Rattle.lukasembo.proofs.lukasembo_close_step.Goals as goal

pub pack_given-requires : goal.pack_given-requires
pack_given-requires c = let a = c.args in
    close-fits _ a.numbers a.since (omega arith) c.unpack_writer-before.ensures a.left.now a.output.now c.close.ensures

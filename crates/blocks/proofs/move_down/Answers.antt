-- `blocks::move_down` meets its contract, byte by byte. Assumes nothing.
use Rattle.std.proofs.Common.{arith, ◌+◌, ◌<◌, ◌≡◌, length}
use Rattle.blocks.proofs.Laws.{moved_rest, moved_front}
use Rattle.blocks.proofs.move_down.Goals as goal

pub loop-i-preserved : goal.loop-i-preserved
loop-i-preserved c =
    let l = c.loop-i in
    let inside : c.args.from + l.i < length c.args.block.now = omega arith in
    let long : length l.block ≡ length c.args.block.now = omega arith in
    record {
      rest = moved_rest l.block c.args.block.now c.args.from l.i inside long l.invariant.rest;
      front = moved_front l.block c.args.block.now c.args.from l.i inside long l.invariant.rest l.invariant.front;
    }

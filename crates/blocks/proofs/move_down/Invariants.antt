-- The bytes below i are moved, those from i on are as they were. Assumes nothing.
use Rattle.std.proofs.Common.{◌≡◌, take, drop}
use Rattle.blocks.proofs.move_down.Given as goal

abbrev pub invariant-loop-i : goal.invariant-loop-i
invariant-loop-i l = record {
  rest : drop l.i l.block ≡ drop l.i l.initial.block;
  front : take l.i l.block ≡ take l.i (drop l.from l.initial.block);
}

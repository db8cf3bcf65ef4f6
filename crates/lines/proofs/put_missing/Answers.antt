-- `lines::put_missing` meets its contract: behind the words there is room for the number. Assumes nothing.
use native.Mathlib.Omega.{arith}
use Rattle.text.proofs.Laws.{length-numbered}
use Rattle.text.proofs.Adds.{room_left}
use Rattle.lines.proofs.put_missing.Goals as goal

pub numbered-requires : goal.numbered-requires
numbered-requires c = room_left c.put.ensures _ _ (omega (arith, length-numbered 2 c.args.n (omega arith))) c.requires

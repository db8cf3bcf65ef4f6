-- `guide_lines::put_missing` meets its contract: the words, and the number behind them. Assumes nothing.
use native.Mathlib.Omega.{arith}
use Rattle.text.proofs.Laws.{length-numbered}
use Rattle.text.proofs.Adds.{adds_both, room_left}
use Rattle.guide_lines.proofs.put_missing.Goals as goal

pub numbered-requires : goal.numbered-requires
numbered-requires c = room_left c.put.ensures _ _ (omega (arith, length-numbered 4 c.args.missing (omega arith), c.requires.0)) c.requires.1

pub returns : goal.returns
returns c = adds_both c.put.ensures c.numbered.ensures

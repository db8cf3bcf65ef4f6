-- `text::put_offset` meets its contract: nothing, or the words and the offset behind them. Assumes nothing.
use native.Mathlib.Omega.{arith}
use Rattle.text.proofs.Laws.{length_wide}
use Rattle.text.proofs.put_offset.Goals as goal

pub put_number-requires : goal.put_number-requires
put_number-requires c = omega (arith, length_wide c.args.offset (omega arith), c.put_text-at.ensures.0)

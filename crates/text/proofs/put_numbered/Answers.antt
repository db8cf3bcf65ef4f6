-- `text::put_numbered` meets its contract: the number, and the end of the line behind it. Assumes nothing.
use mathlib.Core.Path.{refl}
use Rattle.text.specs.Text.{newline, decimal}
use Rattle.text.proofs.Laws.{put_both}
use Rattle.text.proofs.put_numbered.Goals as goal

pub returns : goal.returns
returns c = let a = c.args in
    put_both (decimal a.n) newline a.out.now a.to c.put_number-end.ensures (refl, refl)

-- `explain_lines::put_chunk` meets its contract: what the checks say, and the explanation behind it. Assumes nothing.
use native.Mathlib.Omega.{arith}
use mathlib.Core.Path.{ap, ap₂}
use mathlib.Core.List.{◌++◌}
use Rattle.text.proofs.Adds.{adds_both, adds_same, room_left}
use Rattle.explain_lines.specs.Lines.{explained_line, checked_line}
use Rattle.explain_lines.proofs.Laws.{checked_short}
use Rattle.explain_lines.proofs.put_chunk.Goals as goal

pub put_explained-requires : goal.put_explained-requires
put_explained-requires c = room_left c.put_checked.ensures _ _ (omega (arith, checked_short c.args.chunk.now c.check_chunk.result c.check_chunk.ensures)) c.requires

pub returns : goal.returns
returns c =
    adds_same (ap₂ ◌++◌ (ap checked_line c.check_chunk.ensures) (ap explained_line c.explain_chunk.ensures)) (adds_both c.put_checked.ensures c.put_explained.ensures)

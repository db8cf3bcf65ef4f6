-- `explain_lines::put_checked` meets its contract: no refusal, or one. Assumes nothing.
use mathlib.Core.Path.{sym, ap}
use Rattle.text.proofs.Adds.{adds_both, adds_same}
use Rattle.explain_lines.specs.Lines.{checked_line}
use Rattle.explain_lines.proofs.put_checked.Goals as goal

pub returns-in-Ok : goal.returns-in-Ok
returns-in-Ok c = adds_same (ap checked_line (sym c.in-Ok.is)) c.put.ensures

pub returns-in-Err : goal.returns-in-Err
returns-in-Err c = adds_same (ap checked_line (sym c.in-Err.is)) (adds_both c.put-in-Err.ensures c.put_refusal.ensures)

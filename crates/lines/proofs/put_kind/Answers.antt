-- `lines::put_kind` meets its contract, kind by kind. Assumes nothing.
use mathlib.Core.Path.{sym, ap}
use Rattle.text.proofs.Adds.{adds_same}
use Rattle.lines.specs.Lines.{kind_text}
use Rattle.lines.proofs.put_kind.Goals as goal

pub returns-in-This : goal.returns-in-This
returns-in-This c = adds_same (ap kind_text (sym c.in-This.is)) c.put.ensures

pub returns-in-Next : goal.returns-in-Next
returns-in-Next c = adds_same (ap kind_text (sym c.in-Next.is)) c.put-in-Next.ensures

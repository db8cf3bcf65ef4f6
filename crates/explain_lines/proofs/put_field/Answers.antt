-- `explain_lines::put_field` meets its contract, field by field. Assumes nothing.
use mathlib.Core.Path.{sym, ap}
use Rattle.text.proofs.Adds.{adds_same}
use Rattle.explain_lines.specs.Lines.{field_name}
use Rattle.explain_lines.proofs.put_field.Goals as goal

pub returns-in-Length : goal.returns-in-Length
returns-in-Length c = adds_same (ap field_name (sym c.in-Length.is)) c.put.ensures

pub returns-in-Row : goal.returns-in-Row
returns-in-Row c = adds_same (ap field_name (sym c.in-Row.is)) c.put_name.ensures

pub returns-in-Payload : goal.returns-in-Payload
returns-in-Payload c = adds_same (ap field_name (sym c.in-Payload.is)) c.put-in-Payload.ensures

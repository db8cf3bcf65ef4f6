-- Four texts put one after the other; how long a field's name and a chunk's line may be. Assumes nothing.
use mathlib.Core.Path.{◌≡◌, sym}
use mathlib.Core.List.{List}
use Prim.Native.Nat.{ℕ, ◌≤◌}
use native.Mathlib.Omega.{arith}
use lib.ListN.{length}
use Rattle.std.proofs.Common.{Result, Ok, Err}
use Rattle.meaning.specs.Reading.{checks}
use Rattle.meaning.proofs.Ends.{told_small}
use Rattle.lines.specs.Lines.{longest_lines}
use Rattle.lines.proofs.Laws.{length_refusal}
use Rattle.field_names.proofs.Laws.{name-short}
use Rattle.explains.specs.declared.Field.{Field}
use Rattle.explains.specs.declared.Field.TheVariants.{Length, Row, Payload}
use Rattle.explain_lines.specs.Lines.{field_name, checked_line}
use Rattle.meaning.specs.declared.Refusal.{Refusal}

pub field-short : (field : Field) → length (field_name field) ≤ 37
field-short Length = omega arith
field-short (Row t i) = name-short t i
field-short Payload = omega arith

-- the line of a chunk is no longer than the lines of the log may be
pub checked_short : (xs : List ℕ) (v : Result Unit Refusal) → v ≡ checks xs → length (checked_line v) ≤ longest_lines
checked_short xs (Ok _) e = omega arith
checked_short xs (Err f) e = omega (arith, length_refusal f (omega (arith, told_small xs f (sym e))))

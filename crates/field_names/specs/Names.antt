-- The names of the fields of A/153 Part 3:2013, as bytes.
use Rattle.std.specs.Prelude.{ℕ, zero, suc, List, [], ◌∷◌}
use Rattle.octets.specs.Tables.{Row, name_for}
use Rattle.text.specs.Text.{text}
use Rattle.fields.specs.declared.Table.{Table}
use Rattle.fields.specs.Fields.{rows_of}

-- the name of row i, none where there is no such row
abbrev pub name_in : List Row → ℕ → List ℕ
name_in [] i = []
name_in (r ∷ rows) zero = text (name_for r)
name_in (r ∷ rows) (suc i) = name_in rows i

abbrev pub name_of : Table → ℕ → List ℕ
name_of t i = name_in (rows_of t) i

-- Laws of the names: they are those of the rows in order, and none is longer than 37 bytes. Assumes nothing.
use mathlib.Core.Path.{◌≡◌, refl}
use mathlib.Core.List.{List, [], ◌∷◌, map}
use Prim.Native.Nat.{ℕ, zero, suc, ◌≤◌, max}
use native.Mathlib.Omega.{arith}
use lib.ListN.{length, get_or}
use Rattle.octets.specs.Tables.{Row, name_for}
use Rattle.text.specs.Text.{text}
use Rattle.fields.specs.declared.Table.{Table}
use Rattle.fields.specs.declared.Table.TheVariants.{Chunk, Ensemble, Service, Segment}
use Rattle.fields.specs.Fields.{rows_of}
use Rattle.field_names.specs.Names.{name_in, name_of}

-- ---- the name of a row among those of all rows

pub name-among : (rows : List Row) (i : ℕ) → get_or (map (λ row. text (name_for row)) rows) i [] ≡ name_in rows i
name-among [] i = refl
name-among (r ∷ rows) zero = refl
name-among (r ∷ rows) (suc i) = name-among rows i

-- ---- the longest

abbrev longest_in : List Row → ℕ
longest_in [] = 0
longest_in (r ∷ rows) = max (length (text (name_for r))) (longest_in rows)

in_longest : (rows : List Row) (i : ℕ) → length (name_in rows i) ≤ longest_in rows
in_longest [] i = omega arith
in_longest (r ∷ rows) zero = omega arith
in_longest (r ∷ rows) (suc i) = omega (arith, in_longest rows i)

pub name-short : (t : Table) (i : ℕ) → length (name_of t i) ≤ 37
name-short Chunk i = in_longest (rows_of Chunk) i
name-short Ensemble i = omega (arith, in_longest (rows_of Ensemble) i)
name-short Service i = omega (arith, in_longest (rows_of Service) i)
name-short Segment i = omega (arith, in_longest (rows_of Segment) i)

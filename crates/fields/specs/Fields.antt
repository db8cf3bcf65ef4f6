-- The tables of A/153 Part 3:2013 that a chunk and a segment are laid out by, each by one word, and a field's place in them.
use Rattle.std.specs.Prelude.{ℕ, ◌*◌, List, get_or}
use Rattle.octets.specs.Tables.{Row, widths, before, first_not_whole, number_at}
use Rattle.meaning.specs.Layout.{chunk_table, ensemble_table, service_table}
use Rattle.segments.specs.Segment.{segment_table}
use Rattle.fields.specs.declared.Table.{Table}
use Rattle.fields.specs.declared.Table.TheVariants.{Chunk, Ensemble, Service, Segment}
use Rattle.fields.specs.declared.Width.{Width}
use Rattle.fields.specs.declared.Width.TheVariants.{Bits, Run}
use Rattle.fields.specs.declared.Place.{Place}
use Rattle.fields.specs.declared.Found.{Found}

-- Table 6.5; the two loops of Table 6.6; Table 6.9
abbrev pub rows_of : Table → List Row
rows_of Chunk = chunk_table
rows_of Ensemble = ensemble_table
rows_of Service = service_table
rows_of Segment = segment_table

-- their widths in bits, where the run of extension bytes has n bytes; Table 6.9 has none
abbrev pub widths_of : ℕ → Table → List ℕ
widths_of n t = widths n (rows_of t)

-- the bits of a row as the code has it, where a run has n bytes
abbrev pub bits_of : ℕ → Width → ℕ
bits_of n (Bits w) = w
bits_of n Run = 8 * n

-- ---- of rows with these widths

-- the first that n bits do not hold whole, and the bits before it
abbrev pub cut_in : List ℕ → ℕ → Place
cut_in ws n = let i = first_not_whole ws n in record { row = i; at = before i ws }

-- where row i begins, and the number in its bits of the bytes xs
abbrev pub found_in : List ℕ → ℕ → List ℕ → Found
found_in ws i xs = let at = before i ws in record { at = at; value = number_at xs at (get_or ws i 0) }

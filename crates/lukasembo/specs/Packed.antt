-- What is told to a program in C: an answer of document 01 as one number. A refusal has its number, its offset and nothing else.
use Rattle.std.specs.Prelude.{ℕ, ◌+◌, ◌*◌, Result}
use Rattle.meaning.specs.declared.Refusal.{Refusal}
use Rattle.meaning.specs.declared.Listed.{Listed}
use Rattle.meaning.specs.Numbers.{read_values}
use Rattle.writer.specs.declared.Unwritten.{Unwritten}
use Rattle.writer.specs.Writing.{written_values}

-- eight bits for the number, one for the kind, three for the minor edition, four that are 0, sixteen for the listing's length, and above them
-- the offset
abbrev pub packed_read : Result Listed Refusal → ℕ
packed_read a =
    let v = read_values a in v.number + v.kind * 0x100 + v.minor * 0x200 + v.length * 0x10000 + v.at * 0x100000000

-- eight bits for the number, eight that are 0, and above them how many segments
abbrev pub packed_written : Result ℕ Unwritten → ℕ
packed_written a = let v = written_values a in v.number + v.count * 0x10000

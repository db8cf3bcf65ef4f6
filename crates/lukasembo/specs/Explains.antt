-- What is told to a program in C of an explanation: the number, the field and the offset as one number, and the value beside it.
use Rattle.std.specs.Prelude.{ℕ, ◌+◌, ◌*◌, ◌/◌, ◌%◌, ◌≡◌, not, eqb, Option, None, Some}
use Rattle.slots.specs.declared.Slot.{Slot}
use Rattle.fields.specs.declared.Table.{Table}
use Rattle.fields.specs.declared.Table.TheVariants.{Chunk, Ensemble, Service, Segment}
use Rattle.explains.specs.declared.Field.{Field}
use Rattle.explains.specs.declared.Field.TheVariants.{Length, Row, Payload}
use Rattle.explains.specs.declared.Explained.{Explained}
use Rattle.explains.specs.declared.Explained.TheVariants.{Found, Spoiled}
use Rattle.explains.specs.Explaining.{explained_values}

-- a row of a table counts from its table's number
abbrev pub table_number : Table → ℕ
table_number Chunk = 0x10
table_number Ensemble = 0x20
table_number Service = 0x30
table_number Segment = 0x40

abbrev pub field_number : Field → ℕ
field_number Length = 1
field_number Payload = 2
field_number (Row t i) = table_number t + i

abbrev pub explained_field : Option Explained → ℕ
explained_field None = 0
explained_field (Some (Found n field at value)) = field_number field
explained_field (Some Spoiled) = 3

-- eight bits for the number, the field above them, and the offset from bit 32 on
abbrev pub packed_explained : Option Explained → ℕ
packed_explained e = (explained_values e).number + explained_field e * 0x100 + (explained_values e).at * 0x100000000

-- it can be taken apart: bits 0 to 7, 8 to 15, and those from 32 on
pub record Told (e : Option Explained) : Type 0 where
  pub number : packed_explained e % 0x100 ≡ (explained_values e).number
  pub field : packed_explained e / 0x100 % 0x100 ≡ explained_field e
  pub offset : packed_explained e / 0x100000000 ≡ (explained_values e).at

-- a slot's numbers: sixteen bits for the places held, eight for the last number; what is above them is 0 unless it is spoiled
abbrev pub slot_in : ℕ → Slot
slot_in n = record { held = n % 0x10000; last = n / 0x10000 % 0x100; spoiled = not (eqb (n / 0x1000000) 0) }

-- what a call tells
pub record ExplainSays (e : Option Explained) (answer value : ℕ) : Type 0 where
  pub answers : answer ≡ packed_explained e
  pub found : value ≡ (explained_values e).value

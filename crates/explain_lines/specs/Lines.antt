-- Document 02, 8/14, and the programs' page: the line of an explanation, and the lines of a chunk by itself.
use Rattle.std.specs.Prelude.{ℕ, List, [], ◌++◌, Result, Ok, Err, Option, None, Some}
use Rattle.text.specs.Text.{text, decimal, numbered}
use Rattle.meaning.specs.Reading.{checks}
use Rattle.lines.specs.Lines.{refusal_line}
use Rattle.field_names.specs.Names.{name_of}
use Rattle.explains.specs.declared.Field.{Field}
use Rattle.explains.specs.declared.Field.TheVariants.{Length, Row, Payload}
use Rattle.explains.specs.declared.Explained.{Explained}
use Rattle.explains.specs.declared.Explained.TheVariants.{Found, Spoiled}
use Rattle.explains.specs.Explaining.{chunk_explained}
use Rattle.meaning.specs.declared.Refusal.{Refusal}

abbrev pub field_name : Field → List ℕ
field_name Length = text "length"
field_name (Row t i) = name_of t i
field_name Payload = text "payload"

-- the field's name; its bit offset and the value found; nothing where there is nothing to explain
abbrev pub found_text : ℕ → ℕ → List ℕ
found_text at value = text " at bit " ++ (decimal at ++ (text " is " ++ numbered value))

unfoldable pub explained_line : Option Explained → List ℕ
explained_line None = []
explained_line (Some (Found n field at value)) = text "  " ++ (field_name field ++ found_text at value)
explained_line (Some Spoiled) = text "  slot spoiled\n"

-- two spaces, the longest name, the words between, two numbers of 20 digits, the line's end
abbrev pub longest_explained : ℕ
longest_explained = 92

-- what the reader's checks say of a chunk
abbrev pub checked_line : Result Unit Refusal → List ℕ
checked_line (Ok _) = text "CH 0\n"
checked_line (Err f) = text "CH " ++ refusal_line f

abbrev pub chunk_lines : List ℕ → List ℕ
chunk_lines xs = checked_line (checks xs) ++ explained_line (chunk_explained xs)

-- What is told to a program in C of the tunnel: an answer as one number, the reader's numbers as one, and what stands in a store.
use Rattle.std.specs.Prelude.{ℕ, ◌+◌, ◌*◌, ◌/◌, ◌%◌, ◌≡◌, cond, List, eqb, Option, Some, None, Ok, Err}
use Rattle.store.specs.Store.{Next, next_number}
use Rattle.tunnel.specs.declared.Numbers.{Numbers}
use Rattle.tunnel.specs.declared.Refusal.TheVariants.{ShortOutput, Foreign, BadOffset}
use Rattle.tunnel.specs.declared.Unwrapped.TheVariants.{Stored, Repeat}
use Rattle.tunnel.specs.Unwrap.{Answer, reader, unwrapped_values, unwrapped}

-- eight bits for the number, one for a repeat, seven that are 0; sixteen bits each for the outer packets left out, the bytes stored, and those thrown away
abbrev pub packed_unwrapped : Answer → ℕ
packed_unwrapped a =
    let v = unwrapped_values a in v.number + cond v.repeat 0x100 0 + v.gap * 0x10000 + v.stored * 0x100000000 + v.lost * 0x1000000000000

-- the reader's numbers: sixteen bits for the bytes held, sixteen for the last accepted sequence number, and above them 0 where there is none
abbrev pub numbers_in : ℕ → Numbers
numbers_in n = record { last = cond (eqb (n / 0x100000000) 0) None (Some (n / 0x10000 % 0x10000)); held = n % 0x10000 }

abbrev pub packed_last : Option ℕ → ℕ
packed_last (Some last) = last * 0x10000 + 0x100000000
packed_last None = 0

abbrev pub packed_numbers : Numbers → ℕ
packed_numbers m = m.held + packed_last m.last

-- where nothing changes, they stay as they were given
abbrev pub numbers_left : Answer → ℕ → Numbers → ℕ
numbers_left (Ok (Stored n gap lost)) before after = packed_numbers after
numbers_left (Ok Repeat) before after = before
numbers_left (Err ShortOutput) before after = before
numbers_left (Err Foreign) before after = before
numbers_left (Err (BadOffset gap lost)) before after = packed_numbers after

-- the next packet of a store: eight bits for the number, eight that are 0, and above them its length, 0 where there is none
abbrev pub packed_next : Next → ℕ
packed_next (Ok (Some n)) = n * 0x10000
packed_next (Ok None) = 0
packed_next (Err b) = next_number (Err b)

-- what the tunnel's reader tells: the answer, the numbers to be kept, and both memories after
pub record StepSays (numbers : ℕ) (part outer output : List ℕ) (answer left : ℕ) (part' output' : List ℕ) : Type 0 where
  pub answers : answer ≡ packed_unwrapped (unwrapped (reader (numbers_in numbers) part) outer output).answer
  pub keeps : left ≡ numbers_left (unwrapped (reader (numbers_in numbers) part) outer output).answer numbers (unwrapped (reader (numbers_in numbers) part) outer output).reader.numbers
  pub holds : part' ≡ (unwrapped (reader (numbers_in numbers) part) outer output).reader.bytes
  pub leaves : output' ≡ (unwrapped (reader (numbers_in numbers) part) outer output).output

-- What is told to a program in C of the tunnel's writer: an answer and a timestamp as one number, and the writer's numbers as one.
use Rattle.std.specs.Prelude.{ℕ, ◌+◌, ◌*◌, ◌/◌, ◌%◌, ◌≡◌, List}
use Rattle.wrapper.specs.declared.Numbers.{Numbers}
use Rattle.wrapper.specs.declared.Values.{Values}
use Rattle.wrapper.specs.Wrap.{writer, wrapped_values, Outcome, wrapped, closed}

-- eight bits for the number, eight that are 0, sixteen for the bytes written, and 32 for the timestamp of the first byte that is left
abbrev pub packed_wrapped : Values → ℕ → ℕ
packed_wrapped v timestamp = v.number + v.wrote * 0x10000 + timestamp * 0x100000000

-- the writer's numbers: sixteen bits each for the payload size, the next sequence number, the bytes left, and where in them a packet first begins
abbrev pub writer_in : ℕ → ℕ → Numbers
writer_in n timestamp =
    record { size = n % 0x10000; next = n / 0x10000 % 0x10000; left = n / 0x100000000 % 0x10000; begin = n / 0x1000000000000; timestamp = timestamp }

abbrev pub packed_writer : Numbers → ℕ
packed_writer m = m.size + m.next * 0x10000 + m.left * 0x100000000 + m.begin * 0x1000000000000

-- what a call of the writer tells: the answer, the numbers to be kept, and both memories after
pub record Tells (u : Outcome) (answer left : ℕ) (bytes output : List ℕ) : Type 0 where
  pub answers : answer ≡ packed_wrapped (wrapped_values u.answer) u.writer.numbers.timestamp
  pub keeps : left ≡ packed_writer u.writer.numbers
  pub holds : bytes ≡ u.writer.bytes
  pub leaves : output ≡ u.output

abbrev pub WrapStepSays : ℕ → ℕ → List ℕ → List ℕ → ℕ → List ℕ → ℕ → ℕ → List ℕ → List ℕ → Type 0
WrapStepSays numbers since bytes packet timestamp output = Tells (wrapped (writer (writer_in numbers since) bytes) output packet timestamp)

abbrev pub CloseStepSays : ℕ → ℕ → List ℕ → List ℕ → ℕ → ℕ → List ℕ → Type 0
CloseStepSays numbers since bytes output answer left output' = Tells (closed (writer (writer_in numbers since) bytes) output) answer left bytes output'

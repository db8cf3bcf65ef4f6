-- What is put to an output, from the place on that it has come to.
use Rattle.std.specs.Prelude.{ℕ, ◌≡◌, ◌+◌, ◌≤◌, List, length}
use Rattle.std.proofs.lemmas.List.Edits.{sets}
use Rattle.text.specs.declared.Output.{Output}

-- it has room for so many bytes
abbrev pub HasRoom : ℕ → Output → Type 0
HasRoom n o = o.at + n ≤ length o.bytes.now

-- the bytes vs put to the output o leave p: the same memory, these bytes in it from the place on, and the place behind them
pub record Adds (vs : List ℕ) (o p : Output) : Type 0 where
  pub memory : p.bytes.ghost_name ≡ o.bytes.ghost_name
  pub bytes : p.bytes.now ≡ sets o.bytes.now o.at vs
  pub at : p.at ≡ o.at + length vs

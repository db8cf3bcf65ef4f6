-- A writer that is called any number of times, with packets and closes in any order; all that it gives, and all that it took.
use Rattle.std.specs.Prelude.{ℕ, ◌-◌, ◌^◌, ◌<◌, cond, ◌||◌, leb, eqb, length}
use mathlib.Core.List.{List, [], ◌∷◌, ◌++◌, flat_map}
use Rattle.octets.specs.Bits.{Bytes}
use Rattle.rtp.specs.Header.{payload_in}
use Rattle.wrapper.specs.Wrap.{Writer, writer, fresh_numbers, waiting_in, wrapped_values, Outcome, wrapped, closed}

-- a call: a packet, its timestamp and a lent output; or the close, with a lent output
pub data Call : Type 0 where
  write : List ℕ → ℕ → List ℕ → Call
  close : List ℕ → Call

-- a packet is bytes, and a timestamp has 32 bits
abbrev pub Fair : Call → Type 0
Fair (write packet timestamp output) = Bytes packet × (timestamp < 2 ^ 32)
Fair (close output) = Unit {0}

-- what each leaves
abbrev pub called : Writer → Call → Outcome
called w (write packet timestamp output) = wrapped w output packet timestamp
called w (close output) = closed w output

unfoldable pub given : Writer → List Call → List Outcome
given w [] = []
given w (c ∷ cs) = let u = called w c in u ∷ given u.writer cs

-- the writer after some calls, from a fresh one with a memory of any content
abbrev pub fresh : ℕ → ℕ → List ℕ → Writer
fresh size first bytes = writer (fresh_numbers size first) bytes

abbrev pub after : Writer → List Call → Writer
after w [] = w
after w (c ∷ cs) = after (called w c).writer cs

-- what is left then
abbrev pub left_after : Writer → List Call → List ℕ
left_after w cs = (waiting_in (after w cs)).bytes

-- the outer packets that were given, in order
abbrev pub outers_in : List Outcome → List (List ℕ)
outers_in us = flat_map (λ u. u.outers) us

-- the packets that were taken, in order: those of the calls that were not refused
abbrev pub taken_by : Call → Outcome → List (List ℕ)
taken_by (write packet timestamp output) u = cond (eqb (wrapped_values u.answer).number 0) (packet ∷ []) []
taken_by (close output) u = []

unfoldable pub taken_in : Writer → List Call → List (List ℕ)
taken_in w [] = []
taken_in w (c ∷ cs) = let u = called w c in taken_by c u ++ taken_in u.writer cs

-- ---- packets end to end, and some of the payloads

-- the payloads of some outer packets, end to end
abbrev pub payloads_in : List (List ℕ) → List ℕ
payloads_in outers = flat_map payload_in outers

-- the packets that have no byte from one place of the line up to another: those that end at or before the one, and those that begin at or behind the other
abbrev pub apart : ℕ → ℕ → List (List ℕ) → List (List ℕ)
apart from to [] = []
apart from to (p ∷ more) =
    cond (leb (length p) from || eqb to 0) (p ∷ []) [] ++ apart (from - length p) (to - length p) more

-- A reader that is given outer packets one after the other, and the packets that come out.
use Rattle.std.specs.Prelude.{ℕ, ◌+◌, ◌≤◌, ◌≡◌, true, false, ◌⊎◌, length, take}
use mathlib.Core.List.{List, [], ◌∷◌, map, flat_map}
use Rattle.octets.specs.Each.{Each}
use Rattle.rtp.specs.Header.{sequence_in, payload_in}
use Rattle.packets.specs.Packets.{longest_packet, Carried}
use Rattle.packets.specs.Stored.{stored, line}
use Rattle.store.specs.Store.{kept_in}
use Rattle.tunnel.specs.Unwrap.{shortest_output, Reader, part_of, unwrapped_values, is_repeat, gap_before, Result, unwrapped}

-- a call: an outer packet, and a lent output
pub record Call : Type 0 where
  pub outer : List ℕ
  pub output : List ℕ

-- what each leaves
unfoldable pub fed : Reader → List Call → List Result
fed r [] = []
fed r (c ∷ cs) = let u = unwrapped r c.outer c.output in u ∷ fed u.reader cs

-- the packets that stand in an output after a call
abbrev pub came_out : Result → List (List ℕ)
came_out u = (kept_in (take (unwrapped_values u.answer).stored u.output)).packets

abbrev pub out_of : List Result → List (List ℕ)
out_of us = flat_map came_out us

-- the stored bytes are those of packets that may be carried, and these are what comes out
pub record Whole (u : Result) : Type 0 where
  pub carried : Each Carried (came_out u)
  pub are : take (unwrapped_values u.answer).stored u.output ≡ stored (came_out u)

-- an answer that is no refusal and no repeat
pub record Read (u : Result) : Type 0 where
  pub number : (unwrapped_values u.answer).number ≡ 0
  pub new : (unwrapped_values u.answer).repeat ≡ false

-- an answer that changes nothing: a repeat, or a refusal with 1 or 16
abbrev pub Idle : Result → Type 0
Idle u = let v = unwrapped_values u.answer in (v.repeat ≡ true) ⊎ ((v.number ≡ 1) ⊎ (v.number ≡ 16))

-- nothing is lost in silence: what was held and what came is stored, held or thrown away
abbrev pub Balanced : Reader → List ℕ → Result → Type 0
Balanced r outer u =
    length (part_of r) + length (payload_in outer) ≡ length (line (came_out u)) + length (part_of u.reader) + (unwrapped_values u.answer).lost

-- the output is long enough
abbrev pub Long : Call → Type 0
Long c = shortest_output ≤ length c.output

-- the reader takes up a tunnel at an outer packet with this number: it is no repeat; and the reader is fresh or holds no part, or there is a gap before it
pub record Takes (r : Reader) (n : ℕ) : Type 0 where
  pub memory : length r.bytes ≡ longest_packet
  pub new : is_repeat r.numbers n ≡ false
  pub apart : (part_of r ≡ []) ⊎ (gap_before r.numbers n ≡ 0 → ⊥)

-- the first of some calls
abbrev pub TakesUp : Reader → List Call → Type 0
TakesUp r [] = Unit {0}
TakesUp r (c ∷ cs) = Takes r (sequence_in c.outer)

-- calls with these outer packets, each with an output that is long enough, to a reader that takes up the tunnel at the first
pub record Feeds (outers : List (List ℕ)) (r : Reader) (calls : List Call) : Type 0 where
  pub are : map (λ c. c.outer) calls ≡ outers
  pub long : Each Long calls
  pub takes : TakesUp r calls

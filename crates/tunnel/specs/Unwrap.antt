-- The tunnel's reader: its state, one outer packet, and what that leaves.
use Rattle.std.specs.Prelude.{ℕ, zero, suc, ◌+◌, ◌-◌, ◌%◌, ◌≡◌, Bool, true, false, not, cond, ◌&&◌, List, [], ◌∷◌, ◌++◌, ltb, leb, eqb, length, take, drop, Option, Some, None, Result as ResultOf, Ok, Err}
use Rattle.std.specs.Option.{option_eq}
use Rattle.std.proofs.lemmas.List.Edits.{sets}
use Rattle.octets.specs.Checks.{check}
use Rattle.rtp.specs.Header.{sequences, marker_in, sequence_in, payload_in}
use Rattle.packets.specs.declared.Start.{Start}
use Rattle.packets.specs.declared.Start.TheVariants.{Running, Whole, Fault}
use Rattle.packets.specs.Packets.{start_of, is_running}
use Rattle.packets.specs.Stored.{stored}
use Rattle.tunnel.specs.declared.Numbers.{Numbers}
use Rattle.tunnel.specs.declared.Unwrapped.{Unwrapped}
use Rattle.tunnel.specs.declared.Unwrapped.TheVariants.{Stored, Repeat}
use Rattle.tunnel.specs.declared.Refusal.{Refusal}
use Rattle.tunnel.specs.declared.Refusal.TheVariants.{ShortOutput, Foreign, BadOffset}
use Rattle.tunnel.specs.declared.Values.{Values}
use Rattle.tunnel.specs.Outer.{offset_in, is_outer}

-- the shortest output that is taken
abbrev pub shortest_output : ℕ
shortest_output = 4096

-- the most that one call stores
abbrev pub most_stored : ℕ
most_stored = 3203

-- ---- the state: the sequence number of the last accepted packet, none at first, how many bytes of a part packet are held; and the memory with these bytes

pub record Reader : Type 0 where
  pub numbers : Numbers
  pub bytes : List ℕ

abbrev pub reader : Numbers → List ℕ → Reader
reader numbers bytes = record { numbers = numbers; bytes = bytes }

-- a fresh reader's
abbrev pub fresh_numbers : Numbers
fresh_numbers = record { last = None; held = 0 }

-- the part that it holds: the bytes held, where they are the start of a packet that is running; else none
abbrev pub part_of : Reader → List ℕ
part_of r = let p = take r.numbers.held r.bytes in cond (is_running (start_of p)) p []

-- ---- what the reader finds in some bytes: whole packets, the start of one that is running, and how many bytes it throws away

pub record Found : Type 0 where
  pub packets : List (List ℕ)
  pub part : List ℕ
  pub lost : ℕ

abbrev pub one_in : List ℕ → Found
one_in xs = record { packets = xs ∷ []; part = []; lost = 0 }

abbrev pub part_in : List ℕ → Found
part_in xs = record { packets = []; part = xs; lost = 0 }

abbrev pub thrown : List ℕ → Found
thrown xs = record { packets = []; part = []; lost = length xs }

-- in some bytes, and in those behind them
abbrev pub both : Found → Found → Found
both f g = record { packets = f.packets ++ g.packets; part = f.part ++ g.part; lost = f.lost + g.lost }

-- from a marked start on: packet after packet, by what stands at the start
abbrev pub found_from : Start → (List ℕ → Found) → List ℕ → Found
found_from (Whole n) more xs = both (one_in (take n xs)) (more (drop n xs))
found_from Running more xs = part_in xs
found_from Fault more xs = thrown xs

-- at the most n packets; n may be any number above the length of xs
unfoldable pub found_up_to : ℕ → List ℕ → Found
found_up_to zero xs = thrown xs
found_up_to (suc n) xs = found_from (start_of xs) (found_up_to n) xs

unfoldable pub found_in : List ℕ → Found
found_in xs = found_up_to (suc (length xs)) xs

-- a running packet with the bytes behind it, up to the marked start or else the end of the payload: it ends there; or, where no start is marked, it may
-- go on
abbrev pub runs_on : Start → Bool → List ℕ → Found
runs_on (Whole n) marked xs = cond (eqb n (length xs)) (one_in xs) (thrown xs)
runs_on Running marked xs = cond marked (thrown xs) (part_in xs)
runs_on Fault marked xs = thrown xs

-- the bytes of a payload before the marked start, behind a part; without a part they are thrown away
unfoldable pub found_before : Bool → List ℕ → List ℕ → Found
found_before marked part xs = cond (eqb (length part) 0) (thrown xs) (runs_on (start_of (part ++ xs)) marked (part ++ xs))

-- a payload behind a part, up to a place and from there on: the marked start, else the end
unfoldable pub found_at : Bool → ℕ → List ℕ → List ℕ → Found
found_at marked start part payload = both (found_before marked part (take start payload)) (found_in (drop start payload))

abbrev pub found_behind : Bool → ℕ → List ℕ → List ℕ → Found
found_behind marked offset part payload = found_at marked (cond marked offset (length payload)) part payload

-- ---- an answer in numbers: its number, 0 where it is no refusal; whether it is a repeat; the bytes stored; how many outer packets a gap left out; how many
-- bytes are thrown away

abbrev pub values : ℕ → Bool → ℕ → ℕ → ℕ → Values
values number repeat stored gap lost = record { number = number; repeat = repeat; stored = stored; gap = gap; lost = lost }

-- the reader's answer, or a refusal
abbrev pub Answer : Type 0
Answer = ResultOf Unwrapped Refusal

abbrev pub refusal_number : Refusal → ℕ
refusal_number ShortOutput = 1
refusal_number Foreign = 16
refusal_number (BadOffset gap lost) = 17

-- what a refusal with this number says
abbrev refused_values : ℕ → Refusal → Values
refused_values number ShortOutput = values number false 0 0 0
refused_values number Foreign = values number false 0 0 0
refused_values number (BadOffset gap lost) = values number false 0 gap lost

abbrev pub unwrapped_values : Answer → Values
unwrapped_values (Ok (Stored n gap lost)) = values 0 false n gap lost
unwrapped_values (Ok Repeat) = values 0 true 0 0 0
unwrapped_values (Err refusal) = refused_values (refusal_number refusal) refusal

-- ---- the sequence number

abbrev pub next_number : ℕ → ℕ
next_number n = (n + 1) % sequences

-- the last accepted one comes again
abbrev pub is_repeat : Numbers → ℕ → Bool
is_repeat m sequence = option_eq eqb m.last (Some sequence)

-- how many outer packets are left out before this one; a fresh reader takes any
abbrev pub gap_behind : Option ℕ → ℕ → ℕ
gap_behind (Some last) sequence = (sequence + sequences - next_number last) % sequences
gap_behind None sequence = 0

unfoldable pub gap_before : Numbers → ℕ → ℕ
gap_before m sequence = gap_behind m.last sequence

-- ---- the public call, on a state, an outer packet and a lent output: the answer, and both afterwards

pub record Result : Type 0 where
  pub answer : Answer
  pub reader : Reader
  pub output : List ℕ

module _ (r : Reader) (outer output : List ℕ) where
  abbrev pub marked : Bool
  marked = eqb (marker_in outer) 1

  abbrev pub gap : ℕ
  gap = gap_before r.numbers (sequence_in outer)

  -- a gap drops the part
  abbrev pub kept : List ℕ
  kept = cond (eqb gap 0) (part_of r) []

  abbrev pub found : Found
  found = found_behind marked (offset_in outer) kept (payload_in outer)

  -- the sequence number is accepted, and this part held at the start of its memory
  abbrev pub holding : List ℕ → Reader
  holding part = record { numbers = record { last = Some (sequence_in outer); held = length part }; bytes = sets r.bytes 0 part }

  abbrev pub unchanged : Answer → Result
  unchanged answer = record { answer = answer; reader = r; output = output }

  abbrev pub dropped : Result
  dropped = record { answer = Err (BadOffset gap (length (part_of r) + length (payload_in outer))); reader = holding []; output = output }

  abbrev pub read : Result
  read =
      let packets = stored found.packets in
      record {
        answer = Ok (Stored (length packets) gap (length (part_of r) - length kept + found.lost));
        reader = holding found.part;
        output = sets output 0 packets;
      }

  -- the sequence number is accepted
  unfoldable pub accepted : Result
  accepted =
      check (marked && leb (length (payload_in outer)) (offset_in outer)) dropped  -- 17
      read

  unfoldable pub unwrapped : Result
  unwrapped =
      check (ltb (length output) shortest_output) (unchanged (Err ShortOutput))  -- 1
      (check (not (is_outer outer)) (unchanged (Err Foreign))  -- 16
      (check (is_repeat r.numbers (sequence_in outer)) (unchanged (Ok Repeat))
      accepted))

-- what the reader promises: its answer and the numbers, and the memory of the part and the output after, are those of a result
pub record Leaves (u : Result) (answer : Answer) (numbers : Numbers) (part output : List ℕ) : Type 0 where
  pub answers : answer ≡ u.answer
  pub holds : reader numbers part ≡ u.reader
  pub leaves : output ≡ u.output

abbrev pub UnwrapSays : Numbers → List ℕ → List ℕ → List ℕ → Answer → Numbers → List ℕ → List ℕ → Type 0
UnwrapSays numbers part outer output = Leaves (unwrapped (reader numbers part) outer output)

abbrev pub AcceptSays : Numbers → List ℕ → List ℕ → List ℕ → Answer → Numbers → List ℕ → List ℕ → Type 0
AcceptSays numbers part outer output = Leaves (accepted (reader numbers part) outer output)

-- what some bytes leave that are read behind a part: the packets stored at a place of the output, the place after them, the part held at the start of its
-- memory, how many bytes that are, and how many are thrown away
abbrev pub Gains : Found → List ℕ → List ℕ → ℕ → List ℕ → List ℕ → ℕ → ℕ → ℕ → Type 0
Gains f part out to part' out' end held lost =
    (end ≡ to + length (stored f.packets))
    × (out' ≡ sets out to (stored f.packets))
    × (held ≡ length f.part)
    × (part' ≡ sets part 0 f.part)
    × (lost ≡ f.lost)

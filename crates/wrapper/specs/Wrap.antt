-- The tunnel's writer: its state, one packet or the close, and what that leaves.
use Rattle.std.specs.Prelude.{ℕ, zero, suc, ◌+◌, ◌*◌, ◌/◌, ◌%◌, ◌≡◌, ◌≤◌, ◌<◌, Bool, not, cond, ◌&&◌, List, [], ◌∷◌, ◌++◌, ltb, leb, eqb, length, take, drop, Result, Ok, Err}
use Rattle.std.proofs.lemmas.List.Edits.{sets}
use Rattle.octets.specs.Bits.{bytes_of}
use Rattle.octets.specs.Checks.{check}
use Rattle.rtp.specs.Header.{header_bytes, sequences}
use Rattle.packets.specs.Packets.{longest_packet, is_carried}
use Rattle.packets.specs.Stored.{line}
use Rattle.tunnel.specs.Outer.{stltp, Outer, outer_fields, outer_packet}
use Rattle.tunnel.specs.Unwrap.{next_number}
use Rattle.wrapper.specs.declared.Numbers.{Numbers}
use Rattle.wrapper.specs.declared.Refusal.{Refusal}
use Rattle.wrapper.specs.declared.Refusal.TheVariants.{ShortOutput, BadSize, NotCarried}
use Rattle.wrapper.specs.declared.Values.{Values}

-- ---- the limits of a payload's size

abbrev pub least_size : ℕ
least_size = 64

abbrev pub most_size : ℕ
most_size = 1400

unfoldable pub is_size : ℕ → Bool
is_size n = leb least_size n && leb n most_size

-- ---- the state: the payload size, the next sequence number, how many bytes are left, where in them a packet first begins, and the timestamp of the first; and the
-- memory with these bytes

pub record Writer : Type 0 where
  pub numbers : Numbers
  pub bytes : List ℕ

abbrev pub writer : Numbers → List ℕ → Writer
writer numbers bytes = record { numbers = numbers; bytes = bytes }

-- a fresh writer's
abbrev pub fresh_numbers : ℕ → ℕ → Numbers
fresh_numbers size first = record { size = size; next = first; left = 0; begin = 0; timestamp = 0 }

-- nothing is left, behind so many outer packets more
abbrev pub emptied : Numbers → ℕ → Numbers
emptied m k = record { size = m.size; next = (m.next + k) % sequences; left = 0; begin = 0; timestamp = m.timestamp }

-- ---- bytes that wait for a payload: where in them a packet first begins, their end if none does; and the timestamp of the first of them

pub record Waiting : Type 0 where
  pub bytes : List ℕ
  pub begin : ℕ
  pub timestamp : ℕ

-- what waits in any state: no payload that is full waits, so that where as much is said to be left, nothing is; a start past what is left is none
unfoldable pub left_by : Numbers → ℕ
left_by m = cond (ltb m.left m.size) m.left 0

unfoldable pub begin_by : Numbers → ℕ
begin_by m = cond (ltb m.begin (left_by m)) m.begin (left_by m)

abbrev pub waiting_in : Writer → Waiting
waiting_in w = record { bytes = take (left_by w.numbers) w.bytes; begin = begin_by w.numbers; timestamp = w.numbers.timestamp }

-- a packet behind them, of a call with this timestamp
abbrev pub joined : Waiting → List ℕ → ℕ → Waiting
joined v packet timestamp =
    record { bytes = v.bytes ++ packet; begin = v.begin; timestamp = cond (eqb (length v.bytes) 0) timestamp v.timestamp }

-- the first n of them
abbrev pub first_of : ℕ → Waiting → Waiting
first_of n v = record { bytes = take n v.bytes; begin = v.begin; timestamp = v.timestamp }

-- bytes from the middle of a packet to its end, of a call with this timestamp: none begins in them
abbrev pub running : ℕ → List ℕ → Waiting
running timestamp xs = record { bytes = xs; begin = length xs; timestamp = timestamp }

-- ---- outer packets

-- the header, by the sequence number, the timestamp, where a packet first begins in the payload, and how long that is
abbrev pub header : ℕ → ℕ → ℕ → ℕ → Outer
header sequence timestamp begin size =
    let marked = ltb begin size in
    record {
      head = record { version = 2; padding = 0; extension = 0; csrc_count = 0; marker = cond marked 1 0; payload_type = stltp; sequence = sequence; timestamp = timestamp };
      protocol = 1;
      redundancy = 0;
      channels = 0;
      reserved = 0;
      offset = cond marked begin 0;
    }

unfoldable pub head_bytes : ℕ → ℕ → ℕ → ℕ → List ℕ
head_bytes sequence timestamp begin size = bytes_of (outer_fields (header sequence timestamp begin size))

-- the one whose payload is all that waits
unfoldable pub outer_of : ℕ → Waiting → List ℕ
outer_of sequence v = outer_packet (header sequence v.timestamp v.begin (length v.bytes)) v.bytes

-- those of the first k payloads; a packet that is given begins in the first, and what is behind that came with it
unfoldable pub outers_of : ℕ → ℕ → ℕ → ℕ → Waiting → List (List ℕ)
outers_of zero size sequence timestamp v = []
outers_of (suc k) size sequence timestamp v =
    outer_of sequence (first_of size v) ∷ outers_of k size (next_number sequence) timestamp (running timestamp (drop size v.bytes))

-- and what waits behind them
unfoldable pub rest_of : ℕ → ℕ → ℕ → Waiting → Waiting
rest_of zero size timestamp v = v
rest_of (suc k) size timestamp v = rest_of k size timestamp (running timestamp (drop size v.bytes))

-- the most that one call writes: two outer packets of the longest payload
abbrev pub most_wrapped : ℕ
most_wrapped = 2824

-- ---- an answer: how many bytes were written, or why nothing was; and in numbers, its number, 0 where it is no refusal, and the bytes written

abbrev pub refusal_number : Refusal → ℕ
refusal_number ShortOutput = 1
refusal_number BadSize = 18
refusal_number NotCarried = 19

abbrev pub wrapped_values : Result ℕ Refusal → Values
wrapped_values (Ok n) = record { number = 0; wrote = n }
wrapped_values (Err refusal) = record { number = refusal_number refusal; wrote = 0 }

-- ---- what the calls look at first

-- how many payloads a packet fills, where the output has room for these, or why it is refused
unfoldable pub filled_in : Numbers → List ℕ → ℕ → Result ℕ Refusal
filled_in m packet room =
    let full = (left_by m + length packet) / m.size in
    check (not (is_size m.size)) (Err BadSize)  -- 18
    (check (not (is_carried packet)) (Err NotCarried)  -- 19
    (check (ltb room (full * (header_bytes + m.size))) (Err ShortOutput)  -- 1
    (Ok full)))

-- how many bytes the close takes out
unfoldable pub last_in : Numbers → ℕ → Result ℕ Refusal
last_in m room =
    let left = left_by m in
    check (not (is_size m.size)) (Err BadSize)  -- 18
    (check (not (eqb left 0) && ltb room (header_bytes + left)) (Err ShortOutput)  -- 1
    (Ok left))

-- payloads have a size, and what waits is less than one
pub record Sized (m : Numbers) : Type 0 where
  pub least : least_size ≤ m.size
  pub most : m.size ≤ most_size
  pub less : left_by m < m.size

-- so many payloads are full with a packet, one or more, and there is room for them
pub record Fills (m : Numbers) (packet : List ℕ) (space full : ℕ) : Type 0 where
  pub sized : Sized m
  pub short : length packet ≤ longest_packet
  pub is : full ≡ (left_by m + length packet) / m.size
  pub few : full ≤ left_by m + length packet
  pub some : 1 ≤ full
  pub once : m.size ≤ full * m.size
  pub inside : full * m.size ≤ left_by m + length packet
  pub most : left_by m + length packet < full * m.size + m.size
  pub room : full * (header_bytes + m.size) ≤ space

-- ---- the public calls, on a state and a lent output: the answer, both afterwards, and the outer packets that stand end to end at the start of the output

pub record Outcome : Type 0 where
  pub answer : Result ℕ Refusal
  pub writer : Writer
  pub output : List ℕ
  pub outers : List (List ℕ)

module _ (w : Writer) where
  abbrev size : ℕ
  size = w.numbers.size

  abbrev next : ℕ
  next = w.numbers.next

  -- this waits, behind so many outer packets more
  abbrev pub holding : ℕ → Waiting → Writer
  holding k v =
      record {
        numbers = record { size = size; next = (next + k) % sequences; left = length v.bytes; begin = v.begin; timestamp = v.timestamp };
        bytes = sets w.bytes 0 v.bytes;
      }

  -- how many payloads are full
  abbrev pub full_in : Waiting → ℕ
  full_in v = length v.bytes / size

  -- what is left, as an outer packet, if anything is
  abbrev pub last_of : Waiting → List (List ℕ)
  last_of v = cond (eqb (length v.bytes) 0) [] (outer_of next v ∷ [])

  module _ (output : List ℕ) where
    abbrev pub unchanged : Refusal → Outcome
    unchanged refusal = record { answer = Err refusal; writer = w; output = output; outers = [] }

    abbrev pub given : List (List ℕ) → Waiting → Outcome
    given outers v = record { answer = Ok (length (line outers)); writer = holding (length outers) v; output = sets output 0 (line outers); outers = outers }

    -- these outer packets go out, if the output has room for them, and this waits
    unfoldable pub giving : List (List ℕ) → Waiting → Outcome
    giving outers v =
        check (ltb (length output) (length (line outers))) (unchanged ShortOutput)  -- 1
        (given outers v)

    -- payloads that are full go out
    abbrev pub filling : ℕ → Waiting → Outcome
    filling timestamp v = giving (outers_of (full_in v) size next timestamp v) (rest_of (full_in v) size timestamp v)

    -- a packet with its timestamp
    unfoldable pub wrapped : List ℕ → ℕ → Outcome
    wrapped packet timestamp =
        check (not (is_size size)) (unchanged BadSize)  -- 18
        (check (not (is_carried packet)) (unchanged NotCarried)  -- 19
        (filling timestamp (joined (waiting_in w) packet timestamp)))

    -- the close
    unfoldable pub closed : Outcome
    closed =
        check (not (is_size size)) (unchanged BadSize)  -- 18
        (giving (last_of (waiting_in w)) (running w.numbers.timestamp []))

-- what the calls promise: their answer and the numbers, and the memory of what is left and the output after, are those of an outcome
pub record Leaves (u : Outcome) (answer : Result ℕ Refusal) (numbers : Numbers) (bytes output : List ℕ) : Type 0 where
  pub answers : answer ≡ u.answer
  pub holds : writer numbers bytes ≡ u.writer
  pub leaves : output ≡ u.output

abbrev pub WrapSays : Numbers → List ℕ → List ℕ → ℕ → List ℕ → Result ℕ Refusal → Numbers → List ℕ → List ℕ → Type 0
WrapSays numbers bytes packet timestamp output = Leaves (wrapped (writer numbers bytes) output packet timestamp)

-- the same of so many outer packets that a packet fills
abbrev pub SendSays : Numbers → List ℕ → List ℕ → ℕ → ℕ → List ℕ → Result ℕ Refusal → Numbers → List ℕ → List ℕ → Type 0
SendSays numbers bytes packet timestamp full output =
    let v = joined (waiting_in (writer numbers bytes)) packet timestamp in
    let size = numbers.size in
    Leaves (given (writer numbers bytes) output (outers_of full size numbers.next timestamp v) (rest_of full size timestamp v))

abbrev pub CloseSays : Numbers → List ℕ → List ℕ → Result ℕ Refusal → Numbers → List ℕ → Type 0
CloseSays numbers bytes output answer numbers' output' = Leaves (closed (writer numbers bytes) output) answer numbers' bytes output'

-- What is sent through the tunnel: inner packets laid end to end and cut into payloads in any way, marker and packet_offset set where packets begin, the outer
-- packets numbered in sequence.
use Rattle.std.specs.Prelude.{ℕ, ◌+◌, ◌-◌, ◌%◌, ◌^◌, ◌≤◌, ◌<◌, Bool, cond, ◌&&◌, List, [], ◌∷◌, ◌++◌, ltb, leb, eqb, length, take, drop}
use Rattle.octets.specs.Bits.{Bytes}
use Rattle.rtp.specs.Header.{header_bytes, sequences}
use Rattle.packets.specs.Packets.{Carried}
use Rattle.packets.specs.Stored.{line}
use Rattle.tunnel.specs.Outer.{stltp, longest_outer, Outer, outer_packet}

-- a packet that is sent: bytes that may be carried
pub record Sendable (packet : List ℕ) : Type 0 where
  pub carried : Carried packet
  pub bytes : Bytes packet

-- what the sender is free to choose for an outer packet: how many bytes its payload has, the fields that the reader does not look at, and packet_offset
-- where no packet begins
pub record Choice : Type 0 where
  pub size : ℕ
  pub timestamp : ℕ
  pub protocol : ℕ
  pub redundancy : ℕ
  pub channels : ℕ
  pub reserved : ℕ
  pub idle : ℕ

-- the payload fits an outer packet, and each number its field
pub record Fits (c : Choice) : Type 0 where
  pub size : header_bytes + c.size ≤ longest_outer
  pub timestamp : c.timestamp < 2 ^ 32
  pub protocol : c.protocol < 4
  pub redundancy : c.redundancy < 4
  pub channels : c.channels < 4
  pub reserved : c.reserved < 1024
  pub idle : c.idle < 65536

-- how many bytes of the line some payloads take
abbrev pub taken : List Choice → ℕ
taken [] = 0
taken (c ∷ cs) = c.size + taken cs

-- ---- where packets begin

-- the first place of the line, at or behind this one, where a packet begins; else the end of the line
abbrev pub next_begin : ℕ → List (List ℕ) → ℕ
next_begin at [] = 0
next_begin at (p ∷ more) = cond (eqb at 0) 0 (length p + next_begin (at - length p) more)

-- whether one begins in n bytes from a place on
abbrev pub begins : ℕ → ℕ → List (List ℕ) → Bool
begins at n packets = ltb (next_begin at packets) (at + n)

-- the packets that begin at or behind one place of the line and end at or before another
abbrev pub between : ℕ → ℕ → List (List ℕ) → List (List ℕ)
between from to [] = []
between from to (p ∷ more) =
    cond (eqb from 0 && leb (length p) to) (p ∷ []) [] ++ between (from - length p) (to - length p) more

-- ---- the outer packets

-- the header of the n-th, whose payload is taken at a place of the line
abbrev pub outer_at : List (List ℕ) → ℕ → ℕ → Choice → Outer
outer_at packets n at c =
    let first = begins at c.size packets in
    record {
      head = record { version = 2; padding = 0; extension = 0; csrc_count = 0; marker = cond first 1 0; payload_type = stltp; sequence = n % sequences; timestamp = c.timestamp };
      protocol = c.protocol;
      redundancy = c.redundancy;
      channels = c.channels;
      reserved = c.reserved;
      offset = cond first (next_begin at packets - at) c.idle;
    }

-- all of them, from a place of the line on, numbered from n on
unfoldable pub sent : List (List ℕ) → ℕ → ℕ → List Choice → List (List ℕ)
sent packets n at [] = []
sent packets n at (c ∷ cs) = outer_packet (outer_at packets n at c) (take c.size (drop at (line packets))) ∷ sent packets (n + 1) (at + c.size) cs

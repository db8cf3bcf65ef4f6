-- The rules of the request on small outer packets, by computation: what the answer says. Assumes nothing.
use mathlib.Core.Path.{◌≡◌, refl}
use mathlib.Core.Bool.{true, false}
use mathlib.Core.List.{List, [], ◌∷◌, ◌++◌, map, flat_map}
use Prim.Native.Nat.{ℕ, ◌+◌, ◌*◌}
use lib.ListN.{replicate}
use Rattle.octets.specs.Word.{word_bytes}
use Rattle.rtp.specs.Header.{is_plain}
use Rattle.packets.specs.Packets.{start_of}
use Rattle.packets.specs.Stored.{stored}
use Rattle.std.specs.Prelude.{Option, Some, None}
use Rattle.tunnel.specs.declared.Values.{Values}
use Rattle.tunnel.specs.Unwrap.{reader, found_up_to, found_in, found_before, found_at, values, unwrapped_values, gap_before, accepted, unwrapped}

-- a packet of n bytes whose first half byte and total length are these
packet : ℕ → ℕ → ℕ → List ℕ
packet half total n = (half * 16 + 5) ∷ 0 ∷ (word_bytes total ++ replicate n 0)

-- a whole one of 28 bytes
small : List ℕ
small = packet 4 28 24

-- an outer packet with this second byte (marker and payload type), sequence number and packet_offset
outer : ℕ → ℕ → ℕ → List ℕ → List ℕ
outer second sequence offset payload = 128 ∷ second ∷ (word_bytes sequence ++ (replicate 6 255 ++ (word_bytes offset ++ payload)))

-- a reader that accepted none or the number 65,535 and holds so many bytes of a small packet; what it answers
pub record Sample : Type 0 where
  pub last : Option ℕ
  pub held : ℕ
  pub packet : List ℕ
  pub says : Values

sample : Option ℕ → ℕ → List ℕ → Values → Sample
sample last held packet says = record { last = last; held = held; packet = packet; says = says }

pub given : Sample → Sample
given s =
    sample s.last s.held s.packet
    (unwrapped_values (unwrapped (reader (record { last = s.last; held = s.held }) small) s.packet (replicate 4096 0)).answer)

pub samples : List Sample
samples =
    sample None 0 (outer 225 7 0 small) (values 0 false 32 0 0)  -- a marked packet
    ∷ sample None 0 (outer 97 7 0 small) (values 0 false 0 0 28)  -- not marked: nothing runs
    ∷ sample None 0 (outer 225 7 0 (packet 6 28 24)) (values 0 false 0 0 28)  -- another first half byte
    ∷ sample None 0 (outer 225 7 0 (packet 4 27 24)) (values 0 false 0 0 28)  -- a length outside the limits
    ∷ sample None 0 (outer 224 7 0 small) (values 16 false 0 0 0)  -- another payload type
    ∷ sample None 0 (outer 225 7 28 small) (values 17 false 0 0 28)  -- the marked start at the end
    ∷ sample (Some 65535) 10 (outer 225 65535 0 small) (values 0 true 0 0 0)  -- a repeat
    ∷ sample (Some 65535) 10 (outer 97 0 9 (replicate 18 0)) (values 0 false 32 0 0)  -- over the wrap: the part ends with the payload
    ∷ sample (Some 65535) 10 (outer 97 0 9 (replicate 19 0)) (values 0 false 0 0 29)  -- a byte too many without a marker
    ∷ sample (Some 65535) 10 (outer 225 0 18 (replicate 18 0 ++ small)) (values 0 false 64 0 0)  -- it ends where the marker says
    ∷ sample (Some 65535) 10 (outer 225 0 17 (replicate 17 0 ++ small)) (values 0 false 32 0 27)  -- the marker contradicts it
    ∷ sample (Some 65535) 10 (outer 225 2 18 (replicate 18 0 ++ small)) (values 0 false 32 2 28)  -- behind a gap
    ∷ sample (Some 65535) 10 (outer 225 2 46 (replicate 18 0 ++ small)) (values 17 false 0 2 56)
    ∷ sample (Some 65535) 28 (outer 97 0 0 []) (values 0 false 0 0 0)  -- a state that no calls make
    ∷ []

pub samples_hold : map given samples ≡ samples
unfolding samples given sample outer small packet unwrapped accepted gap_before found_at found_before found_in found_up_to start_of is_plain stored flat_map
samples_hold = refl

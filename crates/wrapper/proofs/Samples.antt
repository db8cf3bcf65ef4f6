-- The rules of the request on small payloads, by computation: the number that is answered, and what is written. Assumes nothing.
use mathlib.Core.Path.{◌≡◌, refl}
use mathlib.Core.List.{List, [], ◌∷◌, ◌++◌, flat_map}
use Prim.Native.Nat.{ℕ}
use lib.ListN.{take, replicate}
use Rattle.octets.specs.Bits.{bits, laid, number, octets, bytes_of}
use Rattle.octets.specs.Word.{word_bytes}
use Rattle.rtp.specs.Header.{head_fields}
use Rattle.packets.specs.Packets.{is_carried}
use Rattle.packets.specs.Stored.{line}
use Rattle.tunnel.specs.Outer.{outer_fields, outer_packet}
use Rattle.wrapper.specs.Wrap.{is_size, Writer, left_by, begin_by, outer_of, outers_of, rest_of, wrapped_values, Outcome, giving, wrapped, closed}

-- a packet of 28 bytes or more
packet : ℕ → List ℕ
packet n = 0x45 ∷ 0 ∷ (word_bytes n ++ replicate n 7)

sized : ℕ → List ℕ
sized n = take n (packet n)

-- a writer before its last number, with so many bytes left, in which a packet begins there
writer : ℕ → ℕ → ℕ → Writer
writer size left begin =
    record { numbers = record { size = size; next = 65535; left = left; begin = begin; timestamp = 0x01020304 }; bytes = replicate 100 9 }

-- an outer packet: its second byte, sequence number, timestamp and packet_offset
outer : ℕ → ℕ → List ℕ → ℕ → List ℕ → List ℕ
outer second sequence stamp offset payload = 128 ∷ second ∷ (word_bytes sequence ++ (stamp ++ (0x40 ∷ 0 ∷ (word_bytes offset ++ payload))))

early : List ℕ
early = 1 ∷ 2 ∷ 3 ∷ 4 ∷ []

late : List ℕ
late = 10 ∷ 11 ∷ 12 ∷ 13 ∷ []

pub record Sample : Type 0 where
  pub number : ℕ
  pub writes : List ℕ

sample : ℕ → List ℕ → Sample
sample number writes = record { number = number; writes = writes }

said : Outcome → Sample
said u = let v = wrapped_values u.answer in sample v.number (take v.wrote u.output)

wraps : Writer → ℕ → List ℕ → Sample
wraps w room p = said (wrapped w (replicate room 0) p 0x0A0B0C0D)

closes : Writer → ℕ → Sample
closes w room = said (closed w (replicate room 0))

pub given : List Sample
given =
    wraps (writer 64 0 0) 0 (sized 63)  -- a byte less than a payload waits
    ∷ wraps (writer 64 40 5) 76 (sized 28)  -- the first packet that begins, the timestamp of the first byte
    ∷ wraps (writer 64 40 40) 76 (sized 28)  -- none begins in what is left
    ∷ wraps (writer 64 40 41) 76 (sized 28)
    ∷ wraps (writer 64 0 0) 76 (sized 64)  -- one begins exactly at the start
    ∷ wraps (writer 64 0 0) 152 (sized 130)  -- over the wrap; none begins in the second
    ∷ wraps (writer 64 64 0) 0 (sized 28)  -- no full payload is left: a state that no calls make
    ∷ wraps (writer 63 0 0) 0 (packet 28)  -- 18 before 19
    ∷ wraps (writer 64 40 5) 0 (packet 28)  -- 19 before 1: four bytes more than it says
    ∷ wraps (writer 64 40 5) 75 (sized 28)
    ∷ closes (writer 64 40 5) 52
    ∷ closes (writer 64 40 40) 52
    ∷ closes (writer 64 40 5) 51
    ∷ closes (writer 64 0 0) 0  -- nothing is left
    ∷ closes (writer 1401 40 5) 0
    ∷ []

pub samples : List Sample
samples =
    sample 0 []
    ∷ sample 0 (outer 225 65535 early 5 (replicate 40 9 ++ take 24 (packet 28)))
    ∷ sample 0 (outer 225 65535 early 40 (replicate 40 9 ++ take 24 (packet 28)))
    ∷ sample 0 (outer 225 65535 early 40 (replicate 40 9 ++ take 24 (packet 28)))
    ∷ sample 0 (outer 225 65535 late 0 (sized 64))
    ∷ sample 0 (outer 225 65535 late 0 (take 64 (packet 130)) ++ outer 97 0 late 0 (replicate 64 7))
    ∷ sample 0 []
    ∷ sample 18 []
    ∷ sample 19 []
    ∷ sample 1 []
    ∷ sample 0 (outer 225 65535 early 5 (replicate 40 9))
    ∷ sample 0 (outer 97 65535 early 0 (replicate 40 9))
    ∷ sample 1 []
    ∷ sample 0 []
    ∷ sample 18 []
    ∷ []

pub samples_hold : given ≡ samples
unfolding given samples sample said wraps closes writer packet sized outer early late wrapped closed giving is_size is_carried left_by begin_by outers_of rest_of outer_of outer_packet outer_fields head_fields bytes_of laid bits number octets line flat_map
samples_hold = refl

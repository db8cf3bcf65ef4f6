-- An outer packet that is sent, as the reader sees it: its fields and its payload are those that the sender put in. Assumes nothing.
use mathlib.Core.Path.{◌≡◌, refl}
use mathlib.Core.Bool.{Bool, true, false}
use mathlib.Core.List.{List, [], ◌∷◌, ◌++◌, flat_map}
use Prim.Native.Nat.{ℕ, ◌+◌, ◌/◌, ◌%◌, ◌≤◌}
use native.Mathlib.Omega.{arith}
use borrow.Author.Tests.{ltb-true, le-ltb}
use lib.Dec.{eqb}
use lib.ListN.{length, get_or, take, drop, length-take}
use Rattle.octets.specs.Bits.{Field, field, laid, octets, run, InWidth, Held, Bytes}
use Rattle.octets.specs.Each.{Each}
use Rattle.octets.specs.Word.{word_bytes}
use Rattle.octets.proofs.Laws.{either, each_append, word-high-low, bytes_take, bytes_drop, bytes-append, bytes_made, makes_append, makes_byte, makes_word, makes_bytes, makes_run}
use Rattle.rtp.specs.Header.{header_bytes, sequences, head_fields, marker_in, sequence_in, payload_in}
use Rattle.rtp.proofs.Laws.{plain-bytes}
use Rattle.packets.specs.Stored.{line}
use Rattle.tunnel.specs.Outer.{stltp, longest_outer, Outer, outer_fields, outer_packet, offset_in, is_outer}
use Rattle.tunnel.proofs.Outers.{kind_byte, marker_bit}
use Rattle.carriage.specs.Sent.{Sendable, Choice, Fits, next_begin, begins, outer_at}

-- ---- the byte of the marker and the payload_type

marker-read : (t : Bool) → eqb (kind_byte t / 128) 1 ≡ t
marker-read true = refl
marker-read false = refl

kind-read : (t : Bool) → kind_byte t % 128 ≡ stltp
kind-read true = refl
kind-read false = refl

-- ---- an outer packet that is sent: the n-th, with a payload from a place of the line on

abbrev pub payload_at : List (List ℕ) → ℕ → Choice → List ℕ
payload_at packets at c = take c.size (drop at (line packets))

abbrev pub outer_sent : List (List ℕ) → ℕ → ℕ → Choice → List ℕ
outer_sent packets n at c = outer_packet (outer_at packets n at c) (payload_at packets at c)

-- what the reader sees in it
pub record Seen (packets : List (List ℕ)) (n at : ℕ) (c : Choice) (xs : List ℕ) : Type 0 where
  pub outer : is_outer xs ≡ true
  pub marked : eqb (marker_in xs) 1 ≡ begins at c.size packets
  pub sequence : sequence_in xs ≡ n % sequences
  pub offset : offset_in xs ≡ (outer_at packets n at c).offset
  pub payload : payload_in xs ≡ payload_at packets at c

line-bytes : (packets : List (List ℕ)) → Each Sendable packets → Bytes (line packets)
unfolding line flat_map
line-bytes [] s = tt
line-bytes (p ∷ more) s = bytes-append p (line more) s.0.bytes (line-bytes more s.1)

plain-outer : (xs : List ℕ) → header_bytes ≤ length xs → length xs ≤ longest_outer → get_or xs 0 0 ≡ 128 → get_or xs 1 0 % 128 ≡ stltp → is_outer xs ≡ true
plain-outer xs least most a b = simp (le-ltb longest_outer (length xs) most, plain-bytes stltp xs least, a, b)

module _ (packets : List (List ℕ)) (sendable : Each Sendable packets) (n at : ℕ) (c : Choice) (fits : Fits c) where
  abbrev o : Outer
  o = outer_at packets n at c

  abbrev first : Bool
  first = begins at c.size packets

  abbrev payload : List ℕ
  payload = payload_at packets at c

  -- the fields that the reader does not look at
  abbrev passed : List Field
  passed = field 32 c.timestamp ∷ field 2 c.protocol ∷ field 2 c.redundancy ∷ field 2 c.channels ∷ field 10 c.reserved ∷ []

  abbrev bytes : List ℕ
  bytes = 128 ∷ kind_byte first ∷ word_bytes (n % sequences) ++ (octets 6 (laid passed) ++ (word_bytes o.offset ++ payload))

  held_fields : Held (outer_fields o)
  unfolding outer_fields head_fields
  held_fields =
      let offset : InWidth (field 16 o.offset) =
      either first (λ t. rw t (omega (arith, ltb-true (next_begin at packets) (at + c.size) t, fits.size))) (λ t. rw t fits.idle) in
      (omega arith, (omega arith, (omega arith, (omega arith, (marker_bit first, (omega arith, (omega arith, (fits.timestamp, (fits.protocol, (fits.redundancy, (fits.channels, (fits.reserved, (offset, tt)))))))))))))

  sent-bytes : outer_sent packets n at c ≡ bytes
  unfolding outer_packet outer_fields head_fields
  sent-bytes =
      bytes_made
      (makes_append (makes_byte (take 4 (outer_fields o)) refl)
      (makes_append (makes_byte (take 2 (drop 4 (outer_fields o))) refl)
      (makes_append (makes_word (n % sequences))
      (makes_append (makes_bytes 6 passed refl)
      (makes_append (makes_word o.offset) (makes_run payload))))))
      (each_append InWidth (outer_fields o) (run payload) held_fields
      (bytes_take c.size (drop at (line packets)) (bytes_drop at (line packets) (line-bytes packets sendable))))

  pub seen_sent : Seen packets n at c (outer_sent packets n at c)
  unfolding octets
  seen_sent =
      rw sent-bytes
      (record {
        outer = plain-outer bytes (omega arith) (omega (arith, length-take c.size (drop at (line packets)), fits.size)) refl (kind-read first);
        marked = marker-read first;
        sequence = word-high-low (n % sequences);
        offset = word-high-low o.offset;
        payload = refl;
      })

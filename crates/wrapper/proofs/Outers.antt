-- The outer packets of the writer as bytes, and as the code stores them. Assumes nothing.
use mathlib.Core.Path.{◌≡◌, refl, sym, ap, ap₂, ◌∙◌}
use mathlib.Core.Bool.{Bool, cond}
use mathlib.Core.List.{List, [], ◌∷◌, ◌++◌, flat_map}
use Prim.Native.Nat.{ℕ, ◌+◌, ◌/◌, ◌%◌, ◌^◌, ◌≤◌, ◌<◌}
use native.Mathlib.Omega.{arith}
use borrow.Author.Tests.{ltb-true, le-ltb}
use lib.Dec.{ltb}
use lib.ListN.{length, take, drop}
use lib.Seq.{sets}
use Rattle.octets.specs.Bits.{Field, field, bits, laid, number, octets, run, Held, Bytes}
use Rattle.octets.specs.Word.{word_bytes}
use Rattle.octets.proofs.Laws.{either, Makes, bytes_made, length-bytes_of, makes_append, makes_byte, makes_word, makes_long, makes_bytes, makes_run}
use Rattle.octets.proofs.Stores.{sets-append}
use Rattle.rtp.specs.Header.{header_bytes, head_fields}
use Rattle.tunnel.specs.Outer.{outer_fields, outer_packet}
use Rattle.tunnel.proofs.Outers.{kind_byte, marker_bit, length-outer}
use Rattle.wrapper.specs.Wrap.{most_size, Waiting, header, head_bytes, outer_of}

-- ---- two-byte numbers that are stored one behind the other

-- at at + k, at + (k + 2), ..
abbrev pub words : List ℕ → ℕ → ℕ → List ℕ → List ℕ
words l at k [] = l
words l at k (w ∷ ws) = words (sets l (at + k) (word_bytes w)) at (k + 2) ws

words_sets : (ws l : List ℕ) (at k : ℕ) → words l at k ws ≡ sets l (at + k) (flat_map word_bytes ws)
unfolding flat_map
words_sets [] l at k = refl
words_sets (w ∷ ws) l at k =
    let place : at + (k + 2) ≡ at + k + 2 = omega arith in
    words_sets ws (sets l (at + k) (word_bytes w)) at (k + 2)
    ∙ ap (λ (n : ℕ). sets (sets l (at + k) (word_bytes w)) n (flat_map word_bytes ws)) place
    ∙ sym (sets-append (word_bytes w) (flat_map word_bytes ws) l (at + k))

-- ---- the header

module _ (sequence timestamp begin size : ℕ) where
  abbrev marked : Bool
  marked = ltb begin size

  abbrev pub mark_word : ℕ
  mark_word = cond marked 0x80E1 0x8061

  abbrev pub offset : ℕ
  offset = cond marked begin 0

  -- protocol_version 1, and 0 in the fields behind it
  abbrev others : List Field
  others = field 2 1 ∷ field 2 0 ∷ field 2 0 ∷ field 10 0 ∷ []

  abbrev header_words : List ℕ
  header_words = mark_word ∷ sequence ∷ timestamp / 65536 ∷ timestamp % 65536 ∷ 0x4000 ∷ offset ∷ []

  abbrev fields : List Field
  fields = outer_fields (header sequence timestamp begin size)

  abbrev bytes : List ℕ
  bytes = 128 ∷ kind_byte marked ∷ word_bytes sequence ++ ((word_bytes (timestamp / 65536) ++ word_bytes (timestamp % 65536)) ++ (octets 2 (laid others) ++ word_bytes offset))

  makes_header : Makes fields bytes
  unfolding outer_fields head_fields
  makes_header =
      makes_append (makes_byte (take 4 fields) refl)
      (makes_append (makes_byte (take 2 (drop 4 fields)) refl)
      (makes_append (makes_word sequence)
      (makes_append (makes_long timestamp)
      (makes_append (makes_bytes 2 others refl) (makes_word offset)))))

  bytes_words : bytes ≡ flat_map word_bytes header_words
  unfolding flat_map octets laid bits number
  bytes_words = either marked (λ t. rw t refl) (λ t. rw t refl)

  -- numbers that fit
  module _ (short : sequence < 65536) (stamp : timestamp < 2 ^ 32) (most : size ≤ most_size) where
    held_header : Held fields
    unfolding outer_fields head_fields
    held_header =
        let o : offset < 65536 = either marked (λ t. rw t (omega (arith, ltb-true begin size t))) (λ t. rw t (omega arith)) in
        (omega arith, (omega arith, (omega arith, (omega arith, (marker_bit marked, (omega arith, (short, (stamp, (omega arith, (omega arith, (omega arith, (omega arith, (o, tt)))))))))))))

    head_bytes_lem : head_bytes sequence timestamp begin size ≡ bytes
    unfolding head_bytes
    head_bytes_lem = bytes_made makes_header held_header

    -- as the code stores it
    pub header-stored : (l : List ℕ) (at : ℕ) (mark off : ℕ) (l₁ l₂ l₃ l₄ l₅ l₆ : List ℕ) → mark ≡ mark_word → off ≡ offset → l₁ ≡ sets l at (word_bytes mark) → l₂ ≡ sets l₁ (at + 2) (word_bytes sequence) → l₃ ≡ sets l₂ (at + 4) (word_bytes (timestamp / 65536)) → l₄ ≡ sets l₃ (at + 6) (word_bytes (timestamp % 65536)) → l₅ ≡ sets l₄ (at + 8) (word_bytes 0x4000) → l₆ ≡ sets l₅ (at + 10) (word_bytes off) → l₆ ≡ sets l at (head_bytes sequence timestamp begin size)
    unfolding flat_map
    header-stored l at mark off l₁ l₂ l₃ l₄ l₅ l₆ m o e₁ e₂ e₃ e₄ e₅ e₆ =
        rw (e₆, e₅, e₄, e₃, e₂, e₁, m, o)
        (words_sets (drop 1 header_words) (sets l at (word_bytes mark_word)) at 2
        ∙ sym (sets-append (word_bytes mark_word) (flat_map word_bytes (drop 1 header_words)) l at)
        ∙ ap (sets l at) (sym (head_bytes_lem ∙ bytes_words)))

    -- and the payload behind it
    pub packet_made : (payload : List ℕ) → Bytes payload → outer_packet (header sequence timestamp begin size) payload ≡ head_bytes sequence timestamp begin size ++ payload
    unfolding outer_packet
    packet_made payload b =
        makes_header.made held_header (run payload)
        ∙ ap₂ ◌++◌ (sym head_bytes_lem) (bytes_made (makes_run payload) b)

pub length-head : (sequence timestamp begin size : ℕ) → length (head_bytes sequence timestamp begin size) ≡ header_bytes
unfolding head_bytes outer_fields head_fields
length-head sequence timestamp begin size = length-bytes_of (outer_fields (header sequence timestamp begin size))

-- no packet begins in the payload, wherever that is said to be
pub head_none : (sequence timestamp begin size : ℕ) → size ≤ begin → head_bytes sequence timestamp begin size ≡ head_bytes sequence timestamp size size
unfolding head_bytes
head_none sequence timestamp begin size h = simp (le-ltb begin size h, le-ltb size size (omega arith))

-- ---- an outer packet, header and payload stored one behind the other

pub outer-stored : (sequence : ℕ) (v : Waiting) → sequence < 65536 → v.timestamp < 2 ^ 32 → length v.bytes ≤ most_size → Bytes v.bytes → (l : List ℕ) (at : ℕ) → sets (sets l at (head_bytes sequence v.timestamp v.begin (length v.bytes))) (at + header_bytes) v.bytes ≡ sets l at (outer_of sequence v)
unfolding outer_of
outer-stored sequence v short stamp most b l at =
    let head = head_bytes sequence v.timestamp v.begin (length v.bytes) in
    ap (λ (n : ℕ). sets (sets l at head) (at + n) v.bytes) (sym (length-head sequence v.timestamp v.begin (length v.bytes)))
    ∙ sym (sets-append head v.bytes l at)
    ∙ ap (sets l at) (sym (packet_made sequence v.timestamp v.begin (length v.bytes) short stamp most v.bytes b))

pub length-outer_of : (sequence : ℕ) (v : Waiting) → length (outer_of sequence v) ≡ header_bytes + length v.bytes
unfolding outer_of
length-outer_of sequence v = length-outer (header sequence v.timestamp v.begin (length v.bytes)) v.bytes

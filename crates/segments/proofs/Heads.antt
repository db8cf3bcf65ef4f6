-- The standard's layout of a segment against the fields by their places. Assumes nothing.
use mathlib.Core.Path.{◌≡◌, refl, ap, ◌∙◌}
use mathlib.Core.List.{List, ◌∷◌}
use Prim.Native.Nat.{ℕ, ◌+◌, ◌*◌, ◌/◌, ◌%◌}
use native.Mathlib.Omega.{arith}
use lib.ListN.{length, take, drop}
use Rattle.octets.specs.Bits.{Field, run, InWidth, Held, Bytes}
use Rattle.octets.proofs.Laws.{each_append, packed, bytes_made, makes_byte, makes_append, makes_run}
use Rattle.meaning.specs.Lists.{kind_of}
use Rattle.segments.specs.Segment.{segment_header_bytes, Head, head_fields, segment, sort_in, segment_major, segment_kind, error_in, number_in, last_in, payload_in}

-- ---- the bytes that the fields make, and the fields that are read in them

-- the two bytes of a header
abbrev pub head_first : Head → ℕ
head_first h = h.sort * 64 + (h.reserved * 32 + (h.wake * 16 + (h.major * 4 + (h.current * 2 + h.error))))

abbrev pub head_second : Head → ℕ
head_second h = h.number * 16 + h.last

pub segment-bytes : (h : Head) (payload : List ℕ) → Held (head_fields h) → Bytes payload → segment h payload ≡ head_first h ∷ head_second h ∷ payload
unfolding segment head_fields
segment-bytes h payload held bytes =
    let six : List Field = take 6 (head_fields h) in
    let two : List Field = drop 6 (head_fields h) in
    let first : packed six ≡ head_first h = omega arith in
    let second : packed two ≡ head_second h = omega arith in
    bytes_made (makes_append (makes_byte six refl) (makes_append (makes_byte two refl) (makes_run payload)))
    (each_append InWidth (head_fields h) (run payload) held bytes)
    ∙ (λ i. first i ∷ second i ∷ payload)

pub head_read : (h : Head) (payload : List ℕ) → Held (head_fields h) → Bytes payload → let xs = segment h payload in (sort_in xs ≡ h.sort) × (segment_major xs ≡ h.major) × (segment_kind xs ≡ kind_of h.current) × (error_in xs ≡ h.error) × (number_in xs ≡ h.number) × (last_in xs ≡ h.last) × (payload_in xs ≡ payload) × (length xs ≡ segment_header_bytes + length payload)
unfolding head_fields
head_read h payload held bytes =
    let current : head_first h / 2 % 2 ≡ h.current = omega arith in
    rw (segment-bytes h payload held bytes)
    (omega arith, omega arith, ap kind_of current, omega arith, omega arith, omega arith, refl, omega arith)

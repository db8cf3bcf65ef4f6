-- A chunk cut into segments: how many they are, and what is read in each. Assumes nothing.
use mathlib.Core.Path.{◌≡◌, refl, ap, ◌∙◌}
use mathlib.Core.List.{List, ◌∷◌, ◌++◌, map}
use Prim.Native.Nat.{ℕ, zero, suc, ◌+◌, ◌-◌, ◌*◌, ◌≤◌, ◌<◌}
use native.Mathlib.Omega.{arith}
use lib.ListN.{length, drop, length-map}
use Rattle.std.proofs.Common.{Ok}
use Rattle.octets.specs.Bits.{Held, Bytes}
use Rattle.octets.specs.Each.{Each}
use Rattle.octets.proofs.Laws.{bytes_take, bytes_drop, bytes-append, get_d_byte}
use Rattle.meaning.specs.Sizes.{longest_chunk}
use Rattle.meaning.specs.Reading.{major_in, kind_in}
use Rattle.segments.specs.Segment.{segment_bytes, payload_bytes, most_segments, place_of, head_fields, sort_in, segment_major, segment_kind, error_in, number_in, last_in, payload_in, segment_checks}
use Rattle.segments.specs.Cut.{segment_count, Choice, Suits, head_of, piece_of, up_from, cut}
use Rattle.segments.proofs.Heads.{head_first, head_second, segment-bytes, head_read}
use Rattle.segments.proofs.Checks.{checks_fine}
use Rattle.segments.proofs.Places.{length_part}

-- ---- how many

pub length-up_from : (i n : ℕ) → length (up_from i n) ≡ n
unfolding up_from
length-up_from i zero = refl
length-up_from i (suc n) = ap suc (length-up_from (suc i) n)

pub length_cut : (xs : List ℕ) (c : Choice) → length (cut xs c) ≡ segment_count (length xs)
length_cut xs c = length-map (up_from 0 (segment_count (length xs))) (piece_of xs c) ∙ length-up_from 0 (segment_count (length xs))

-- so many hold the chunk, and no fewer do
pub segments_hold : (n : ℕ) → n ≤ payload_bytes * segment_count n
segments_hold n = omega arith

pub segments_fewest : (n m : ℕ) → n ≤ payload_bytes * m → segment_count n ≤ m
segments_fewest n m h = omega arith

-- ---- each segment

module _ (xs : List ℕ) (c : Choice) (bytes : Bytes xs) (suits : Suits xs c) (room : length xs ≤ longest_chunk) (i : ℕ) (inside : i < segment_count (length xs)) where
  abbrev whole : List ℕ
  whole = xs ++ c.fill

  head_held : Held (head_fields (head_of xs c i))
  unfolding head_fields
  head_held =
      let few : segment_count (length xs) ≤ most_segments = omega arith in
      omega (arith, suits.reserved i, suits.wake i, get_d_byte xs 0 bytes)

  place-bytes : Bytes (place_of whole i)
  place-bytes =
      bytes_take payload_bytes (drop (payload_bytes * i) whole) (bytes_drop (payload_bytes * i) whole (bytes-append xs c.fill bytes suits.bytes))

  pub piece_bytes : piece_of xs c i ≡ head_first (head_of xs c i) ∷ head_second (head_of xs c i) ∷ place_of (xs ++ c.fill) i
  unfolding piece_of
  piece_bytes = segment-bytes (head_of xs c i) (place_of whole i) head_held place-bytes

  pub piece-read : let p = piece_of xs c i in (length p ≡ segment_bytes) × (sort_in p ≡ 0) × (error_in p ≡ 0) × (segment_major p ≡ major_in xs) × (segment_kind p ≡ kind_in xs) × (number_in p ≡ i) × (last_in p ≡ segment_count (length xs) - 1) × (payload_in p ≡ place_of (xs ++ c.fill) i)
  unfolding piece_of
  piece-read =
      let r = head_read (head_of xs c i) (place_of whole i) head_held place-bytes in
      let size : length (place_of whole i) ≡ payload_bytes = length_part whole (payload_bytes * i) (omega (arith, suits.whole)) in
      (omega (arith, r.7), r.0, r.3, r.1, r.2, r.4, r.5, r.6)

  pub piece-passes : major_in xs ≡ 0 → segment_checks (piece_of xs c i) ≡ Ok tt
  piece-passes major =
      let r = piece-read in
      checks_fine (piece_of xs c i) r.0 r.1 r.2 (r.3 ∙ major) (omega (arith, r.5, r.6))

-- ---- all of them

module _ (xs : List ℕ) (c : Choice) (bytes : Bytes xs) (suits : Suits xs c) (room : length xs ≤ longest_chunk) where
  pieces_whole : (i n : ℕ) → i + n ≤ segment_count (length xs) → Each (λ s. length s ≡ segment_bytes) (map (piece_of xs c) (up_from i n))
  unfolding up_from
  pieces_whole i zero h = tt
  pieces_whole i (suc n) h = ((piece-read xs c bytes suits room i (omega arith)).0, pieces_whole (suc i) n (omega arith))

  pub cut_whole : Each (λ s. length s ≡ segment_bytes) (cut xs c)
  cut_whole = pieces_whole 0 (segment_count (length xs)) (omega arith)

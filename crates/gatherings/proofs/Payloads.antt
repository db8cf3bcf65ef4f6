-- The segments that stand in an output, and their payloads joined. Assumes nothing.
use mathlib.Core.Path.{◌≡◌, refl, sym, ap, ap₂, ◌∙◌}
use mathlib.Core.List.{List, [], ◌∷◌, ◌++◌, map, flat_map, append_assoc}
use Prim.Native.Nat.{ℕ, zero, suc, ◌+◌, ◌*◌, ◌≤◌}
use native.Mathlib.Nat.{zero-add}
use native.Mathlib.Omega.{arith}
use lib.ListN.{length, take, drop, take-append-drop, drop_of_length-le}
use lib.Seq.{take_at, drop_at, drop-drop}
use Rattle.octets.specs.Bits.{Bytes}
use Rattle.octets.specs.Each.{Each}
use Rattle.meaning.specs.Sizes.{longest_chunk}
use Rattle.segments.specs.Segment.{segment_bytes, payload_bytes, place_of}
use Rattle.segments.specs.Cut.{segment_count, Choice, Suits, piece_of, up_from, cut, joined}
use Rattle.segments.proofs.Cut.{piece-read}
use Rattle.gatherings.specs.Deliveries.{first_segments, payloads_of}

-- segments put one after the other are found again
pub segments_found : (segments : List (List ℕ)) (rest : List ℕ) → Each (λ s. length s ≡ segment_bytes) segments → first_segments (length segments) (joined segments ++ rest) ≡ segments
unfolding first_segments flat_map
segments_found [] rest h = refl
segments_found (s ∷ more) rest h =
    let others : List ℕ = joined more ++ rest in
    ap (λ (t : List ℕ). take segment_bytes t ∷ first_segments (length more) (drop segment_bytes t)) (append_assoc s (joined more) rest)
    ∙ ap₂ (λ (a b : List ℕ). a ∷ first_segments (length more) b) (take_at s others segment_bytes h.0) (drop_at s others segment_bytes h.0)
    ∙ ap (λ (t : List (List ℕ)). s ∷ t) (segments_found more rest h.1)

-- the places of a byte string from the place i on, joined
places_joined : (xs : List ℕ) (i n : ℕ) → length xs ≡ payload_bytes * (i + n) → flat_map (place_of xs) (up_from i n) ≡ drop (payload_bytes * i) xs
unfolding up_from flat_map
places_joined xs i zero h = let past : length xs ≤ payload_bytes * i = omega arith in sym (drop_of_length-le xs past)
places_joined xs i (suc n) h =
    let next : payload_bytes * suc i ≡ payload_bytes * i + payload_bytes = omega arith in
    ap (λ (t : List ℕ). place_of xs i ++ t) (places_joined xs (suc i) n (omega arith) ∙ ap (λ (m : ℕ). drop m xs) next ∙ sym (drop-drop payload_bytes (payload_bytes * i) xs))
    ∙ take-append-drop payload_bytes (drop (payload_bytes * i) xs)

module _ (xs : List ℕ) (c : Choice) (bytes : Bytes xs) (suits : Suits xs c) (room : length xs ≤ longest_chunk) where
  pieces_payloads : (i n : ℕ) → i + n ≤ segment_count (length xs) → payloads_of (map (piece_of xs c) (up_from i n)) ≡ flat_map (place_of (xs ++ c.fill)) (up_from i n)
  unfolding up_from flat_map
  pieces_payloads i zero h = refl
  pieces_payloads i (suc n) h = ap₂ ◌++◌ (piece-read xs c bytes suits room i (omega arith)).7 (pieces_payloads (suc i) n (omega arith))

  pub payloads_cut : payloads_of (cut xs c) ≡ xs ++ c.fill
  payloads_cut =
      let n : ℕ = segment_count (length xs) in
      pieces_payloads 0 n (omega arith)
      ∙ places_joined (xs ++ c.fill) 0 n (suits.whole ∙ ap (λ (m : ℕ). payload_bytes * m) (sym (zero-add n)))

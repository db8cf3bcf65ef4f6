-- The segments that are put for a chunk, in an output whose last piece was stuffing, are the chunk cut as the writer chooses. Assumes nothing.
use mathlib.Core.Path.{◌≡◌, refl, sym, ap, ap₂, ◌∙◌}
use mathlib.Core.List.{List, ◌∷◌, ◌++◌, map, flat_map, append_assoc}
use Prim.Native.Nat.{ℕ, zero, suc, ◌+◌, ◌-◌, ◌*◌, ◌%◌, ◌≤◌, ◌<◌}
use native.Mathlib.Nat.{zero-add}
use native.Mathlib.Omega.{arith}
use lib.ListN.{length, get_or, drop, replicate, length-append, length-replicate, replicate-append-replicate}
use lib.Seq.{drop_at, drop-append-le, drop-drop, sets, length-sets}
use Rattle.octets.specs.Bits.{Bytes}
use Rattle.octets.proofs.Stores.{drop-sets, drop-stored}
use Rattle.meaning.specs.declared.Kind.{Kind}
use Rattle.meaning.specs.Sizes.{longest_chunk}
use Rattle.meaning.specs.Lists.{current_of}
use Rattle.meaning.specs.Reading.{major_in}
use Rattle.segments.specs.Segment.{segment_bytes, payload_bytes, place_of}
use Rattle.segments.specs.Cut.{segment_count, Choice, Suits, head_of, piece_of, up_from, cut, joined}
use Rattle.segments.proofs.Heads.{head_first}
use Rattle.segments.proofs.Cut.{piece_bytes, piece-read}
use Rattle.segments.proofs.Places.{place-within}
use Rattle.segment_puts.specs.Laid.{segment_laid, segments_laid}
use Rattle.writer.specs.Writing.{shortest_output, plainly}

-- ---- stuffing

abbrev pub stuffing : ℕ → List ℕ
stuffing n = replicate n 0xFF

bytes-stuffing : (n : ℕ) → Bytes (stuffing n)
bytes-stuffing zero = tt
bytes-stuffing (suc n) = (omega arith, bytes-stuffing n)

length-stuffing : (n : ℕ) → length (stuffing n) ≡ n
length-stuffing n = length-replicate n 0xFF

drop-stuffing : (a b : ℕ) → drop a (stuffing (a + b)) ≡ stuffing b
drop-stuffing a b =
    ap (drop a) (sym (replicate-append-replicate a b 0xFF)) ∙ drop_at (stuffing a) (stuffing b) a (length-stuffing a)

-- a byte string put over m bytes of stuffing that end behind it: stuffing follows it, then what was there
over_stuffing : (xs l : List ℕ) (i a b m : ℕ) → length xs ≡ i + a → m ≡ a + b → i + m ≤ length l → sets (sets l i (stuffing m)) 0 xs ≡ (xs ++ stuffing b) ++ drop (i + m) l
over_stuffing xs l i a b m e f room =
    let fill : List ℕ = sets l i (stuffing m) in
    let rest : List ℕ = drop (i + m) l in
    let inside : a ≤ length (stuffing m) = omega (arith, length-stuffing m) in
    drop-stored xs fill 0 (i + a) (sym (zero-add (length xs) ∙ e)) (omega (arith, length-sets l i (stuffing m)))
    ∙ ap (λ (t : List ℕ). xs ++ t)
    (sym (drop-drop a i fill)
    ∙ ap (drop a) (drop-stored (stuffing m) l i (i + m) (ap (λ (n : ℕ). i + n) (sym (length-stuffing m))) room)
    ∙ drop-append-le a (stuffing m) rest inside
    ∙ ap (λ (n : ℕ). drop a (stuffing n) ++ rest) f
    ∙ ap (λ (t : List ℕ). t ++ rest) (drop-stuffing a b))
    ∙ sym (append_assoc xs (stuffing b) rest)

-- the writer's choice is one
pub plainly_suits : (xs : List ℕ) → Suits xs (plainly (length xs))
plainly_suits xs =
    let n : ℕ = length xs in
    let more : ℕ = payload_bytes * segment_count n - n in
    record {
      reserved = λ i. omega arith;
      wake = λ i. omega arith;
      bytes = bytes-stuffing more;
      whole = length-append xs (stuffing more) ∙ omega (arith, length-stuffing more);
    }

module _ (k : Kind) (xs before : List ℕ) (some : 0 < length xs) (room : length xs ≤ longest_chunk) (space : shortest_output ≤ length before) (bytes : Bytes xs) (major : major_in xs ≡ 0) (kind : get_or xs 1 0 % 2 ≡ current_of k) where
  abbrev n : ℕ
  n = segment_count (length xs)

  abbrev c : Choice
  c = plainly (length xs)

  -- the chunk with the writer's stuffing, and as it is put over the last piece
  abbrev whole : List ℕ
  whole = xs ++ c.fill

  abbrev put : List ℕ
  put = sets (sets before (payload_bytes * (n - 1)) (stuffing payload_bytes)) 0 xs

  abbrev rest : List ℕ
  rest = drop (payload_bytes * (n - 1) + payload_bytes) before

  put_whole : put ≡ whole ++ rest
  put_whole =
      let at : ℕ = payload_bytes * (segment_count (length xs) - 1) in
      let more : ℕ = payload_bytes * segment_count (length xs) - length xs in
      over_stuffing xs before at (length xs - at) more payload_bytes (omega arith) (omega arith) (omega arith)

  place_put : (i : ℕ) → i < n → place_of put i ≡ place_of whole i
  place_put i h = ap (λ (t : List ℕ). place_of t i) put_whole ∙ place-within whole rest i (omega (arith, (plainly_suits xs).whole))

  segment-laid : (i : ℕ) → i < n → segment_laid k (n - 1) put i ≡ piece_of xs c i
  segment-laid i h =
      let first : 48 + current_of k * 2 ≡ head_first (head_of xs c i) = omega arith in
      (λ j. first j ∷ (i * 16 + (n - 1)) ∷ place_put i h j) ∙ sym (piece_bytes xs c bytes (plainly_suits xs) room i h)

  segments_laid_lem : (i m : ℕ) → i + m ≤ n → segments_laid k (n - 1) put i m ≡ joined (map (piece_of xs c) (up_from i m))
  unfolding up_from flat_map
  segments_laid_lem i zero h = refl
  segments_laid_lem i (suc m) h = ap₂ ◌++◌ (segment-laid i (omega arith)) (segments_laid_lem (suc i) m (omega arith))

  length_segments : (i m : ℕ) → i + m ≤ n → length (joined (map (piece_of xs c) (up_from i m))) ≡ segment_bytes * m
  unfolding up_from flat_map
  length_segments i zero h = refl
  length_segments i (suc m) h =
      let piece : List ℕ = piece_of xs c i in
      let rest : List ℕ = joined (map (piece_of xs c) (up_from (suc i) m)) in
      omega (arith, length-append piece rest, (piece-read xs c bytes (plainly_suits xs) room i (omega arith)).0, length_segments (suc i) m (omega arith))

  length-joined : length (joined (cut xs c)) ≡ segment_bytes * n
  length-joined = length_segments 0 n (omega arith)

  -- all of them, over the output
  pub cut_put : sets put 0 (segments_laid k (n - 1) put 0 n) ≡ joined (cut xs c) ++ drop (segment_bytes * n) before
  cut_put =
      let all : List ℕ = joined (cut xs c) in
      let at : ℕ = payload_bytes * (n - 1) in
      let fill : List ℕ = sets before at (stuffing payload_bytes) in
      ap (sets put 0) (segments_laid_lem 0 n (omega arith))
      ∙ drop-stored all put 0 (segment_bytes * n) (sym (zero-add (length all) ∙ length-joined)) (omega (arith, length-sets fill 0 xs, length-sets before at (stuffing payload_bytes)))
      ∙ ap (λ (t : List ℕ). all ++ t) (drop-sets xs fill 0 (segment_bytes * n) (omega arith) ∙ drop-sets (stuffing payload_bytes) before at (segment_bytes * n) (omega (arith, length-stuffing payload_bytes)))

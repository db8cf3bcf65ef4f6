-- A listing that passed the checks, written: the answer and every byte of the output. Assumes nothing.
use mathlib.Core.Path.{◌≡◌, refl, sym, ap, ap₂, ◌∙◌, subst}
use mathlib.Core.Bool.{true}
use mathlib.Core.List.{List, ◌++◌}
use Prim.Native.Nat.{ℕ, ◌+◌, ◌-◌, ◌*◌, ◌%◌, ◌≤◌}
use native.Mathlib.Omega.{arith}
use lib.ListN.{length, get_or, drop}
use lib.Seq.{sets}
use Rattle.octets.specs.Bits.{Bytes}
use Rattle.octets.specs.Each.{Each}
use Rattle.octets.proofs.Laws.{bytes-bytes_of}
use Rattle.meaning.specs.declared.Kind.{Kind}
use Rattle.meaning.specs.declared.Kind.TheVariants.{This, Next}
use Rattle.meaning.specs.Sizes.{longest_chunk}
use Rattle.meaning.specs.Lists.{FicList, current_of}
use Rattle.meaning.specs.Layout.{Chunk, chunk_fields, wire}
use Rattle.meaning.specs.Said.{listing_fits, list_said}
use Rattle.meaning.specs.Plain.{plain, Fits, plain_length}
use Rattle.meaning.specs.Reading.{major_in}
use Rattle.meaning.proofs.Said.{said_fitting}
use Rattle.meaning.proofs.Plain.{length-plain}
use Rattle.segments.specs.Segment.{segment_bytes, payload_bytes}
use Rattle.segments.specs.Cut.{segment_count, joined}
use Rattle.segments.proofs.Cut.{length_cut, cut_whole}
use Rattle.std.proofs.Common.{Ok}
use Rattle.chunk_puts.specs.Laid.{chunk_laid}
use Rattle.segment_puts.specs.Laid.{segments_laid}
use Rattle.writer.specs.Writing.{shortest_output, plainly, plain_segments, WriteSays}
use Rattle.writer.proofs.Chunks.{laid-wire}
use Rattle.writer.proofs.Sent.{stuffing, plainly_suits, cut_put}
use Rattle.writer.proofs.Answers.{checks_written, says_written}

bytes-wire : (c : Chunk) → Bytes (wire c)
unfolding wire
bytes-wire c = bytes-bytes_of (chunk_fields c)

-- ---- the segments of a list that fits

module _ (k : Kind) (l : FicList) (fits : Fits l) where
  abbrev chunk : List ℕ
  chunk = wire (plain k l)

  pub length-plain_segments : length (plain_segments k l) ≡ segment_count (plain_length l)
  unfolding plain_segments
  length-plain_segments = length_cut chunk (plainly (length chunk)) ∙ ap segment_count (length-plain k l fits)

  pub plain_segments_whole : plain_length l ≤ longest_chunk → Each (λ s. length s ≡ segment_bytes) (plain_segments k l)
  unfolding plain_segments
  plain_segments_whole room = cut_whole chunk (plainly (length chunk)) (bytes-wire (plain k l)) (plainly_suits chunk) (omega (arith, length-plain k l fits))

-- ---- a listing that passed the checks

-- the chunk that is put, as the cut needs it
chunk-kind : (k : Kind) (xs : List ℕ) → (major_in (chunk_laid k xs) ≡ 0) × (get_or (chunk_laid k xs) 1 0 % 2 ≡ current_of k)
unfolding chunk_laid
chunk-kind This xs = (refl, refl)
chunk-kind Next xs = (refl, refl)

module _ (k : Kind) (xs before : List ℕ) (bytes : Bytes xs) (space : shortest_output ≤ length before) (fits : listing_fits xs ≡ true) (room : plain_length (list_said xs) ≤ longest_chunk) where
  abbrev l : FicList
  l = list_said xs

  abbrev w : List ℕ
  w = wire (plain k l)

  held : Fits l
  held = said_fitting xs bytes fits

  wire-kind : (major_in w ≡ 0) × (get_or w 1 0 % 2 ≡ current_of k)
  wire-kind = subst (λ (t : List ℕ). (major_in t ≡ 0) × (get_or t 1 0 % 2 ≡ current_of k)) (laid-wire k xs bytes fits) (chunk-kind k xs)

  wire_room : length w ≤ longest_chunk
  wire_room = omega (arith, length-plain k l held)

  abbrev n : ℕ
  n = segment_count (length w)

  -- a chunk put over the stuffing of the last of m pieces
  abbrev over : ℕ → List ℕ → List ℕ
  over m t = sets (sets before (payload_bytes * (m - 1)) (stuffing payload_bytes)) 0 t

  sent : sets (over n w) 0 (segments_laid k (n - 1) (over n w) 0 n) ≡ joined (plain_segments k l) ++ drop (segment_bytes * n) before
  unfolding plain_segments
  sent = cut_put k w before (omega (arith, length-plain k l held)) wire_room space (bytes-wire (plain k l)) wire-kind.0 wire-kind.1

  -- what the code has put: the stuffing, the chunk, and m segments
  pub written_says : (m : ℕ) (fill put after : List ℕ) → m ≡ segment_count (plain_length (list_said xs)) → fill ≡ sets before (payload_bytes * (m - 1)) (stuffing payload_bytes) → put ≡ sets fill 0 (chunk_laid k xs) → after ≡ sets put 0 (segments_laid k (m - 1) put 0 (m - 1 + 1)) → WriteSays xs k before (Ok m) after
  written_says m fill put after e stuffed chunk stored =
      let same : m ≡ n = e ∙ sym (ap segment_count (length-plain k l held)) in
      let s = plain_segments k l in
      let count : m ≡ length s = e ∙ sym (length-plain_segments k l held) in
      let some : m - 1 + 1 ≡ m = omega arith in
      let left : after ≡ joined s ++ drop (segment_bytes * length s) before =
      stored
      ∙ ap₂ (λ (i : ℕ) (t : List ℕ). sets t 0 (segments_laid k (m - 1) t 0 i)) some (chunk ∙ ap₂ (λ (s t : List ℕ). sets s 0 t) stuffed (laid-wire k xs bytes fits))
      ∙ ap (λ (i : ℕ). sets (over i w) 0 (segments_laid k (i - 1) (over i w) 0 i)) same
      ∙ sent
      ∙ ap (λ (i : ℕ). joined s ++ drop (segment_bytes * i) before) (sym same ∙ count) in
      let says = says_written xs k before (checks_written xs before space fits room) in
      record { answers = ap Ok count ∙ says.answers; leaves = left ∙ says.leaves }

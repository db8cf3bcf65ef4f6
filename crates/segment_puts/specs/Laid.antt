-- Internal: the segments that are put for a chunk, straight from its bytes. No promise cites this; that they are those of the cut is a law
-- (writer/proofs/Sent.antt).
use Rattle.std.specs.Prelude.{ℕ, ◌+◌, ◌*◌}
use mathlib.Core.List.{List, ◌∷◌, flat_map}
use Rattle.meaning.specs.declared.Kind.{Kind}
use Rattle.meaning.specs.Lists.{current_of}
use Rattle.segments.specs.Segment.{place_of}
use Rattle.segments.specs.Cut.{up_from}

-- the segment with the number i, of a chunk with its stuffing, and n of them from the number i on
abbrev pub segment_laid : Kind → ℕ → List ℕ → ℕ → List ℕ
segment_laid k last bytes i = (48 + current_of k * 2) ∷ (i * 16 + last) ∷ place_of bytes i

abbrev pub segments_laid : Kind → ℕ → List ℕ → ℕ → ℕ → List ℕ
segments_laid k last bytes i n = flat_map (segment_laid k last bytes) (up_from i n)

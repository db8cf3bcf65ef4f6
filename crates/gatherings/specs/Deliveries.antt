-- One gathering: where it begins, and the segments that stand in a writer's output.
use Rattle.std.specs.Prelude.{ℕ, zero, suc, ◌≡◌, take, drop}
use mathlib.Core.List.{List, [], ◌∷◌, flat_map}
use Rattle.meaning.specs.Numbers.{read_values}
use Rattle.meaning.specs.Reading.{read_answer, read_buffer}
use Rattle.segments.specs.Segment.{segment_bytes, payload_in}
use Rattle.desk.specs.declared.Desk.{Desk}
use Rattle.desk.specs.Desks.{new_gathering}

-- the desk stands at the beginning of a gathering: a new one would change nothing
abbrev pub AtStart : Desk → Type 0
AtStart d = new_gathering d ≡ d

-- the first n segments that stand in an output
unfoldable pub first_segments : ℕ → List ℕ → List (List ℕ)
first_segments zero output = []
first_segments (suc n) output = take segment_bytes output ∷ first_segments n (drop segment_bytes output)

-- the payloads of some segments, joined
abbrev pub payloads_of : List (List ℕ) → List ℕ
payloads_of segments = flat_map payload_in segments

-- what the reader leaves of a chunk, up to the length that it answers
abbrev pub listed_by : List ℕ → List ℕ → List ℕ
listed_by chunk buffer = take (read_values (read_answer chunk buffer)).length (read_buffer chunk buffer)

-- A desk that falls to demand 3: it keeps the first segment in a slot, and of every later one only claims that it has it.
use Rattle.std.specs.Prelude.{cond, List, ◌++◌, ℕ, eqb, take}
use Rattle.segments.specs.Segment.{segment_header_bytes, place_of, segment_kind, number_in}
use Rattle.notes.specs.Notes.{slot_for}
use Rattle.desk.specs.declared.Desk.{Desk}
use Rattle.desk.specs.Desks.{bytes_for, segment_after}
use Rattle.desk.specs.Calls.{SegmentCall}

-- the segment as such a desk takes it: once something is held, what the slot has at the segment's place stands for its payload
abbrev pub claimed : Desk → List ℕ → List ℕ
claimed d xs =
    let k = segment_kind xs in
    cond (eqb (slot_for k d.notes).held 0) xs (take segment_header_bytes xs ++ place_of (bytes_for k d) (number_in xs))

unfoldable pub keeps_first : SegmentCall
keeps_first d xs first second = segment_after d (claimed d xs) first second

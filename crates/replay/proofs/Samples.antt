-- Document 01's sample log and what it prints, as a statement about the definitions. Assumes nothing.
use mathlib.Core.Path.{◌≡◌, refl}
use mathlib.Core.List.{List, ◌∷◌, ◌++◌, flat_map}
use Prim.Native.Nat.{ℕ}
use lib.ListN.{replicate}
use lib.Count.{ones_in, ones}
use Rattle.text.specs.Text.{text, decimal_in, decimal}
use Rattle.hex_text.specs.Hex.{hex}
use Rattle.records.specs.Records.{mark_in, entry_in, file_up_to, file_in, last_line}
use Rattle.meaning.specs.Sizes.{longest_listing}
use Rattle.meaning.specs.Listing.{ensemble_listing, listing}
use Rattle.meaning.specs.Reading.{ensembles_checks, checks, services_at, ensembles_at, list_in}
use Rattle.segments.specs.Segment.{segment_checks}
use Rattle.slots.specs.Slots.{zeros, slot_fits, clashing}
use Rattle.slots.specs.Gathering.{completed, gathered}
use Rattle.desk.specs.Desks.{fresh, well_formed, new_frame, taken_by, segment_after, shown_length, shown}
use Rattle.desk.specs.Calls.{State, state, ran_by}
use Rattle.lines.specs.Lines.{frame_lines, answer_lines}
use Rattle.replay.specs.Log.{printed, printed_with}

-- a segment for the next frame: its header, the chunk and 23 bytes FF
abbrev pub sample_segment : List ℕ
sample_segment =
    0x30 ∷ 0x00 ∷ 0x00 ∷ 0x02 ∷ 0x01 ∷ 0x23 ∷ 0x01 ∷ 0x05 ∷ 0xE0 ∷ 0x83 ∷ 0x01 ∷ 0x0A ∷ 0x01 ∷ 0xE6 ∷ replicate 23 0xFF

abbrev pub sample_log : List ℕ
sample_log = text "SG" ++ sample_segment ++ text "FRFR"

abbrev pub start : State
start = state fresh (zeros longest_listing) (zeros longest_listing)

-- the six lines
abbrev pub sample_text : List ℕ
sample_text =
    text "SG 0 list next 19\n"
    ++ text "5453012301454e050403015356050a01000300\n"
    ++ text "FR 19\n"
    ++ text "5453012301454e050403015356050a01000300\n"
    ++ text "FR none\n"
    ++ text "END 0\n"

pub sample_printed : printed start sample_log ≡ sample_text
unfolding printed_with file_in file_up_to entry_in mark_in ran_by last_line frame_lines answer_lines hex decimal decimal_in flat_map shown shown_length new_frame segment_after taken_by well_formed slot_fits clashing gathered completed segment_checks checks ensembles_checks list_in ensembles_at services_at listing ensemble_listing ones ones_in
sample_printed = refl

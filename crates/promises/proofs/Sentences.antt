-- What document 01 says besides the demands, sentence by sentence, each proved by citing its lemma. docs/PROMISES.md says which sentence is which.
use mathlib.Core.Path.{◌≡◌, sym, ◌∙◌}
use mathlib.Core.Bool.{true, false}
use mathlib.Core.List.{List, [], ◌∷◌, ◌++◌, map, flat_map}
use mathlib.Core.Logic.{◌⊎◌, inl}
use Prim.Native.Nat.{ℕ, ◌+◌, ◌-◌, ◌*◌, ◌^◌, ◌≤◌, ◌<◌}
use lib.Dec.{T}
use lib.ListN.{length, drop}
use lib.Count.{ones}
use Rattle.std.proofs.Common.{Ok, Err}
use Rattle.octets.specs.Bits.{Bytes, Held}
use Rattle.octets.specs.Each.{Each}
use Rattle.octets.specs.Checks.{among}
use Rattle.meaning.specs.declared.Kind.{Kind}
use Rattle.meaning.specs.declared.Kind.TheVariants.{This, Next}
use Rattle.meaning.specs.declared.Part.{Part}
use Rattle.meaning.specs.declared.Part.TheVariants.{SingleService}
use Rattle.meaning.specs.declared.Refusal.{Refusal}
use Rattle.meaning.specs.declared.Refusal.TheVariants.{Clash, EndsEarly}
use Rattle.records.specs.Records.{mark_bytes}
use Rattle.meaning.specs.Sizes.{longest_chunk, longest_listing, ts_bytes, en_bytes, eu_bytes, sv_bytes}
use Rattle.meaning.specs.Lists.{Ensemble, FicList, services_of, known_count, unknown_count, AllKnown}
use Rattle.meaning.specs.Layout.{EnsembleRow, ensemble_of, Chunk, Formed, Carries, wire}
use Rattle.meaning.specs.Listing.{listing}
use Rattle.meaning.specs.Ends.{thing_bytes, things, EndsIn}
use Rattle.meaning.specs.Numbers.{number_of, offset_of, checked_number}
use Rattle.meaning.specs.Reading.{checks, list_in, Accepts, read_answer, read_buffer}
use Rattle.meaning.specs.Said.{listing_fits, list_said}
use Rattle.meaning.specs.Plain.{plain, Fits, plain_length}
use Rattle.meaning.proofs.Complete.{carried-accepted}
use Rattle.meaning.proofs.Sound.{accepted-carried}
use Rattle.meaning.proofs.Lengths.{length-listing, listing-fits}
use Rattle.meaning.proofs.Answers.{dress_disregarded}
use Rattle.meaning.proofs.Gives.{no_offset}
use Rattle.meaning.proofs.Things.{wire_things}
use Rattle.meaning.proofs.Ends.{ends_once, answer_ends, ends_answer, answer-within}
use Rattle.meaning.proofs.Samples.{cut_chunk, cut_ends, first_chunk, first_list, first_carried, unknown_chunk, unknown_list, unknown_listing, unknown-carried, longest_reached}
use Rattle.meaning.proofs.Said.{bytes-listing, listing_fitting, said-listing, listing-said, said_fitting, said-known, listing-once}
use Rattle.meaning.proofs.Plain.{length-plain, carried_fitting, inside_disregarded}
use Rattle.segments.specs.Segment.{segment_bytes, Head, head_fields, segment, segment_kind, number_in, payload_bytes, segment_checks}
use Rattle.segments.specs.Cut.{segment_count}
use Rattle.segments.proofs.Samples.{given, samples, samples_hold}
use Rattle.segments.proofs.Checks.{check-numbers}
use Rattle.segments.proofs.Cut.{segments_hold, segments_fewest}
use Rattle.std.proofs.Common.{Result, Ok, Err}
use Rattle.writer.specs.declared.Unwritten.{Unwritten}
use Rattle.writer.specs.declared.Unwritten.TheVariants.{BadListing}
use Rattle.writer.specs.Writing.{shortest_output, unwritten_number, plain_segments, write_answer}
use Rattle.typed.specs.declared.Unanswered.{Unanswered}
use Rattle.typed.specs.Typed.{log_of, longest_log, kind_typed, listing_typed, answer_for, ReplyValues, reply_values, reply_to, Answerable, ReplySays}
use Rattle.typed.proofs.Replies.{values_written, values_refused, values_unasked, log-short}
use Rattle.slots.specs.declared.Slot.{Slot}
use Rattle.slots.specs.declared.Answer.TheVariants.{Missing}
use Rattle.slots.specs.Gathering.{chunk_in}
use Rattle.octets.specs.Sets.{holds}
use Rattle.slots.specs.Slots.{spoiled_slot, missing_in}
use Rattle.octets.proofs.Sets.{complete_full, full_complete}
use Rattle.desk.specs.declared.Desk.{Desk}
use Rattle.notes.specs.Notes.{slot_for, other_kind, lent_for}
use Rattle.desk.specs.Desks.{fresh, well_formed, new_gathering, new_frame, After, after, call_checks, segment_after, shown_length, shown}
use Rattle.desk.proofs.Laws.{gathering_bad, frame_bad}
use Rattle.effects.specs.Effects.{slot_before, slot_holding, clashes}
use Rattle.effects.proofs.Keeps.{fresh-fits, same_lengths}
use Rattle.effects.proofs.Frames.{length-shown, frame-shows, frame-place, frame_next, gathering-shows, next_hidden, other-shown}
use Rattle.desk.specs.Calls.{Call, State, Ready, shown_in, next_frame, Ran, ran, answers_of, InFrame, Lacks}
use Rattle.effects.proofs.Calls.{frame_only}
use Rattle.effects.proofs.Ends.{refusal_ends, refusal_within}
use Rattle.effects.proofs.Refusals.{repeat-unchanged, spoiled_refused}
use Rattle.text.specs.Text.{text, Put}
use Rattle.hex_text.specs.Hex.{hex, hex_fits, hex_said}
use Rattle.hex_text.proofs.Written.{hex_typed}
use Rattle.records.specs.declared.Entry.{Entry}
use Rattle.records.specs.Records.{Record, entry_in, is_whole, size_of, file_up_to, last_line}
use Rattle.records.specs.Transcripts.{Filled, filled, next_in, text_in}
use Rattle.records.specs.Channels.{Fills}
use Rattle.records.proofs.Entries.{entry_more}
use Rattle.records.proofs.Transcripts.{file_any, filled_room, filled_keeps}
use Rattle.programs.specs.Programs.{alone}
use Rattle.manners.specs.declared.Ending.{Ending}
use Rattle.blocks.specs.declared.Step.{Step}
use Rattle.blocks.specs.declared.Unread.{Unread}
use Rattle.blocks.specs.Blocks.{unread as Blocks·unread, TurnSays, Concludes, Settles, Ends}
use Rattle.blocks.specs.Channels.{BothSay, LastSaid, RunSays}
use Rattle.blocks.specs.Turns.{Reading, brought_by, fails_in, last_written, turned, enough}
use Rattle.lines.specs.Lines.{longest_lines}
use Rattle.replay.specs.Log.{log_form, printed, printed_with, log_program}
use Rattle.replay.proofs.Log as replay
use Rattle.replay.proofs.Log.{next_ready, lines_fit}
use Rattle.replay.proofs.Samples.{sample_log, sample_text, start, sample_printed}
use Rattle.stream.proofs.Says as says
use Rattle.lukasembo.specs.Packed.{packed_read, packed_written}
use Rattle.gatherings.proofs.Rounds.{carried-short, written_so_many}
use Rattle.promises.specs.Before.{chunk_number}
use Rattle.promises.specs.Says.{Sendable, OfAnother, count_for, Alike, SameSlot, SameToAll, FieldsRead, with_bits, Begins, order_lines, ReadParts, WriteParts}
use Rattle.promises.proofs.Fields as fields

-- ---- layouts: reserved bits, extensions, stuffing, the minor edition and what is inside an unknown ensemble are disregarded; the listing's length

module _ {xs : List ℕ} {k : Kind} {m : ℕ} {l : FicList} where
  -- the meaning stands twice, as the standard's layout and as document 01's checks with what is read; the two agree
  pub layout_accepted : Carries xs k m l → Accepts xs k m l
  layout_accepted = carried-accepted

  pub accepted_layout : Bytes xs → Accepts xs k m l → Carries xs k m l
  accepted_layout = accepted-carried

  module _ {ys : List ℕ} {n : ℕ} where
    pub dress_ignored : Carries xs k m l → Carries ys k n l → (before : List ℕ) → read_buffer xs before ≡ read_buffer ys before
    dress_ignored = dress_disregarded

  -- what a chunk carries fits the tables, and a chunk of the oldest edition has room for it
  pub carried-fits : Carries xs k m l → Fits l × (plain_length l ≤ longest_chunk)
  carried-fits h = (carried_fitting h, carried-short h)

-- what is inside an unknown ensemble is no part of the list: of two rows with one id and one version that is not 0, all else may differ
pub inside_ignored : (x y : EnsembleRow) → (x.version ≡ 0 → ⊥) → x.id ≡ y.id → x.version ≡ y.version → ensemble_of x ≡ ensemble_of y
inside_ignored = inside_disregarded

-- the layout is not empty: document 01's first sample carries its list, and that with an ensemble of version 1 carries one with this listing
pub some_chunk : Carries first_chunk This 0 first_list
some_chunk = first_carried

pub some_unknown : Carries unknown_chunk This 0 unknown_list × (listing unknown_list ≡ unknown_listing)
some_unknown = unknown-carried

-- ---- where a chunk ran out: what number 9 tells

-- a chunk is its things, laid end to end, and its stuffing
pub chunk_is_things : (c : Chunk) → Formed c → wire c ≡ flat_map thing_bytes (things c) ++ c.stuffing
chunk_is_things = wire_things

module _ {xs : List ℕ} {p : Part} {at : ℕ} where
  -- the chunk is the beginning of one that the tables lay out, which has at the offset a thing of this part; all before it is there, and it is not
  pub nine_is_where_it_ends : Bytes xs → (before : List ℕ) → read_answer xs before ≡ Err (EndsEarly p at) → EndsIn xs p at
  nine_is_where_it_ends = answer_ends

  -- every such chunk is told so; and there is one such thing only
  pub where_it_ends_is_nine : EndsIn xs p at → length xs ≤ longest_chunk → (before : List ℕ) → longest_listing ≤ length before → read_answer xs before ≡ Err (EndsEarly p at)
  where_it_ends_is_nine = ends_answer

  pub one_end : {q : Part} {i : ℕ} → EndsIn xs p at → EndsIn xs q i → length xs ≤ longest_chunk → (p ≡ q) × (at ≡ i)
  one_end = ends_once

-- of a segment: the chunk that it completes ends so
module _ (d : Desk) (xs first second : List ℕ) where
  pub segment_nine : Bytes d.bytes → Bytes xs → (p : Part) (at : ℕ) → (segment_after d xs first second).answer ≡ Err (EndsEarly p at) → EndsIn (chunk_in (slot_holding d xs)) p at
  segment_nine = refusal_ends d xs first second

  -- the offset is at most the chunk's length, here and of the reader; no other number tells one
  pub segment-offset : (f : Refusal) → (segment_after d xs first second).answer ≡ Err f → offset_of f ≤ length (chunk_in (slot_holding d xs))
  segment-offset = refusal_within d xs first second

pub reader-offset : (xs before : List ℕ) (f : Refusal) → read_answer xs before ≡ Err f → offset_of f ≤ length xs
reader-offset = answer-within

pub only_nine : (f : Refusal) → (number_of f ≡ 9 → ⊥) → offset_of f ≡ 0
only_nine = no_offset

-- document 01's 11 bytes end in their service, at 9; and which chunks get 9, or any number, has not changed
pub some_end : EndsIn cut_chunk SingleService 9
some_end = cut_ends

pub numbers_as_before : (xs : List ℕ) → checked_number (checks xs) ≡ chunk_number xs
numbers_as_before = fields.chunk-numbered

-- ---- how long a listing is

-- a listing's length, from the numbers of its known ensembles, of its unknown ones, and of its services
module _ (l : FicList) where
  abbrev es : List Ensemble
  es = l.ensembles

  pub listing-length : length (listing l) ≡ ts_bytes + en_bytes * known_count es + eu_bytes * unknown_count es + sv_bytes * length (services_of l)
  listing-length = length-listing l

-- 1,475 bytes are enough for every accepted chunk, and are reached
pub longest_is_enough : (xs : List ℕ) → checks xs ≡ Ok tt → length (listing (list_in xs)) ≤ longest_listing
longest_is_enough = listing-fits

pub longest_is_reached : (xs : List ℕ) × (checks xs ≡ Ok tt) × (length (listing (list_in xs)) ≡ longest_listing)
longest_is_reached = longest_reached

-- ---- segments: what is read of one are its fields; its reserved bit and its wake_up_indicator never matter

pub fields_read : (h : Head) (payload : List ℕ) → Held (head_fields h) → Bytes payload → FieldsRead h payload (segment h payload)
fields_read = fields.fields_read

-- document 01's samples: 72 00 is 3, 33 00 is 4, 36 00 is 5, 32 10 is 6; and which of two faults is told
pub segment_samples : map given samples ≡ samples
segment_samples = samples_hold

-- the numbers of the checks on a segment by itself, 0 where they pass
pub segment-check-numbers : (xs : List ℕ) → T (among (0 ∷ 2 ∷ 3 ∷ 4 ∷ 5 ∷ 6 ∷ []) (checked_number (segment_checks xs)))
segment-check-numbers = check-numbers

module _ (h : Head) (payload : List ℕ) (held : Held (head_fields h)) (bytes : Bytes payload) where
  pub reserved-bits_ignored : (reserved wake : ℕ) → reserved < 2 → wake < 2 → SameToAll (segment (with_bits h reserved wake) payload) (segment h payload)
  reserved-bits_ignored reserved wake r w = fields.bits_ignored h reserved wake payload held r w bytes

-- ---- the desk: well formed, and made so

pub fresh_is_well_formed : well_formed fresh ≡ true
fresh_is_well_formed = fresh-fits

pub others_made_fresh : (d : Desk) → well_formed d ≡ false → (new_gathering d ≡ fresh) × (new_frame d ≡ fresh)
others_made_fresh d w = (gathering_bad d w, frame_bad d w)

-- of k places, all are held exactly if k are counted: then none is missing
pub none_missing_all_held : (held k : ℕ) → held < 2 ^ k → ones held ≡ k → (i : ℕ) → i < k → holds held i ≡ true
none_missing_all_held = complete_full

pub all_held_none_missing : (held k : ℕ) → held < 2 ^ k → ((i : ℕ) → i < k → holds held i ≡ true) → ones held ≡ k
all_held_none_missing = full_complete

-- ---- the desk: a repeat changes nothing and answers what is missing; a spoiled slot refuses with 7, and stays spoiled

module _ (d : Desk) (xs first second : List ℕ) where
  abbrev r : After
  r = segment_after d xs first second

  -- the slot of the segment's kind
  abbrev slot : Slot
  slot = (slot_before d xs).slot

  module _ (called : call_checks d xs first second ≡ Ok tt) where
    pub repeat_changes_nothing : clashes d xs ≡ false → holds slot.held (number_in xs) ≡ true → r ≡ after (Ok (Missing (missing_in slot))) d first second
    repeat_changes_nothing = repeat-unchanged d xs first second called

    pub spoiled_stays : slot.spoiled ≡ true → (r.answer ≡ Err Clash) × (slot_for (segment_kind xs) r.desk.notes ≡ spoiled_slot)
    spoiled_stays = spoiled_refused d xs first second called

  -- ---- the desk: kinds apart

  -- the lent buffers keep their lengths
  pub buffers_keep_lengths : (length r.first ≡ length first) × (length r.second ≡ length second)
  buffers_keep_lengths = same_lengths d xs first second

  -- a segment of one kind does not change what is shown of the other: so a segment for the next frame nothing of this one
  pub other-kind-shown : let j = other_kind (segment_kind xs) in shown j r.desk r.first r.second ≡ shown j d first second
  other-kind-shown = other-shown d xs first second

  pub next_waits : segment_kind xs ≡ Next → shown This r.desk r.first r.second ≡ shown This d first second
  next_waits = next_hidden d xs first second

-- two well formed desks that agree on the slot of the segment's kind give the same answer and the same slot, whatever else they have and
-- whatever stands in the buffers
module _ {d e : Desk} {xs first second third fourth : List ℕ} where
  pub nothing_else_enters : Alike d e xs first second third fourth → SameSlot xs (segment_after d xs first second) (segment_after e xs third fourth)
  nothing_else_enters = fields.alike_same

-- ---- the desk: frames. Never before the boundary, never for a second frame

module _ (d : Desk) (first second : List ℕ) where
  -- after a new frame this frame shows what the next one showed, byte for byte, and the next shows nothing
  pub turn_at_the_boundary : shown This (new_frame d) first second ≡ shown Next d first second
  turn_at_the_boundary = frame-shows d first second

  pub next_is_empty : shown Next (new_frame d) first second ≡ []
  next_is_empty = frame_next d first second

  pub gathering_keeps_listings : (k : Kind) → shown k (new_gathering d) first second ≡ shown k d first second
  gathering_keeps_listings k = gathering-shows k d first second

-- a list applies to one frame: after another new frame nothing is shown, whatever was called in between, if that completed no list of kind next
module _ (s : State) (calls : List Call) (inside : Each InFrame calls) where
  abbrev run : Ran
  run = ran (next_frame s) calls

  pub one_frame_only : Each (Lacks Next) (answers_of run.told) → shown_in This (next_frame run.left) ≡ []
  one_frame_only = frame_only s calls inside

-- and it is the same part of the caller's memory
module _ {A : Type 0} (d : Desk) (formed : well_formed d ≡ true) (x y : A) where
  pub same_memory : lent_for This (new_frame d).notes.swapped x y ≡ lent_for Next d.notes.swapped x y
  same_memory = frame-place d formed x y

-- what is shown has just the length that `shownLength` says: 0 exactly if there is no listing, or a buffer is too short, or the desk is not well
-- formed
pub shown-length : (k : Kind) (d : Desk) (first second : List ℕ) → length (shown k d first second) ≡ shown_length k d first second
shown-length = length-shown

-- ---- the writer: the well formed listings are the listings of the lists whose fields fit and whose ensembles are all known

pub well_formed-said : (xs : List ℕ) → Bytes xs → listing_fits xs ≡ true → Fits (list_said xs) × AllKnown (list_said xs) × (listing (list_said xs) ≡ xs)
well_formed-said xs b f = (said_fitting xs b f, said-known xs, listing-said xs b f)

pub fitting_well_formed : (l : FicList) → Fits l → AllKnown l → Bytes (listing l) × (listing_fits (listing l) ≡ true) × (list_said (listing l) ≡ l)
fitting_well_formed l f k = let formed = listing_fitting l f k in (bytes-listing l f, formed, said-listing l f formed)

-- one with an unknown ensemble is refused with 13
module _ (l : FicList) (fits : Fits l) (unknown : AllKnown l → ⊥) where
  pub unknown_not_written : (k : Kind) (output : List ℕ) → shortest_output ≤ length output → write_answer (listing l) k output ≡ Err BadListing
  unknown_not_written = fields.unknown_refused l fits unknown

-- and so is one with a service of another ensemble than that of the `EN` above it
module _ (xs : List ℕ) (o : OfAnother xs) where
  pub other_not_written : (k : Kind) (output : List ℕ) → shortest_output ≤ length output → write_answer xs k output ≡ Err BadListing
  other_not_written = fields.other_refused xs o

-- and any listing, also one with unknown ensembles, is of one list only
pub one_list_only : (l m : FicList) → Fits l → Fits m → listing l ≡ listing m → l ≡ m
one_list_only = listing-once

-- as few segments as hold the chunk, which has `plainLength` bytes: so many do, and no smaller number does
pub chunk-length : (k : Kind) (l : FicList) → Fits l → length (wire (plain k l)) ≡ plain_length l
chunk-length = length-plain

pub fewest : (n : ℕ) → (n ≤ payload_bytes * segment_count n) × ((m : ℕ) → n ≤ payload_bytes * m → segment_count n ≤ m)
fewest n = (segments_hold n, segments_fewest n)

pub written : (xs : List ℕ) (k : Kind) (output : List ℕ) → Sendable xs → shortest_output ≤ length output → write_answer xs k output ≡ Ok (count_for xs)
written xs k output w space = written_so_many xs k output w.bytes w.fits w.room space

-- through the two programs: the log of the writer's segments prints as the answers and the listing, and the digits that the log prints say the
-- listing again when they are typed to the program `write`
module _ (xs : List ℕ) (k : Kind) (w : Sendable xs) (s : State) (b : Begins s) where
  pub log_after_write : printed s (log_of (plain_segments k (list_said xs))) ≡ order_lines k xs (count_for xs) ++ text "END 0\n"
  log_after_write = fields.log_after_write xs k w s b

pub digits_typed_lem : (xs : List ℕ) → Bytes xs → (hex_fits (length xs) (hex xs) ≡ true) × (hex_said (length xs) (hex xs) ≡ xs)
digits_typed_lem = hex_typed

-- what is typed to `write`: two results can't both meet what is said of the answer; a log has room in 624 bytes
module _ {a b : Result ℕ Unanswered} {p q : List ℕ} where
  pub one_reply : {typed before : List ℕ} → ReplySays typed before a p → ReplySays typed before b q → (a ≡ b) × (p ≡ q)
  one_reply s t = (s.answers ∙ sym t.answers, s.leaves ∙ sym t.leaves)

-- an answerable text (there is room, it is not too long, and it is clear) is answered as the writer answers its listing; any other has no log and
-- no number
module _ (typed log : List ℕ) where
  abbrev values : ReplyValues
  values = reply_values (reply_to typed log)

  abbrev told : Result ℕ Unwritten
  told = answer_for (kind_typed typed) (listing_typed typed)

  module _ (asked : Answerable typed log) where
    pub reply_written : {n : ℕ} → told ≡ Ok n → values ≡ record { log = true; number = 0; length = (mark_bytes + segment_bytes) * n }
    reply_written = values_written typed log asked

    pub reply_refused : {f : Unwritten} → told ≡ Err f → values ≡ record { log = false; number = unwritten_number f; length = 0 }
    reply_refused = values_refused typed log asked

  pub reply_without : (Answerable typed log → ⊥) → values ≡ record { log = false; number = 0; length = 0 }
  reply_without = values_unasked typed log

pub log_has_room : (typed log : List ℕ) → (reply_values (reply_to typed log)).length ≤ longest_log
log_has_room = log-short

-- for programs in C the answer is one number, and the header's functions get its parts back
pub parts_of_a_reading : (xs buffer : List ℕ) → ReadParts xs buffer (packed_read (read_answer xs buffer))
parts_of_a_reading = fields.read_parts

pub parts_of_a_writing : (xs : List ℕ) (k : Kind) (output : List ℕ) → WriteParts xs k output (packed_written (write_answer xs k output))
parts_of_a_writing = fields.write_parts

-- ---- the log. `printed s log` is the whole transcript of a log from the state s: a desk and two buffers. The library's `fill` gives, of one block
-- of a log, as much as the output takes (`filled`), and `put_last` the last line. The program moves bytes between these and its descriptors.

-- document 01's sample log prints document 01's six lines
pub sample_log_lem : printed start sample_log ≡ sample_text
sample_log_lem = sample_printed

-- the number of records that the definition allows is no limit
pub any_length : (n m : ℕ) (log : List ℕ) → length log < n → length log < m → file_up_to n log_form log ≡ file_up_to m log_form log
any_length = file_any log_form

-- a log goes on by its records: a whole one is called and its lines come, then the transcript of the rest; else the last line, and nothing more is
-- read
module _ (s : State) (log : List ℕ) where
  abbrev entry : Entry
  entry = entry_in log_form log

  pub record_by_record : is_whole entry ≡ true → printed s log ≡ text_in log_program s log ++ printed (next_in log_program s log) (drop (size_of entry) log)
  record_by_record = fields.printed_record s log

  pub last_line_lem : is_whole entry ≡ false → printed s log ≡ last_line entry
  last_line_lem = fields.printed_last s log

-- where a log is cut into blocks does not matter: what a block gives comes first in the transcript of the whole log, whatever follows the block,
-- and the rest is the transcript of what is unread
module _ (room : ℕ) (s : State) (block : List ℕ) where
  abbrev filling : Filled State
  filling = filled log_program room s block

  abbrev unread : List ℕ
  unread = drop filling.read block

  pub block_is_a_part : (rest : List ℕ) → printed s (block ++ rest) ≡ filling.text ++ printed filling.state (unread ++ rest)
  block_is_a_part = fields.filled-printed room s block

  -- a block is left only where no whole record stands, or where the output is full
  pub stops_for_a_reason : (is_whole (entry_in log_form unread) ≡ false) ⊎ (room - length filling.text < longest_lines)
  stops_for_a_reason = fields.filled_stops room s block

  pub within_the_output : length filling.text ≤ room
  within_the_output = filled_room log_program lines_fit room s block

  -- the desk stays well formed and the buffers long enough
  pub stays_ready : Ready s → Ready filling.state
  stays_ready = filled_keeps log_program Ready next_ready room s block

-- a record that is whole in the block is the same record with more behind it
pub whole_stays_whole : (block rest : List ℕ) → is_whole (entry_in log_form block) ≡ true → entry_in log_form (block ++ rest) ≡ entry_in log_form block
whole_stays_whole block rest w = entry_more log_form block rest (inl w)

-- and of the program's loop: turn after turn, whatever its reads bring and however they cut the log, what is written is the whole transcript. A turn
-- is what `blocks::turn` says of `Replay` (`TurnSays`, by `turn_says` below), the reads' bytes are those up to the first read that brings nothing or fails
module _ (room : ℕ) (s : State) (xs : List ℕ) (reads : List Reading) (n : ℕ) (space : longest_lines ≤ room) (turns : enough xs reads ≤ n) where
  pub any_reads : fails_in reads ≡ false → turned log_program room n s xs reads ≡ printed s (xs ++ brought_by reads)
  any_reads = fields.turned-printed room s xs reads n false space turns

  -- where a read fails, it is the lines of the records that came, and no last line but that of an unknown mark, behind which nothing is read
  pub failed-read : fails_in reads ≡ true → turned log_program room n s xs reads ≡ printed_with (last_written true last_line) s (xs ++ brought_by reads)
  failed-read = fields.turned-printed room s xs reads n true space turns

-- these are what the code's turns say: a record takes the room of its lines and no more, so what `programs::fill`, `blocks::turn`, `finish` and `run` say of
-- `Replay`, a program that reports nothing, is what `log_program` gives of a block, a turn of it, and how its run ends

pub lines_cost : (s : State) (r : Record) → log_program.cost s r ≡ length (log_program.text s r)
lines_cost = replay.lines_cost

module _ {s t : State} {old out out' report report' : List ℕ} {wrote told : ℕ} where
  pub fill_says : {read : ℕ} → Fills (alone log_program) s old out report t read out' wrote report' told → let f = filled log_program (length out) s old in (t ≡ f.state) × (read ≡ f.read) × Put f.text out 0 out' wrote
  fill_says = replay.log_fills

  pub turn_says : {at have : ℕ} {new : List ℕ} {u : Unread} → BothSay (alone log_program) s old at have out report t new out' wrote report' told u → TurnSays log_form (filled log_program (length out) s (Blocks·unread old at have)) old at have out t new out' wrote u
  turn_says = says.turn_says

pub finish_settles : (step : Step) (s : State) (e : Entry) (out report : List ℕ) (r : Ending) → Concludes step e r → LastSaid (alone log_program) s e out report → Settles step e out r
finish_settles = says.finish_settles

pub run_ends : (r : Ending) (turns : ℕ) (block : List ℕ) (at have : ℕ) (out report : List ℕ) → RunSays (alone log_program) r turns (entry_in log_form (Blocks·unread block at have)) out report → Ends r turns (entry_in log_form (Blocks·unread block at have)) out
run_ends = says.run_ends

-- What is promised of an explanation, each statement proved by citing its lemma. What a reader must believe is this page, the contracts that src/lib.rt repeats, and the
-- definitions that both cite.
use mathlib.Core.Path.{◌≡◌, refl}
use mathlib.Core.Bool.{true, false, cond}
use mathlib.Core.List.{List, [], ◌∷◌, ◌++◌, map}
use mathlib.Core.Logic.{◌⊎◌}
use Prim.Native.Nat.{ℕ, ◌≤◌, ◌<◌}
use lib.Dec.{eqb}
use lib.ListN.{length, take}
use Rattle.std.proofs.Common.{Ok, Err, Some}
use Rattle.octets.specs.Bits.{laid, Bytes}
use Rattle.octets.specs.Checks.{check}
use Rattle.octets.specs.Tables.{Row, widths, filled, Shaped, before, number_at}
use Rattle.octets.proofs.Tables as tables
use Rattle.meaning.specs.declared.Part.{Part}
use Rattle.meaning.specs.declared.Refusal.{Refusal}
use Rattle.meaning.specs.declared.Refusal.TheVariants.{Clash, EndsEarly}
use Rattle.meaning.specs.Checks.{and_then}
use Rattle.meaning.specs.Numbers.{checked_number, read_values}
use Rattle.meaning.specs.Reading.{checks, read_answer}
use Rattle.meaning.specs.Sizes.{longest_chunk, longest_listing}
use Rattle.segments.specs.Segment.{segment_bytes, segment_kind, segment_checks}
use Rattle.slots.specs.declared.Slot.{Slot}
use Rattle.slots.specs.Slots.{slot_fits}
use Rattle.slots.specs.Gathering.{answer_values, chunk_in}
use Rattle.notes.specs.Notes.{slot_for}
use Rattle.desk.specs.declared.Desk.{Desk}
use Rattle.desk.specs.Desks.{bytes_for, call_checks}
use Rattle.desk.specs.Calls.{State, state, answer_to, Ready}
use Rattle.effects.specs.Effects.{slot_before, slot_holding, clashes, completing}
use Rattle.text.specs.Text.{text, Put}
use Rattle.records.specs.declared.Entry.{Entry}
use Rattle.records.specs.Records.{Record, entry_in}
use Rattle.records.specs.Transcripts.{filled as Transcripts·filled, printed_with}
use Rattle.records.specs.Channels.{Fills}
use Rattle.programs.specs.Programs.{alone}
use Rattle.manners.specs.declared.Ending.{Ending}
use Rattle.blocks.specs.declared.Step.{Step}
use Rattle.blocks.specs.declared.Unread.{Unread}
use Rattle.blocks.specs.Blocks.{unread, TurnSays, Concludes, Settles, Ends}
use Rattle.blocks.specs.Channels.{BothSay, LastSaid, RunSays}
use Rattle.blocks.specs.Turns.{Reading, brought_by, fails_in, last_written, turned, enough}
use Rattle.fields.specs.declared.Table.TheVariants.{Chunk, Segment}
use Rattle.field_names.specs.Names.{name_of}
use Rattle.explains.specs.declared.Field.TheVariants.{Length, Payload}
use Rattle.explains.specs.declared.Field.TheVariants.{Row as row}
use Rattle.explains.specs.declared.Explained.TheVariants.{Found, Spoiled}
use Rattle.explains.specs.Explaining.{explained_values, table_of, segment_row, chunk_explained, segment_explained, gathered_explained}
use Rattle.explains.specs.Breaks.{RowBroken, PassesBefore, LastDiffers, PayloadDiffers, NotWhole}
use Rattle.explains.proofs.Chunks as chunks
use Rattle.explains.proofs.Segments as segments
use Rattle.explains.proofs.Clashes as clash
use Rattle.lukasembo.specs.Explains.{Told}
use Rattle.lukasembo.proofs.Explains as packed
use Rattle.explaining.specs.Explained.{explain_form, under_segment, longest_text, explain_program}
use Rattle.explaining.proofs.Laws as explaining
use Rattle.explaining.proofs.Under as under
use Rattle.explain_stream.proofs.Written as written
use Rattle.explain_stream.proofs.Says as says
use Rattle.explain_promises.proofs.Exactly as exactly

-- ---- the tables: the running sum of the widths is where a row begins, whatever the table and whatever values it has

pub row-begins : (n i : ℕ) (rows : List Row) (values : List (List ℕ)) → Shaped n rows values → length (laid (filled (take i rows) (take i values))) ≡ before i (widths n rows)
row-begins = tables.before_laid

-- the fields that 3 to 7 are about, and 5 of a chunk, by their names
pub segment_named : map (λ (n : ℕ). name_of Segment (segment_row n)) (3 ∷ 4 ∷ 5 ∷ 6 ∷ 7 ∷ []) ≡ (text "FIC_segment_type" ∷ text "error_indicator" ∷ text "FIC_chunk_major_protocol_version" ∷ text "FIC_segment_num" ∷ text "FIC_last_segment_num" ∷ [])
segment_named = refl

pub chunk_named : name_of Chunk 0 ≡ text "FIC_chunk_major_protocol_version"
chunk_named = refl

-- ---- a chunk

module _ (xs : List ℕ) where
  -- it speaks exactly when the reader would refuse, and with that number
  pub chunk_exactly : (buffer : List ℕ) → longest_listing ≤ length buffer → (explained_values (chunk_explained xs)).number ≡ (read_values (read_answer xs buffer)).number
  chunk_exactly = exactly.chunk_exactly xs

  -- 8: the length is over 560; it is the first check
  pub too_long : (explained_values (chunk_explained xs)).number ≡ 8 → (chunk_explained xs ≡ Some (Found 8 Length 0 (length xs))) × (longest_chunk < length xs)
  too_long = chunks.too_long xs

  -- 5: the number in the first two bits is not 0; the chunk is neither too long nor too short for them
  pub major_broken : Bytes xs → (explained_values (chunk_explained xs)).number ≡ 5 → (chunk_explained xs ≡ Some (Found 5 (row Chunk 0) 0 (number_at xs 0 2))) × (number_at xs 0 2 ≡ 0 → ⊥) × (2 ≤ length xs) × (length xs ≤ longest_chunk)
  major_broken = chunks.major_broken xs

-- 9: the first field that is not whole, which lies in the part that the reader's offset tells; no check before it fails
pub not_whole : {xs : List ℕ} {part : Part} {start : ℕ} → Bytes xs → checks xs ≡ Err (EndsEarly part start) → (i : ℕ) × (at : ℕ) × (chunk_explained xs ≡ Some (Found 9 (row (table_of part) i) at (length xs))) × NotWhole xs part start i at
not_whole = chunks.not_whole

-- ---- a segment

module _ (xs : List ℕ) where
  -- it speaks exactly when the segment call would refuse the segment's own length or header, the buffers long enough and the desk in order
  pub segment_exactly : (d : Desk) (first second : List ℕ) → Ready (state d first second) → (explained_values (segment_explained xs)).number ≡ checked_number (call_checks d xs first second)
  segment_exactly d first second = exactly.segment_exactly d xs first second

  -- 2: the length is not 37
  pub length_broken : (explained_values (segment_explained xs)).number ≡ 2 → (segment_explained xs ≡ Some (Found 2 Length 0 (length xs))) × (length xs ≡ segment_bytes → ⊥)
  length_broken = segments.length_broken xs

  -- 3 to 6: the value is the number in the row's bits, and not what the rule wants
  pub row_broken : {n i at value : ℕ} → Bytes xs → segment_explained xs ≡ Some (Found n (row Segment i) at value) → RowBroken xs n i at value
  row_broken = segments.row_broken xs

  -- every check before it passes
  pub passes_before : PassesBefore (explained_values (segment_explained xs)).number xs
  passes_before = segments.passes_before xs

-- ---- a segment and the slot of its kind

-- it speaks exactly when the call would refuse the segment itself, or its slot would
pub gathered_exactly : (d : Desk) (xs first second : List ℕ) → Ready (state d first second) → (explained_values (gathered_explained (slot_before d xs).slot (slot_before d xs).bytes xs)).number ≡ checked_number (and_then (call_checks d xs first second) (check (clashes d xs) (Err Clash) (Ok tt)))
gathered_exactly = exactly.gathered_exactly

module _ (s : Slot) (bytes xs : List ℕ) where
  -- 7: the slot was spoiled; or the last number is not the slot's; or, of a well formed slot, a byte of the payload is not the one that it holds
  pub spoiled_before : gathered_explained s bytes xs ≡ Some Spoiled → s.spoiled ≡ true
  spoiled_before = clash.spoiled_before s bytes xs

  pub last_differs : {i at value : ℕ} → Bytes xs → gathered_explained s bytes xs ≡ Some (Found 7 (row Segment i) at value) → LastDiffers s xs i at value
  last_differs = clash.last_differs s bytes xs

  pub payload_differs : {at value : ℕ} → Bytes xs → slot_fits s bytes ≡ true → gathered_explained s bytes xs ≡ Some (Found 7 Payload at value) → PayloadDiffers s bytes xs at value
  payload_differs = clash.payload_differs s bytes xs

  -- every check before it passes
  pub clash-passes_before : PassesBefore (explained_values (gathered_explained s bytes xs)).number xs
  clash-passes_before = clash.clash-passes_before s bytes xs

-- ---- for programs in C: the number, the field and the offset are told in bits of their own

pub chunk_told : (xs : List ℕ) → Told (chunk_explained xs)
chunk_told = packed.chunk_told

pub segment_told : (xs : List ℕ) → Told (segment_explained xs)
segment_told = packed.segment_told

pub gathered_told : (s : Slot) (bytes xs : List ℕ) → Told (gathered_explained s bytes xs)
gathered_told = packed.gathered_told

-- ---- the program

module _ (s : State) (xs : List ℕ) where
  -- under the line of a segment its refusal's number is explained, all but 10
  pub under_number : Ready s → (explained_values (under_segment s xs)).number ≡ cond (eqb (answer_values (answer_to s xs).answer).number 10) 0 (answer_values (answer_to s xs).answer).number
  under_number = under.under_number s xs

  -- by the segment and the slot of its kind as it was; or by the chunk that it completes
  pub under_own : {f : Refusal} → Ready s → (answer_to s xs).answer ≡ Err f → (completing s.desk xs ≡ false) ⊎ (clashes s.desk xs ≡ true) ⊎ ((segment_checks xs ≡ Ok tt) → ⊥) → under_segment s xs ≡ gathered_explained (slot_for (segment_kind xs) s.desk.notes) (bytes_for (segment_kind xs) s.desk) xs
  under_own = under.under_own s xs

  pub under_held : {f : Refusal} → Ready s → segment_checks xs ≡ Ok tt → clashes s.desk xs ≡ false → (answer_to s xs).answer ≡ Err f → under_segment s xs ≡ chunk_explained (chunk_in (slot_holding s.desk xs))
  under_held = under.under_held s xs

-- what all turns write is what it prints for the file, whatever the reads bring
pub lines_written : (room : ℕ) (s : State) (xs : List ℕ) (reads : List Reading) (turns : ℕ) → longest_text ≤ room → enough xs reads ≤ turns → turned explain_program room turns s xs reads ≡ printed_with (λ t. last_written (fails_in reads) (explain_program.last t)) explain_program s (xs ++ brought_by reads)
lines_written = written.lines_written

-- and it is what the code's turns say: a record takes the room of its lines and no more, so what `programs::fill`, `blocks::turn`, `finish` and `run` say
-- of `Explain`, a program that reports nothing, is what `explain_program` gives of a block, a turn of it, and how its run ends

pub lines_cost : (s : State) (r : Record) → explain_program.cost s r ≡ length (explain_program.text s r)
lines_cost = explaining.lines_cost

module _ {s t : State} {old out out' report report' : List ℕ} {wrote told : ℕ} where
  pub fill_says : {read : ℕ} → Fills (alone explain_program) s old out report t read out' wrote report' told → let f = Transcripts·filled explain_program (length out) s old in (t ≡ f.state) × (read ≡ f.read) × Put f.text out 0 out' wrote
  fill_says = explaining.explain_fills

  pub turn_says : {at have : ℕ} {new : List ℕ} {u : Unread} → BothSay (alone explain_program) s old at have out report t new out' wrote report' told u → TurnSays explain_form (Transcripts·filled explain_program (length out) s (unread old at have)) old at have out t new out' wrote u
  turn_says = says.turn_says

pub finish_settles : (step : Step) (s : State) (e : Entry) (out report : List ℕ) (r : Ending) → Concludes step e r → LastSaid (alone explain_program) s e out report → Settles step e out r
finish_settles = says.finish_settles

pub run_ends : (r : Ending) (turns : ℕ) (block : List ℕ) (at have : ℕ) (out report : List ℕ) → RunSays (alone explain_program) r turns (entry_in explain_form (unread block at have)) out report → Ends r turns (entry_in explain_form (unread block at have)) out
run_ends = says.run_ends

-- The lemmas that the pages cite, with their parts under the names of Says.antt. Assumes nothing.
use mathlib.Core.Path.{◌≡◌, refl, sym, ap, subst, ◌∙◌}
use mathlib.Core.Bool.{Bool, true, false}
use mathlib.Core.List.{List, ◌++◌, map}
use mathlib.Core.Logic.{◌⊎◌}
use Prim.Native.Nat.{ℕ, zero, suc, ◌-◌, ◌≤◌, ◌<◌}
use lib.ListN.{length, drop}
use Rattle.std.proofs.Common.{Result, Ok, Err}
use Rattle.octets.specs.Bits.{Bytes, Held}
use Rattle.octets.specs.Checks.{check}
use Rattle.octets.specs.Each.{Each}
use Rattle.octets.proofs.Laws.{either}
use Rattle.text.specs.Text.{text}
use Rattle.meaning.specs.declared.Kind.{Kind}
use Rattle.meaning.specs.declared.Refusal.{Refusal}
use Rattle.meaning.specs.Sizes.{longest_listing}
use Rattle.meaning.specs.Numbers.{checked_number}
use Rattle.meaning.specs.Lists.{FicList, AllKnown}
use Rattle.meaning.specs.Layout.{Carries}
use Rattle.meaning.specs.Listing.{listing}
use Rattle.meaning.specs.Said.{listing_fits, list_said}
use Rattle.meaning.specs.Plain.{Fits, Oldest, VersionsZero}
use Rattle.meaning.specs.Reading.{ensembles_checks, checks, read_checks, read_answer, ReadSays, listed}
use Rattle.meaning.proofs.Answers as reading
use Rattle.meaning.proofs.Said.{other_unfit, fitting_known}
use Rattle.segments.specs.Segment.{Head, head_fields, segment}
use Rattle.segments.specs.Cut.{segment_count, Choice, Suits, piece_of}
use Rattle.segments.proofs.Heads.{head_read}
use Rattle.std.proofs.Common.{Result, Ok, Err}
use Rattle.writer.specs.declared.Unwritten.{Unwritten}
use Rattle.writer.specs.declared.Unwritten.TheVariants.{BadListing}
use Rattle.writer.specs.Writing.{shortest_output, plain_segments, write_checks, write_answer, write_output}
use Rattle.writer.proofs.Answers as writing
use Rattle.typed.specs.Typed.{log_of}
use Rattle.lukasembo.specs.Packed.{packed_read, packed_written}
use Rattle.lukasembo.proofs.Laws as packed
use Rattle.desk.specs.declared.Desk.{Desk}
use Rattle.desk.specs.Desks.{segment_after}
use Rattle.desk.specs.Calls.{State, wholly, Ready, ran}
use Rattle.effects.proofs.Apart.{own_only}
use Rattle.effects.proofs.Reserved.{reserved_ignored}
use Rattle.gatherings.proofs.Rounds as rounds
use Rattle.gatherings.proofs.Majors as majors
use Rattle.gatherings.proofs.Printed.{written_printed}
use Rattle.records.specs.Records.{entry_in, is_whole, size_of, last_line}
use Rattle.records.specs.Transcripts.{printed as Transcripts·printed, Filled, filled, next_in, text_in}
use Rattle.records.proofs.Transcripts as programs
use Rattle.blocks.specs.Turns.{Reading, brought_by, fails_in, last_written, turned, enough}
use Rattle.blocks.proofs.Turns as turns
use Rattle.lines.specs.Lines.{longest_lines}
use Rattle.replay.specs.Log.{log_form, printed, printed_with, log_program}
use Rattle.replay.proofs.Log.{printed_program}
use Rattle.promises.specs.Before.{ensembles_number, chunk_number}
use Rattle.promises.specs.Says.{ReadRefused, ReadList, ChunkListed, WriteRefused, WriteAnswered, Sendable, OfAnother, count_for, Alike, SameSlot, SameToAll, FieldsRead, with_bits, Begins, ReadBack, ReadWhole, WrittenBack, OtherMajorChunk, AllRefused, order_lines, ReadParts, WriteParts}

-- ---- the reader and the writer

pub read_refused : (xs before : List ℕ) {f : Refusal} → read_checks xs before ≡ Err f → ReadRefused xs before f
read_refused xs before e = let h = reading.refusal_values xs before e in record { number = h.0; values = h.1; buffer = h.2 }

pub chunk_read : {xs : List ℕ} {k : Kind} {m : ℕ} {l : FicList} → Carries xs k m l → (before : List ℕ) → longest_listing ≤ length before → ReadList xs before k m l
chunk_read c before long = let h = reading.carried-values c before long in record { values = h.0; buffer = h.1 }

pub only_chunks : {xs before left : List ℕ} {k : Kind} {m n : ℕ} → Bytes xs → ReadSays xs before (Ok (listed k m n)) left → ChunkListed xs before k m n left
only_chunks b says = let h = reading.listed_carried b says in record { list = h.0; carried = h.1; size = h.2; buffer = h.3 }

module _ (xs : List ℕ) (k : Kind) (before : List ℕ) where
  pub write_refused : {f : Unwritten} → write_checks xs before ≡ Err f → WriteRefused xs k before f
  write_refused e = let h = writing.refusal_values xs k before e in record { number = h.0; values = h.1; output = h.2 }

  pub write-accepted : write_checks xs before ≡ Ok tt → WriteAnswered xs k before (plain_segments k (list_said xs))
  write-accepted e = let h = writing.written_values_lem xs k before e in record { values = h.0; output = h.1 }

-- no listing with an unknown ensemble is written
pub unknown_refused : (l : FicList) → Fits l → (AllKnown l → ⊥) → (k : Kind) (output : List ℕ) → shortest_output ≤ length output → write_answer (listing l) k output ≡ Err BadListing
unknown_refused l fits unknown k output space =
    either (listing_fits (listing l))
    (λ formed. absurd (unknown (fitting_known l fits formed)))
    (λ bad. writing.answer_bad (listing l) k output space bad)

-- nor one with a service of another ensemble
pub other_refused : (xs : List ℕ) → OfAnother xs → (k : Kind) (output : List ℕ) → shortest_output ≤ length output → write_answer xs k output ≡ Err BadListing
other_refused xs o k output space =
    writing.answer_bad xs k output space
    (ap listing_fits o.said ∙ other_unfit o.stream o.ensembles o.before o.further o.own o.services o.more o.other o.differs o.service o.behind)

-- ---- round trips

module _ (xs : List ℕ) (k : Kind) (output : List ℕ) (w : Sendable xs) (space : shortest_output ≤ length output) where
  pub read_after_write : (s : State) → Begins s → ReadBack xs k (write_output xs k output) s
  read_after_write s b =
      rounds.read_after_write xs k output w.bytes w.fits w.room space s.desk b.start s.first s.second b.first b.second

  pub read_whole : (before : List ℕ) → longest_listing ≤ length before → ReadWhole xs k (write_output xs k output) before
  read_whole = rounds.read_whole_after_write xs k output w.bytes w.fits w.room space

module _ {ys : List ℕ} {k : Kind} {m : ℕ} {l : FicList} (h : Carries ys k m l) (oldest : Oldest h.chunk) (versions : VersionsZero h.chunk) (buffer output : List ℕ) where
  pub write_after_read : longest_listing ≤ length buffer → shortest_output ≤ length output → WrittenBack ys k l h.chunk.stuffing buffer output
  write_after_read long space =
      let r = rounds.write_after_read h oldest versions buffer output long space in record { answer = r.0; bytes = r.1; rest = r.2 }

pub log_after_write : (xs : List ℕ) (k : Kind) → Sendable xs → (s : State) → Begins s → printed s (log_of (plain_segments k (list_said xs))) ≡ order_lines k xs (count_for xs) ++ text "END 0\n"
log_after_write xs k w s b = written_printed xs k w.bytes w.fits w.room s.desk b.start s.first s.second b.first b.second

-- ---- segments

pub fields_read : (h : Head) (payload : List ℕ) → Held (head_fields h) → Bytes payload → FieldsRead h payload (segment h payload)
fields_read h payload held bytes =
    let f = head_read h payload held bytes in
    record {
      sort = f.0;
      major = f.1;
      kind = f.2;
      error = f.3;
      number = f.4;
      last = f.5;
      content = f.6;
      size = f.7;
    }

pub bits_ignored : (h : Head) (reserved wake : ℕ) (payload : List ℕ) → Held (head_fields h) → reserved < 2 → wake < 2 → Bytes payload → SameToAll (segment (with_bits h reserved wake) payload) (segment h payload)
bits_ignored h reserved wake payload held r w bytes d first second = reserved_ignored h reserved wake payload held r w bytes d first second

pub alike_same : {d e : Desk} {xs first second third fourth : List ℕ} → Alike d e xs first second third fourth → SameSlot xs (segment_after d xs first second) (segment_after e xs third fourth)
alike_same {d} {e} {xs} {first} {second} {third} {fourth} a =
    let h = own_only d e xs first second third fourth a.formed.0 a.formed.1 a.slot a.bytes a.lengths.0 a.lengths.1 in
    record { answer = h.0; slot = h.1; bytes = h.2 }

module _ (ys : List ℕ) (o : OtherMajorChunk ys) (c : Choice) (bytes : Bytes ys) (suits : Suits ys c) (s : State) (y : Ready s) where
  pub other_pieces : (numbers : List ℕ) → Each (λ i. i < segment_count (length ys)) numbers → AllRefused numbers s (ran s (map (wholly s) (map (piece_of ys c) numbers)))
  other_pieces numbers h =
      let r = majors.pieces_refused ys c bytes suits o.room o.major s.desk y.0 s.first s.second y.1 y.2 numbers h in
      record { answers = r.0; left = r.1 }

-- ---- the numbers of a chunk are what they were

number-check : (t : Bool) (v w : Result Unit Refusal) → checked_number (check t v w) ≡ check t (checked_number v) (checked_number w)
number-check true v w = refl
number-check false v w = refl

ensembles-numbered : (e s n at : ℕ) (ys : List ℕ) → checked_number (ensembles_checks e s n at ys) ≡ ensembles_number e s n ys
unfolding ensembles_checks ensembles_number
ensembles-numbered e s zero at ys = refl
ensembles-numbered e s (suc n) at ys = simp (number-check, ensembles-numbered e s n) refl

pub chunk-numbered : (xs : List ℕ) → checked_number (checks xs) ≡ chunk_number xs
unfolding checks chunk_number
chunk-numbered xs = simp (number-check, ensembles-numbered) refl

-- ---- for programs in C

pub read_parts : (xs buffer : List ℕ) → ReadParts xs buffer (packed_read (read_answer xs buffer))
read_parts xs buffer = let h = packed.read_parts xs buffer in record { number = h.0; kind = h.1; minor = h.2; length = h.3; at = h.4 }

pub write_parts : (xs : List ℕ) (k : Kind) (output : List ℕ) → WriteParts xs k output (packed_written (write_answer xs k output))
write_parts xs k output = let h = packed.write_parts xs k output in record { number = h.0; count = h.1 }

-- ---- the log's transcript is that of a program over records

module _ (s : State) (log : List ℕ) where
  same : printed s log ≡ Transcripts·printed log_program s log
  same = printed_program last_line s log

  pub printed_record : let e = entry_in log_form log in is_whole e ≡ true → printed s log ≡ text_in log_program s log ++ printed (next_in log_program s log) (drop (size_of e) log)
  printed_record w =
      same
      ∙ programs.printed_record log_program log_program.last s log w
      ∙ ap (λ (t : List ℕ). text_in log_program s log ++ t) (sym (printed_program last_line (next_in log_program s log) (drop (size_of (entry_in log_form log)) log)))

  pub printed_last : is_whole (entry_in log_form log) ≡ false → printed s log ≡ last_line (entry_in log_form log)
  printed_last w = same ∙ programs.printed_last log_program log_program.last s log w

pub filled-printed : (room : ℕ) (s : State) (block rest : List ℕ) → let f = filled log_program room s block in printed s (block ++ rest) ≡ f.text ++ printed f.state (drop f.read block ++ rest)
filled-printed room s block rest =
    let f : Filled State = filled log_program room s block in
    printed_program last_line s (block ++ rest)
    ∙ programs.filled-printed log_program log_program.last room s block rest
    ∙ ap (λ (t : List ℕ). f.text ++ t) (sym (printed_program last_line f.state (drop f.read block ++ rest)))

-- a record takes the room of its lines and no more
pub filled_stops : (room : ℕ) (s : State) (block : List ℕ) → let f = filled log_program room s block in (is_whole (entry_in log_form (drop f.read block)) ≡ false) ⊎ (room - length f.text < longest_lines)
filled_stops room s block =
    let f : Filled State = filled log_program room s block in
    subst (λ (n : ℕ). (is_whole (entry_in log_form (drop f.read block)) ≡ false) ⊎ (room - n < longest_lines)) (programs.filled-cost log_program (λ t r. refl) room s block) (programs.filled_stops log_program room s block)

pub turned-printed : (room : ℕ) (s : State) (xs : List ℕ) (reads : List Reading) (n : ℕ) (failed : Bool) → longest_lines ≤ room → enough xs reads ≤ n → fails_in reads ≡ failed → turned log_program room n s xs reads ≡ printed_with (last_written failed last_line) s (xs ++ brought_by reads)
turned-printed room s xs reads n failed space h e =
    turns.turned-printed log_program room s xs reads n space h
    ∙ sym (printed_program (last_written (fails_in reads) last_line) s (xs ++ brought_by reads))
    ∙ ap (λ (t : Bool). printed_with (last_written t last_line) s (xs ++ brought_by reads)) e

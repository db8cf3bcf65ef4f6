-- The three demands on Lukasembo, each statement proved by citing its lemma. What a reader must believe is this page, the contracts that
-- src/lib.rt repeats for each offered call, and the definitions that both cite, in the crates' specs/.
use mathlib.Core.Path.{◌≡◌, sym, ap, ◌∙◌}
use mathlib.Core.Bool.{true}
use mathlib.Core.List.{List, [], ◌∷◌, ◌++◌, map}
use Prim.Native.Nat.{ℕ, ◌≤◌, ◌<◌}
use lib.ListN.{length}
use Rattle.std.proofs.Common.{Result, Ok, Err}
use Rattle.octets.specs.Bits.{Bytes}
use Rattle.octets.specs.Each.{Each}
use Rattle.meaning.specs.declared.Kind.{Kind}
use Rattle.meaning.specs.declared.Refusal.{Refusal}
use Rattle.meaning.specs.declared.Refusal.TheVariants.{OtherMajor}
use Rattle.meaning.specs.declared.Listed.{Listed}
use Rattle.meaning.specs.Sizes.{longest_listing}
use Rattle.meaning.specs.Numbers.{number_of, read_fault}
use Rattle.meaning.specs.Lists.{FicList}
use Rattle.meaning.specs.Layout.{wire, Carries}
use Rattle.meaning.specs.Said.{list_said}
use Rattle.meaning.specs.Plain.{plain, Oldest, VersionsZero}
use Rattle.meaning.specs.Reading.{read_checks, read_answer, ReadSays, listed}
use Rattle.meaning.proofs.Answers as reading
use Rattle.segments.specs.Segment.{segment_kind}
use Rattle.segments.specs.Cut.{segment_count, Choice, Suits, piece_of}
use Rattle.std.proofs.Common.{Result, Ok, Err}
use Rattle.writer.specs.declared.Unwritten.{Unwritten}
use Rattle.writer.specs.Writing.{shortest_output, written_fault, plain_segments, write_checks, write_answer, write_output, WriteSays}
use Rattle.writer.proofs.Answers as writing
use Rattle.slots.specs.declared.Answer.{Answer}
use Rattle.slots.specs.declared.Answer.TheVariants.{Missing, NewList}
use Rattle.slots.specs.Gathering.{answer_fault, answer_values}
use Rattle.desk.specs.declared.Desk.{Desk}
use Rattle.notes.specs.Notes.{other_kind}
use Rattle.desk.specs.Desks.{fresh, well_formed, new_gathering, new_frame, After, after, segment_after}
use Rattle.desk.specs.Calls.{State, wholly, Ready, answer_to, Ran, ran}
use Rattle.effects.specs.Effects.{Kept, segment_fault, Leaves, Changes}
use Rattle.effects.proofs.Refusals as refusals
use Rattle.effects.proofs.Accepted as accepted
use Rattle.effects.proofs.Keeps as desks
use Rattle.effects.proofs.Apart as apart
use Rattle.gatherings.specs.Deliveries.{AtStart}
use Rattle.gatherings.specs.Once.{piece_answers, piece_counts, ListsAll}
use Rattle.gatherings.specs.KeepsFirst.{keeps_first}
use Rattle.gatherings.proofs.Starts as starts
use Rattle.gatherings.proofs.Rounds as rounds
use Rattle.gatherings.proofs.Once as once
use Rattle.gatherings.proofs.Counts as counts
use Rattle.gatherings.proofs.KeepsFirst as keeps
use Rattle.gatherings.proofs.Majors as majors
use Rattle.promises.specs.Says.{ReadRefused, ReadList, ChunkListed, WriteRefused, WriteAnswered, Sendable, SegmentRefused, SegmentListed, SegmentMissing, Begins, ReadBack, ReadWhole, WrittenBack, LastMissing, OtherMajorChunk, AllRefused}
use Rattle.promises.proofs.Fields as fields

-- ---- demand 1: every call answers; a refusal f is given exactly when the checks, in document 01's order, come to f; and what a refusal changes

module _ (xs before : List ℕ) where
  pub read_exactly : read_fault (read_answer xs before) ≡ read_checks xs before
  read_exactly = reading.answer_exactly xs before

  -- a refusal is one of the reader's numbers, with its offset; every other value is 0, and nothing is written
  pub read_refused : {f : Refusal} → read_checks xs before ≡ Err f → ReadRefused xs before f
  read_refused = fields.read_refused xs before

module _ (xs : List ℕ) (k : Kind) (before : List ℕ) where
  pub write_exactly : written_fault (write_answer xs k before) ≡ write_checks xs before
  write_exactly = writing.answer_exactly xs k before

  pub write_refused : {f : Unwritten} → write_checks xs before ≡ Err f → WriteRefused xs k before f
  write_refused = fields.write_refused xs k before

  -- and a listing that passes has number 0 and its segments, at the start of the output; bytes past them stay
  pub write-accepted : write_checks xs before ≡ Ok tt → WriteAnswered xs k before (plain_segments k (list_said xs))
  write-accepted = fields.write-accepted xs k before

module _ (d : Desk) (xs first second : List ℕ) where
  abbrev r : After
  r = segment_after d xs first second

  pub segment_exactly : answer_fault r.answer ≡ segment_fault d xs first second
  segment_exactly = refusals.answer_exactly d xs first second

  module _ (f : Refusal) (is : r.answer ≡ Err f) where
    pub segment_refused : SegmentRefused f r.answer
    segment_refused = record { number = refusals.refusal_number d xs first second f is; values = ap answer_values is }

    -- by the checks that gave it, it changes nothing, spoils its slot, or completes it: there is no other way
    pub segment-leaves : Leaves f d xs first second r
    segment-leaves = refusals.refusal_leaves d xs first second f is

    -- and by its number: which numbers go which way
    pub segment_changes : Changes (number_of f) d xs first second r
    segment_changes = refusals.refusal_changes d xs first second f is

  -- and whatever the answer, the other kind keeps its slot, its listing's length and its buffer, and the buffers keep their roles
  pub segment-apart : Kept d.notes.swapped (other_kind (segment_kind xs)) d first second r
  segment-apart = apart.other-kept d xs first second

  -- whatever comes, a well formed desk stays so; and new gathering and new frame make any desk well formed
  pub segment_well_formed : well_formed d ≡ true → well_formed r.desk ≡ true
  segment_well_formed = desks.segment-fits d xs first second

pub gathering_well_formed : (d : Desk) → well_formed (new_gathering d) ≡ true
gathering_well_formed = desks.gathering-fits

pub frame_well_formed : (d : Desk) → well_formed (new_frame d) ≡ true
frame_well_formed = desks.frame-fits

-- ---- demand 2: what a listing means, and the two round trips

module _ {xs : List ℕ} {k : Kind} {m : ℕ} {l : FicList} where
  -- a chunk that the standard's tables lay out for the list l is read as its listing; the buffer past it stays
  pub chunk_read : Carries xs k m l → (before : List ℕ) → longest_listing ≤ length before → ReadList xs before k m l
  chunk_read = fields.chunk_read

  -- it carries no other list, and nothing but such a chunk is listed
  pub one_list : {j : Kind} {n : ℕ} {i : FicList} → Carries xs k m l → Carries xs j n i → (k ≡ j) × (m ≡ n) × (l ≡ i)
  one_list = reading.carries-once

module _ {xs before left : List ℕ} {k : Kind} {m n : ℕ} where
  pub only_chunks_listed : Bytes xs → ReadSays xs before (Ok (listed k m n)) left → ChunkListed xs before k m n left
  only_chunks_listed = fields.only_chunks

-- and of a desk, whatever it holds and whatever came before: an answer that is a list is that of the chunk that its slot then holds; any other
-- that is no refusal is the count of what its slot then lacks
module _ (d : Desk) (xs first second : List ℕ) where
  abbrev s : After
  s = segment_after d xs first second

  module _ (b : Bytes d.bytes) (v : Bytes xs) (k : Kind) (n : ℕ) where
    pub segment_listed : s.answer ≡ Ok (NewList k n) → SegmentListed d xs first second k n s
    segment_listed is = record { values = ap answer_values is; lists = accepted.listed_lists d xs first second b v k n is }

  pub segment_missing : (n : ℕ) → s.answer ≡ Ok (Missing n) → SegmentMissing d xs first second n s
  segment_missing n is = record { values = ap answer_values is; waits = accepted.missing_waits d xs first second n is }

-- a gathering begins on a fresh desk, after new gathering and after new frame, whatever the desk before
pub gatherings_begin : AtStart fresh × ((d : Desk) → AtStart (new_gathering d)) × ((d : Desk) → AtStart (new_frame d))
gatherings_begin = (starts.fresh_start, starts.gathering-start, starts.frame-start)

-- read after write: the segments in the writer's output answer missing n - 1, …, missing 1, list, and the listing comes out; given whole to the
-- reader, their payloads say the same
module _ (xs : List ℕ) (k : Kind) (output : List ℕ) (w : Sendable xs) (space : shortest_output ≤ length output) where
  pub read_after_write : (s : State) → Begins s → ReadBack xs k (write_output xs k output) s
  read_after_write = fields.read_after_write xs k output w space

  pub read_whole_after_write : (before : List ℕ) → longest_listing ≤ length before → ReadWhole xs k (write_output xs k output) before
  read_whole_after_write = fields.read_whole xs k output w space

-- write after read: a chunk of minor edition 0, without extensions, with all reserved bits ones and with all ensembles of version 0 comes back
-- byte for byte up to its stuffing
module _ {ys : List ℕ} {k : Kind} {m : ℕ} {l : FicList} (h : Carries ys k m l) (oldest : Oldest h.chunk) (versions : VersionsZero h.chunk) (buffer output : List ℕ) where
  pub write_after_read : longest_listing ≤ length buffer → shortest_output ≤ length output → WrittenBack ys k l h.chunk.stuffing buffer output
  write_after_read = fields.write_after_read h oldest versions buffer output

-- ---- demand 3: any edition's chunk, with ensembles of any versions, in pieces, in any order, among any other segments that it allows

pub every_list_comes_out : ListsAll segment_after
every_list_comes_out = once.lists_all

-- what comes out is what the reader gives for the same list as the oldest edition sends it
module _ {ys : List ℕ} {k : Kind} {m : ℕ} {l : FicList} (h : Carries ys k m l) where
  pub oldest_read : (before : List ℕ) → longest_listing ≤ length before → ReadList (wire (plain k l)) before k 0 l
  oldest_read = fields.chunk_read (rounds.oldest_carried h)

-- the answers that it says, read out: of n pieces those in `earlier` come, then the last missing one, i, then those in `later`
module _ (n : ℕ) (k : Kind) (size : ℕ) {earlier : List ℕ} {i : ℕ} {later : List ℕ} (c : LastMissing n earlier i later) where
  abbrev at_last : List (Result Answer Refusal)
  at_last = piece_counts n [] earlier ++ ((Ok (NewList k size)) ∷ map (λ j. Ok (Missing 0)) later)

  pub list_at_the_last_missing : piece_answers n k size [] (earlier ++ i ∷ later) ≡ at_last
  list_at_the_last_missing = let p = c.inside in counts.answers-read n k size earlier i later p.0 p.1 p.2 c.new c.all

-- it is not so of a desk that keeps the first piece and only claims the later ones
pub first_is_not_enough : ListsAll keeps_first → ⊥
first_is_not_enough = keeps.first_not_enough

-- another major: 5 from the reader, and 5 for every piece on any well formed desk, which stays as it was, as do both buffers
module _ (ys : List ℕ) (o : OtherMajorChunk ys) where
  pub other-major-read : (before : List ℕ) → longest_listing ≤ length before → ReadSays ys before (Err OtherMajor) before
  other-major-read before long = reading.says_major ys before long o.two o.room o.major

  module _ (c : Choice) (bytes : Bytes ys) (suits : Suits ys c) (s : State) (y : Ready s) where
    pub other-major-piece : (i : ℕ) → i < segment_count (length ys) → answer_to s (piece_of ys c i) ≡ after (Err OtherMajor) s.desk s.first s.second
    other-major-piece i inside = majors.piece_refused ys c bytes suits o.room o.major s.desk y.0 i inside s.first s.second y.1 y.2

    abbrev given : List ℕ → Ran
    given numbers = ran s (map (wholly s) (map (piece_of ys c) numbers))

    pub other-major_pieces : (numbers : List ℕ) → Each (λ i. i < segment_count (length ys)) numbers → AllRefused numbers s (given numbers)
    other-major_pieces = fields.other_pieces ys o c bytes suits s y

-- ---- two results can't both meet a call's statement. Those that are not here are an equation of the result with a definition (src/lib.rt)

module _ {a b : Result Listed Refusal} {p q : List ℕ} where
  pub one_read : {xs before : List ℕ} → ReadSays xs before a p → ReadSays xs before b q → (a ≡ b) × (p ≡ q)
  one_read = reading.says_once

module _ (xs : List ℕ) (k : Kind) (before : List ℕ) {a b : Result ℕ Unwritten} {p q : List ℕ} where
  pub one_written : WriteSays xs k before a p → WriteSays xs k before b q → (a ≡ b) × (p ≡ q)
  one_written = writing.says_once xs k before

module _ {a b : Result Answer Refusal} {d e : Desk} {p q s t : List ℕ} where
  pub one_taken : {r : After} → after a d p s ≡ r → after b e q t ≡ r → (a ≡ b) × (d ≡ e) × (p ≡ q) × (s ≡ t)
  one_taken x y = let z = x ∙ sym y in (ap (λ r. r.answer) z, ap (λ r. r.desk) z, ap (λ r. r.first) z, ap (λ r. r.second) z)

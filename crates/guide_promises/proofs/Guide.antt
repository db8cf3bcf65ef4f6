-- What is promised of the guide, each statement proved by citing its lemma. What a reader must believe is this page, the contracts that src/lib.rt repeats, and the definitions
-- that both cite.
use mathlib.Core.Path.{◌≡◌}
use mathlib.Core.Bool.{true, not, cond, ◌&&◌}
use mathlib.Core.List.{List, [], ◌++◌}
use Prim.Native.Nat.{ℕ, ◌≤◌}
use lib.Dec.{ltb, eqb}
use lib.ListN.{length, get_or}
use Rattle.std.specs.Prelude.{Result, Ok}
use Rattle.octets.specs.Bits.{Bytes}
use Rattle.octets.specs.Checks.{check}
use Rattle.sections.specs.declared.Refusal.{Refusal}
use Rattle.sections.specs.declared.Standing.TheVariants.{InForce}
use Rattle.sections.specs.Layout.{Section, wire, Formed, Carries}
use Rattle.sections.specs.Walks.{place_of, loops}
use Rattle.sections.specs.Reading.{is_ours, protocol_in, version_in, current_in, number_in, last_in, has_length, loops_standing, standing, is_in_force, name_in, Accepts}
use Rattle.sections.proofs.Sound as sound
use Rattle.sections.proofs.Complete as complete
use Rattle.sections.proofs.Had as had
use Rattle.guides.specs.declared.Gathering.{Gathering}
use Rattle.guides.specs.declared.Answer.{Answer}
use Rattle.guides.specs.Gathering.{is_noted, empty_of, empty, begun_as, read_as, guide_values, told, SectionSays}
use Rattle.guides.specs.Tables.{answers_to, left_by, Delivery, bytes_of, numbers_of, Begins, dues_from, All, Completes}
use Rattle.guides.proofs.Results as results
use Rattle.guides.proofs.Tables as tables
use Rattle.text.specs.Text.{Put}
use Rattle.records.specs.declared.Entry.{Entry}
use Rattle.records.specs.Records.{Record, entry_in}
use Rattle.records.specs.Transcripts.{filled, printed_with}
use Rattle.records.specs.Channels.{Fills}
use Rattle.programs.specs.Programs.{alone}
use Rattle.manners.specs.declared.Ending.{Ending}
use Rattle.blocks.specs.declared.Step.{Step}
use Rattle.blocks.specs.declared.Unread.{Unread}
use Rattle.blocks.specs.Blocks.{unread, TurnSays, Concludes, Settles, Ends}
use Rattle.blocks.specs.Channels.{BothSay, LastSaid, RunSays}
use Rattle.blocks.specs.Turns.{Reading, brought_by, fails_in, last_written, turned, enough}
use Rattle.guide_lines.specs.Lines.{longest_lines}
use Rattle.guiding.specs.Guiding.{guide_form, guide_program}
use Rattle.guiding.proofs.Laws as guiding
use Rattle.guide_stream.proofs.Says as says
use Rattle.guide_stream.proofs.Written as written

-- ---- one call, for any gathering and any section

module _ (g : Gathering) (xs : List ℕ) where
  -- each number exactly when its check, in this order, is the first to fail; what is not ours or not yet in force has none
  pub number_exactly : (guide_values (told g xs).answer).number ≡ check (eqb (length xs) 0) 20 (check (not (is_ours (get_or xs 0 0))) 0 (check (not (has_length xs)) 20 (check (not (eqb (protocol_in xs) 0)) 21 (check (eqb (current_in xs) 0) 0 (check (ltb (last_in xs) (number_in xs)) 22 (cond (is_in_force (loops_standing xs)) 0 23))))))
  number_exactly = results.number_exactly g xs

  -- the offset, with 23 alone: of the first thing that runs past the section's end, or of the first byte left over
  pub offset_exactly : (guide_values (told g xs).answer).at ≡ check (eqb (length xs) 0) 0 (check (not (is_ours (get_or xs 0 0))) 0 (check (not (has_length xs)) 0 (check (not (eqb (protocol_in xs) 0)) 0 (check (eqb (current_in xs) 0) 0 (check (ltb (last_in xs) (number_in xs)) 0 (cond (is_in_force (loops_standing xs)) 0 (place_of (loops xs))))))))
  offset_exactly = results.offset_exactly g xs

  -- not ours, and not yet in force, exactly when the request says so
  pub not_ours_exactly : (guide_values (told g xs).answer).foreign ≡ not (eqb (length xs) 0) && not (is_ours (get_or xs 0 0))
  not_ours_exactly = results.foreign_exactly g xs

  pub not_yet_exactly : (guide_values (told g xs).answer).early ≡ is_ours (get_or xs 0 0) && (has_length xs && (eqb (protocol_in xs) 0 && eqb (current_in xs) 0))
  not_yet_exactly = results.early_exactly g xs

  -- all of these leave the gathering as found; so does a repeat
  pub left_as_found : (standing xs ≡ Ok InForce → ⊥) → (told g xs).gathering ≡ g
  left_as_found = results.left_as_found g xs

  pub repeat_as_found : standing xs ≡ Ok InForce → is_noted (begun_as g (version_in xs) (last_in xs)).noted (number_in xs) ≡ true → (told g xs).gathering ≡ g
  repeat_as_found = results.repeat_as_found g xs

  -- a section of another version or last number starts anew
  pub starts_anew : (g.version ≡ version_in xs → g.last ≡ last_in xs → ⊥) → standing xs ≡ Ok InForce → told g xs ≡ told (empty_of (version_in xs) (last_in xs)) xs
  starts_anew = results.starts_anew g xs

  -- so many may be missing; a gathering has four words
  pub most_missing : length g.noted ≡ 4 → Bytes xs → (guide_values (told g xs).answer).missing ≤ 255
  most_missing = results.most_missing g xs

-- two results can't both meet the promise
pub one_result : (g : Gathering) (xs : List ℕ) {a b : Result Answer Refusal} {h k : Gathering} → SectionSays g xs a h → SectionSays g xs b k → (a ≡ b) × (h ≡ k)
one_result = results.one_result

-- ---- a section: Table 7.4 and the reader

module _ {xs : List ℕ} {version number last : ℕ} {names : List (List ℕ)} where
  -- every section that is laid out is accepted, with exactly its numbers and names
  pub laid-accepted : Carries xs version number last names → Accepts xs version number last names
  laid-accepted = complete.carried-accepted

  -- nothing else is
  pub accepted-laid : Bytes xs → Accepts xs version number last names → Carries xs version number last names
  accepted-laid = sound.accepted-carried

  -- it has one reading
  pub one_reading : {version' number' last' : ℕ} {names' : List (List ℕ)} → Carries xs version number last names → Carries xs version' number' last' names' → (version ≡ version') × (number ≡ number') × (last ≡ last') × (names ≡ names')
  one_reading = complete.one_reading

  -- given to a gathering, it is read
  pub laid-read : (g : Gathering) → Carries xs version number last names → told g xs ≡ read_as g version number last
  laid-read = tables.carried-read

  -- the n-th name is the n-th of those that it carries
  pub names_had : Carries xs version number last names → (n : ℕ) → name_in xs n ≡ get_or names n []
  names_had = had.names_had

-- down to its descriptors and reserved bits
pub one_section : (s t : Section) → Formed s → Formed t → wire s ≡ wire t → s ≡ t
one_section = complete.one_section

-- what is not ours, not yet in force or refused has no names
pub no_names : (xs : List ℕ) → (standing xs ≡ Ok InForce → ⊥) → (n : ℕ) → name_in xs n ≡ []
no_names = had.no_names

-- ---- a whole table: sections that are laid out, of one version and last number, in any order and any of them again

module _ {version last : ℕ} (g : Gathering) (ds : List (Delivery version last)) (begins : Begins g version last) where
  -- each answer: noted at first and then a repeat, with how many of the table have not come
  pub answers-due : answers_to g (bytes_of ds) ≡ dues_from last [] (numbers_of ds)
  answers-due = tables.dues_answered g ds begins

  -- all of them come: the first missing 0 is at the section that brings the last new number, and behind it are repeats with missing 0
  pub table_completes : All last (numbers_of ds) → Completes last (numbers_of ds) (answers_to g (bytes_of ds))
  table_completes = tables.table_completes g ds begins

  -- and the gathering is the table's, with every number noted
  pub all_noted : All last (numbers_of ds) → ((left_by g (bytes_of ds)).version ≡ version) × ((left_by g (bytes_of ds)).last ≡ last) × ((n : ℕ) → n ≤ last → is_noted (left_by g (bytes_of ds)).noted n ≡ true)
  all_noted = tables.left_whole g ds begins

-- gatherings that are ready for it: an empty one, and any of another version or last number
pub empty-begins : (version last : ℕ) → Begins empty version last
empty-begins = tables.fresh-begins

pub other-begins : (g : Gathering) (version last : ℕ) → (g.version ≡ version → g.last ≡ last → ⊥) → Begins g version last
other-begins = tables.other-begins

-- ---- the program: what all turns write is what it prints for the file, whatever the reads bring

pub lines_written : (room : ℕ) (g : Gathering) (xs : List ℕ) (reads : List Reading) (turns : ℕ) → longest_lines ≤ room → enough xs reads ≤ turns → turned guide_program room turns g xs reads ≡ printed_with (λ t. last_written (fails_in reads) (guide_program.last t)) guide_program g (xs ++ brought_by reads)
lines_written = written.lines_written

-- and it is what the code's turns say: a record takes the room of its lines and no more, so what `programs::fill`, `blocks::turn`, `finish` and `run` say
-- of `Guide`, a program that reports nothing, is what `guide_program` gives of a block, a turn of it, and how its run ends

pub lines_cost : (g : Gathering) (r : Record) → guide_program.cost g r ≡ length (guide_program.text g r)
lines_cost = guiding.lines_cost

module _ {g h : Gathering} {old out out' report report' : List ℕ} {wrote told : ℕ} where
  pub fill_says : {read : ℕ} → Fills (alone guide_program) g old out report h read out' wrote report' told → let f = filled guide_program (length out) g old in (h ≡ f.state) × (read ≡ f.read) × Put f.text out 0 out' wrote
  fill_says = guiding.guide_fills

  pub turn_says : {at have : ℕ} {new : List ℕ} {u : Unread} → BothSay (alone guide_program) g old at have out report h new out' wrote report' told u → TurnSays guide_form (filled guide_program (length out) g (unread old at have)) old at have out h new out' wrote u
  turn_says = says.turn_says

pub finish_settles : (step : Step) (g : Gathering) (e : Entry) (out report : List ℕ) (r : Ending) → Concludes step e r → LastSaid (alone guide_program) g e out report → Settles step e out r
finish_settles = says.finish_settles

pub run_ends : (r : Ending) (turns : ℕ) (block : List ℕ) (at have : ℕ) (out report : List ℕ) → RunSays (alone guide_program) r turns (entry_in guide_form (unread block at have)) out report → Ends r turns (entry_in guide_form (unread block at have)) out
run_ends = says.run_ends

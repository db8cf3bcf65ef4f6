-- Laws of the program `guide`, record by record: every section's lines fit, and what a record leaves. Assumes nothing.
use mathlib.Core.Path.{◌≡◌, refl}
use mathlib.Core.Bool.{Bool, true, false, not}
use mathlib.Core.List.{List}
use Prim.Native.Nat.{ℕ, ◌≤◌}
use native.Mathlib.Omega.{arith}
use borrow.Author.Tests.{not-false}
use lib.Dec.{ltb, eqb}
use lib.ListN.{length, get_or}
use Rattle.std.specs.Prelude.{Result, Ok, Err}
use Rattle.octets.specs.Bits.{Bytes}
use Rattle.octets.specs.Checks.{check}
use Rattle.octets.proofs.Laws.{either, get_d_byte}
use Rattle.text.specs.Text.{Put}
use Rattle.records.specs.Records.{Record}
use Rattle.records.specs.Transcripts.{filled}
use Rattle.records.specs.Channels.{Fills}
use Rattle.programs.specs.Programs.{alone}
use Rattle.programs.proofs.Alone.{fills_alone}
use Rattle.sections.specs.declared.Refusal.{Refusal}
use Rattle.sections.specs.declared.Refusal.TheVariants.{BadLength, OtherProtocol, NumberAboveLast, RunsOver}
use Rattle.sections.specs.declared.Standing.{Standing}
use Rattle.sections.specs.declared.Standing.TheVariants.{NotOurs, NotYet, InForce}
use Rattle.sections.specs.Sizes.{longest_section}
use Rattle.sections.specs.Walks.{Walk, place_of, loops}
use Rattle.sections.specs.Reading.{offset_of, is_ours, protocol_in, version_in, current_in, number_in, last_in, has_length, loops_end, loops_standing, standing}
use Rattle.sections.proofs.Steps.{length_right}
use Rattle.sections.proofs.Names.{loops-inside}
use Rattle.guides.specs.declared.Gathering.{Gathering}
use Rattle.guides.specs.Gathering.{is_noted, begun_as, read_as, result_by, told}
use Rattle.guides.proofs.Laws.{begun_either}
use Rattle.guide_lines.specs.Lines.{NamesHad, longest_lines}
use Rattle.guide_lines.proofs.Laws.{Small, lines_fit}
use Rattle.guiding.specs.Guiding.{lines_of, guide_program}

-- ---- the offset of a refusal is inside of a section

abbrev Near : Result Standing Refusal → Type 0
Near (Err f) = offset_of f ≤ longest_section
Near (Ok NotOurs) = Unit {0}
Near (Ok NotYet) = Unit {0}
Near (Ok InForce) = Unit {0}

check_near : (broken : Bool) (answer rest : Result Standing Refusal) → Near answer → (broken ≡ false → Near rest) → Near (check broken answer rest)
check_near true answer rest a b = a
check_near false answer rest a b = b refl

loops_near : (xs : List ℕ) (w : Walk) → place_of w ≤ longest_section → Near (loops_end w xs)
loops_near xs (Ok at) h = check_near (ltb at (length xs)) (Err (RunsOver at)) (Ok InForce) h (λ e. tt)
loops_near xs (Err f) h = h

walk_near : (xs : List ℕ) → has_length xs ≡ true → place_of (loops xs) ≤ longest_section
walk_near xs e = let l = length_right xs e in omega (arith, l.1, (loops-inside xs l.0).short)

standing_near : (xs : List ℕ) → Near (standing xs)
unfolding standing loops_standing
standing_near xs =
    check_near (eqb (length xs) 0) (Err BadLength) _ (omega arith)
    (λ a.
    check_near (not (is_ours (get_or xs 0 0))) (Ok NotOurs) _ tt
    (λ b.
    check_near (not (has_length xs)) (Err BadLength) _ (omega arith)
    (λ c.
    check_near (not (eqb (protocol_in xs) 0)) (Err OtherProtocol) _ (omega arith)
    (λ d.
    check_near (eqb (current_in xs) 0) (Ok NotYet) _ tt
    (λ e.
    check_near (ltb (last_in xs) (number_in xs)) (Err NumberAboveLast) _ (omega arith)
    (λ f. loops_near xs (loops xs) (walk_near xs (not-false (has_length xs) c))))))))

-- ---- what is told of a section: its names are had, its numbers are small, and so its lines fit

module _ (g : Gathering) (xs : List ℕ) where
  pub names_had : NamesHad (told g xs).answer xs
  unfolding told read_as
  names_had = go (standing xs) refl
    where
      go : (s : Result Standing Refusal) → standing xs ≡ s → NamesHad (result_by s g xs).answer xs
      go (Ok NotOurs) e = tt
      go (Ok NotYet) e = tt
      go (Err f) e = tt
      go (Ok InForce) e = either (is_noted (begun_as g (version_in xs) (last_in xs)).noted (number_in xs)) (λ t. rw t tt) (λ t. rw t e)

  told_small : Bytes xs → Small (told g xs).answer
  unfolding told read_as
  told_small bytes = go (standing xs) (standing_near xs)
    where
      last_is : (begun_as g (version_in xs) (last_in xs)).last ≡ last_in xs
      last_is = begun_either g (version_in xs) (last_in xs) (λ b. b.last ≡ last_in xs) (λ v l. l) refl

      go : (s : Result Standing Refusal) → Near s → Small (result_by s g xs).answer
      go (Ok NotOurs) near = tt
      go (Ok NotYet) near = tt
      go (Err f) near = omega arith
      go (Ok InForce) near =
          either (is_noted (begun_as g (version_in xs) (last_in xs)).noted (number_in xs)) (λ t. rw t (omega (arith, last_is, get_d_byte xs 7 bytes)))
          (λ t. rw t (omega (arith, last_is, get_d_byte xs 7 bytes)))

  pub guide_fits : Bytes xs → length (lines_of g xs) ≤ longest_lines
  guide_fits bytes = lines_fit (told g xs).answer xs names_had (told_small bytes) (get_d_byte xs 8 bytes)

-- ---- what `programs::fill` says of `Guide` is what the program gives

-- a record takes the room of its lines and no more
pub lines_cost : (g : Gathering) (r : Record) → guide_program.cost g r ≡ length (guide_program.text g r)
lines_cost g r = refl

pub guide_fills : {g : Gathering} {block out report : List ℕ} {h : Gathering} {read : ℕ} {out' : List ℕ} {wrote : ℕ} {report' : List ℕ} {told : ℕ} → Fills (alone guide_program) g block out report h read out' wrote report' told → let f = filled guide_program (length out) g block in (h ≡ f.state) × (read ≡ f.read) × Put f.text out 0 out' wrote
guide_fills = fills_alone guide_program lines_cost

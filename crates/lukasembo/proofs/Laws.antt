-- The answers of the two calls: how great their parts are, and that the one number tells each of them. Assumes nothing.
use mathlib.Core.Path.{◌≡◌, refl, ap, ap₂, subst, ◌∙◌}
use mathlib.Core.Bool.{cond}
use mathlib.Core.Logic.{⊎_elim}
use mathlib.Core.List.{List}
use Prim.Native.Nat.{ℕ, ◌/◌, ◌%◌, ◌≤◌, ◌<◌}
use native.Mathlib.Omega.{arith}
use lib.Dec.{ltb, lit<, lit≤}
use lib.ListN.{length}
use Rattle.std.proofs.Common.{Result, Ok, Err}
use Rattle.octets.specs.Bits.{Bytes}
use Rattle.octets.proofs.Laws.{either}
use Rattle.meaning.specs.declared.Refusal.{Refusal}
use Rattle.meaning.specs.declared.Kind.{Kind}
use Rattle.meaning.specs.declared.Kind.TheVariants.{This, Next}
use Rattle.meaning.specs.declared.Refusal.TheVariants.{ShortBuffer}
use Rattle.meaning.proofs.Gives.{number_of_small}
use Rattle.meaning.specs.Sizes.{longest_chunk, longest_listing}
use Rattle.meaning.specs.Numbers.{read_values}
use Rattle.meaning.specs.Lists.{current_of}
use Rattle.meaning.specs.Said.{list_said}
use Rattle.meaning.specs.Reading.{kind_in, checks, read_checks, read_for, read_answer}
use Rattle.meaning.proofs.Checks.{check_passed}
use Rattle.meaning.proofs.Lengths.{listing-fits}
use Rattle.meaning.proofs.Ends.{told_small}
use Rattle.meaning.proofs.Said.{said_fitting}
use Rattle.segments.specs.Segment.{most_segments}
use Rattle.writer.specs.declared.Unwritten.{Unwritten}
use Rattle.writer.specs.declared.Unwritten.TheVariants.{ShortOutput, BadListing, TooMany}
use Rattle.std.proofs.Common.{Result, Ok, Err}
use Rattle.writer.specs.Writing.{unwritten_number, written_values, write_answer}
use Rattle.writer.proofs.Answers.{segments_says}
use Rattle.writer.proofs.Outputs.{length-plain_segments}
use Rattle.std.specs.Prelude.{Ok, Err}
use Rattle.tunnel.specs.declared.Unwrapped.TheVariants.{Stored, Repeat}
use Rattle.tunnel.specs.declared.Refusal.TheVariants.{Foreign, BadOffset}
use Rattle.tunnel.specs.declared.Refusal.TheVariants.{ShortOutput as TunnelShort}
use Rattle.tunnel.specs.declared.Numbers.{Numbers}
use Rattle.tunnel.specs.Unwrap.{Answer, Reader, unwrapped_values, unwrapped, UnwrapSays}
use Rattle.tunnel.proofs.Results.{most_stored_lem, most_left_out, most_lost, held_after}
use Rattle.lukasembo.specs.Packed.{packed_read, packed_written}
use Rattle.lukasembo.specs.Steps.{packed_unwrapped, numbers_in, numbers_left, StepSays}

-- ---- small numbers

unwritten_small : (f : Unwritten) → unwritten_number f < 0x100
unwritten_small ShortOutput = lit< tt
unwritten_small BadListing = lit< tt
unwritten_small TooMany = lit< tt

current_small : (k : Kind) → current_of k < 2
current_small This = lit< tt
current_small Next = lit< tt

-- ---- the reader

module _ (xs buffer : List ℕ) where
  pub listing-short : (read_values (read_answer xs buffer)).length ≤ longest_listing
  unfolding read_answer
  listing-short = go (read_checks xs buffer) refl
    where
      go : (v : Result Unit Refusal) → read_checks xs buffer ≡ v → (read_values (read_for v xs)).length ≤ longest_listing
      go (Ok _) e = listing-fits xs (check_passed (ltb (length buffer) longest_listing) ShortBuffer (checks xs) e).1
      go (Err f) e = lit≤ tt

  pub offset_small : (read_values (read_answer xs buffer)).at ≤ longest_chunk
  unfolding read_answer
  offset_small =
      either (ltb (length buffer) longest_listing) (λ q. simp q (lit≤ tt))
      (λ q. simp q (go (checks xs) refl))
    where
      go : (v : Result Unit Refusal) → checks xs ≡ v → (read_values (read_for v xs)).at ≤ longest_chunk
      go (Ok _) e = lit≤ tt
      go (Err f) e = told_small xs f e

  read_small : let a = read_answer xs buffer in ((read_values a).number < 0x100) × ((read_values a).kind < 2) × ((read_values a).minor < 8)
  unfolding read_answer
  read_small = go (read_checks xs buffer)
    where
      go : (v : Result Unit Refusal) → let a = read_for v xs in ((read_values a).number < 0x100) × ((read_values a).kind < 2) × ((read_values a).minor < 8)
      go (Ok _) = (lit< tt, current_small (kind_in xs), omega arith)
      go (Err f) = (number_of_small f, lit< tt, lit< tt)

  -- the header's accessors get the parts back
  pub read_parts : let a = read_answer xs buffer in let r = packed_read a in (r % 0x100 ≡ (read_values a).number) × (r / 0x100 % 2 ≡ (read_values a).kind) × (r / 0x200 % 8 ≡ (read_values a).minor) × (r / 0x10000 % 0x10000 ≡ (read_values a).length) × (r / 0x100000000 ≡ (read_values a).at)
  read_parts = omega (arith, read_small, listing-short, offset_small)

-- ---- the writer

module _ (xs : List ℕ) (k : Kind) (output : List ℕ) where
  pub segments_few : Bytes xs → (written_values (write_answer xs k output)).count ≤ most_segments
  segments_few bytes = go (write_answer xs k output) refl
    where
      go : (a : Result ℕ Unwritten) → a ≡ write_answer xs k output → (written_values a).count ≤ most_segments
      go (Ok n) e =
          let s = segments_says xs k output (record { answers = e; leaves = refl }) in
          omega (arith, s, length-plain_segments k (list_said xs) (said_fitting xs bytes s.0))
      go (Err f) e = lit≤ tt

  pub write_parts : let a = write_answer xs k output in let r = packed_written a in (r % 0x100 ≡ (written_values a).number) × (r / 0x10000 ≡ (written_values a).count)
  write_parts = omega (arith, small (write_answer xs k output))
    where
      small : (a : Result ℕ Unwritten) → (written_values a).number < 0x100
      small (Ok n) = lit< tt
      small (Err f) = unwritten_small f

-- ---- the tunnel

pub unwrapped_small : (r : Reader) (outer output : List ℕ) → let v = unwrapped_values (unwrapped r outer output).answer in (v.stored < 65536) × (v.lost < 65536)
unwrapped_small r outer output = (omega (arith, most_stored_lem r outer output), omega (arith, most_lost r outer output))

pub held_small : (r : Reader) (outer output : List ℕ) → r.numbers.held < 65536 → (unwrapped r outer output).reader.numbers.held < 65536
held_small r outer output h = ⊎_elim (λ e. omega (arith, e, h)) (λ g. omega (arith, g)) (held_after r outer output)

-- the reader's promise, told
pub step_says : (numbers : ℕ) (part outer output : List ℕ) (m : Numbers) (a : Answer) (m' : Numbers) (part' output' : List ℕ) (answer left : ℕ) → m ≡ numbers_in numbers → UnwrapSays m part outer output a m' part' output' → answer ≡ packed_unwrapped a → left ≡ numbers_left a numbers m' → StepSays numbers part outer output answer left part' output'
step_says numbers part outer output m a m' part' output' answer left is says packs keeps =
    let s : UnwrapSays (numbers_in numbers) part outer output a m' part' output' = subst (λ (k : Numbers). UnwrapSays k part outer output a m' part' output') is says in
    record {
      answers = packs ∙ ap packed_unwrapped s.answers;
      keeps = keeps ∙ ap₂ (λ (b : Answer) (r : Reader). numbers_left b numbers r.numbers) s.answers s.holds;
      holds = ap (λ (r : Reader). r.bytes) s.holds;
      leaves = s.leaves;
    }

-- the one number tells each part of an answer
pub unwrapped_told : (r : Reader) (outer output : List ℕ) → let a = (unwrapped r outer output).answer in let v = unwrapped_values a in let n = packed_unwrapped a in (n % 0x100 ≡ v.number) × (n / 0x100 % 2 ≡ cond v.repeat 1 0) × (n / 0x10000 % 0x10000 ≡ v.gap) × (n / 0x100000000 % 0x10000 ≡ v.stored) × (n / 0x1000000000000 ≡ v.lost)
unwrapped_told r outer output =
    told (unwrapped r outer output).answer (unwrapped_small r outer output).0 (unwrapped_small r outer output).1 (most_left_out r outer output)
  where
    told : (a : Answer) → (unwrapped_values a).stored < 65536 → (unwrapped_values a).lost < 65536 → (unwrapped_values a).gap < 65536 → let v = unwrapped_values a in let n = packed_unwrapped a in (n % 0x100 ≡ v.number) × (n / 0x100 % 2 ≡ cond v.repeat 1 0) × (n / 0x10000 % 0x10000 ≡ v.gap) × (n / 0x100000000 % 0x10000 ≡ v.stored) × (n / 0x1000000000000 ≡ v.lost)
    told (Ok (Stored s g l)) h k i = (omega arith, omega arith, omega arith, omega arith, omega arith)
    told (Ok Repeat) h k i = (refl, refl, refl, refl, refl)
    told (Err TunnelShort) h k i = (refl, refl, refl, refl, refl)
    told (Err Foreign) h k i = (refl, refl, refl, refl, refl)
    told (Err (BadOffset g l)) h k i = (omega arith, omega arith, omega arith, omega arith, omega arith)

-- What the writer's promise comes to, refusal by refusal and for a listing that is written. Assumes nothing.
use mathlib.Core.Path.{◌≡◌, refl, sym, ap, ◌∙◌}
use mathlib.Core.Bool.{Bool, true, false, not}
use mathlib.Core.List.{List, [], ◌∷◌, ◌++◌}
use Prim.Native.Nat.{ℕ, ◌*◌, ◌≤◌, ◌<◌}
use native.Mathlib.Omega.{arith}
use borrow.Author.Tests.{lt-ltb, le-ltb, ltb-false, not-false}
use lib.Dec.{T, ltb}
use lib.ListN.{length, drop}
use Rattle.std.proofs.Common.{Result, Ok, Err, ok_or}
use Rattle.octets.specs.Checks.{check, among}
use Rattle.octets.proofs.Laws.{either, check_follows}
use Rattle.meaning.specs.declared.Kind.{Kind}
use Rattle.meaning.specs.Sizes.{longest_chunk}
use Rattle.meaning.specs.Said.{listing_fits, list_said}
use Rattle.meaning.specs.Plain.{plain_length}
use Rattle.segments.specs.Segment.{segment_bytes}
use Rattle.segments.specs.Cut.{joined}
use Rattle.listing_checks.proofs.Lengths.{length_if}
use Rattle.writer.specs.declared.Unwritten.{Unwritten}
use Rattle.writer.specs.declared.Unwritten.TheVariants.{ShortOutput, BadListing, TooMany}
use Rattle.writer.specs.Writing.{shortest_output, unwritten_number, written_fault, written_values, plain_segments, write_checks, written_for, write_answer, output_left, write_output, WriteSays}

-- ---- the checks, one after the other

module _ (xs output : List ℕ) where
  pub checks-short : length output < shortest_output → write_checks xs output ≡ Err ShortOutput
  checks-short h = simp (lt-ltb _ _ h)

  module _ (room : shortest_output ≤ length output) where
    pub checks_bad : listing_fits xs ≡ false → write_checks xs output ≡ Err BadListing
    checks_bad b = simp (le-ltb _ _ room, b)

    module _ (fits : listing_fits xs ≡ true) where
      pub checks_many : longest_chunk < plain_length (list_said xs) → write_checks xs output ≡ Err TooMany
      checks_many h = simp (le-ltb _ _ room, fits, lt-ltb _ _ h)

      pub checks_written : plain_length (list_said xs) ≤ longest_chunk → write_checks xs output ≡ Ok tt
      checks_written h = simp (le-ltb _ _ room, fits, le-ltb _ _ h)

-- a listing that passed them all
check_passed : (t : Bool) (f : Unwritten) (v : Result Unit Unwritten) → check t (Err f) v ≡ Ok tt → (t ≡ false) × (v ≡ Ok tt)
check_passed t f v = check_follows t (λ e. let z : ◌≡◌ {A = ℕ} 0 1 = cc in absurd (omega arith))

checks_passed : (xs output : List ℕ) → write_checks xs output ≡ Ok tt → (listing_fits xs ≡ true) × (plain_length (list_said xs) ≤ longest_chunk)
checks_passed xs output e =
    let short = check_passed (ltb (length output) shortest_output) ShortOutput _ e in
    let bad = check_passed (not (listing_fits xs)) BadListing _ short.1 in
    let many = check_passed (ltb longest_chunk (plain_length (list_said xs))) TooMany (Ok tt) bad.1 in
    (not-false (listing_fits xs) bad.0, ltb-false _ _ many.0)

-- ---- the length of its chunk, as the code has it

module _ (xs : List ℕ) where
  abbrev pub length_or : Result ℕ Unwritten
  length_or = ok_or (length_if xs (listing_fits xs)) BadListing

  pub length_none : {f : Unwritten} → length_or ≡ Err f → (listing_fits xs ≡ false) × (f ≡ BadListing)
  length_none {f} e = either (listing_fits xs) (λ h. let z : Ok (plain_length (list_said xs)) ≡ Err f = sym (simp h) ∙ e in cc) (λ h. let z : Err BadListing ≡ Err f = sym (simp h) ∙ e in (h, cc))

  pub length_some : {n : ℕ} → length_or ≡ Ok n → (listing_fits xs ≡ true) × (n ≡ plain_length (list_said xs))
  length_some {n} e = either (listing_fits xs) (λ h. let z : Ok (plain_length (list_said xs)) ≡ Ok n = sym (simp h) ∙ e in (h, cc)) (λ h. let z : Err BadListing ≡ Ok n = sym (simp h) ∙ e in cc)

-- ---- the numbers

numbers-among : (f : Unwritten) → T (among (1 ∷ 13 ∷ 14 ∷ []) (unwritten_number f))
numbers-among ShortOutput = tt
numbers-among BadListing = tt
numbers-among TooMany = tt

-- ---- the promise

module _ (xs : List ℕ) (k : Kind) (before : List ℕ) where
  -- an answer that is the right one leaves what the right one leaves
  says : {answer : Result ℕ Unwritten} → answer ≡ write_answer xs k before → WriteSays xs k before answer (output_left answer xs k before)
  unfolding write_output
  says e = record { answers = e; leaves = ap (λ (r : Result ℕ Unwritten). output_left r xs k before) e }

  pub says_refused : {f : Unwritten} → write_checks xs before ≡ Err f → WriteSays xs k before (Err f) before
  unfolding write_answer
  says_refused e = says (sym (ap (λ (v : Result Unit Unwritten). written_for v xs k) e))

  pub says_written : write_checks xs before ≡ Ok tt → let s = plain_segments k (list_said xs) in WriteSays xs k before (Ok (length s)) (joined s ++ drop (segment_bytes * length s) before)
  unfolding write_answer
  says_written e = says (sym (ap (λ (v : Result Unit Unwritten). written_for v xs k) e))

  -- a refusal is answered exactly as the checks say
  pub answer_exactly : written_fault (write_answer xs k before) ≡ write_checks xs before
  unfolding write_answer
  answer_exactly = go (write_checks xs before)
    where
      go : (v : Result Unit Unwritten) → written_fault (written_for v xs k) ≡ v
      go (Ok u) = refl
      go (Err f) = refl

  -- two results that keep the promise are one
  pub says_once : {a b : Result ℕ Unwritten} {p q : List ℕ} → WriteSays xs k before a p → WriteSays xs k before b q → (a ≡ b) × (p ≡ q)
  says_once s t = (s.answers ∙ sym t.answers, s.leaves ∙ sym t.leaves)

  -- a listing that is not well formed is refused with 13
  pub answer_bad : shortest_output ≤ length before → listing_fits xs ≡ false → write_answer xs k before ≡ Err BadListing
  answer_bad room bad = sym (says_refused (checks_bad xs before room bad)).answers

  -- a refusal is one of three numbers, with no segment, and writes nothing
  pub refusal_values : {f : Unwritten} → write_checks xs before ≡ Err f → T (among (1 ∷ 13 ∷ 14 ∷ []) (unwritten_number f)) × (written_values (write_answer xs k before) ≡ record { number = unwritten_number f; count = 0 }) × (write_output xs k before ≡ before)
  unfolding write_answer write_output
  refusal_values {f} e = (
    numbers-among f,
    ap (λ (v : Result Unit Unwritten). written_values (written_for v xs k)) e,
    ap (λ (v : Result Unit Unwritten). output_left (written_for v xs k) xs k before) e,
  )

  -- and a listing that passes has number 0 and its segments
  pub written_values_lem : write_checks xs before ≡ Ok tt → let s = plain_segments k (list_said xs) in (written_values (write_answer xs k before) ≡ record { number = 0; count = length s }) × (write_output xs k before ≡ joined s ++ drop (segment_bytes * length s) before)
  written_values_lem e = let s = says_written e in (ap written_values (sym s.answers), sym s.leaves)

  -- segments are of a listing that passed the checks, and stand at the start of the output
  pub segments_says : {n : ℕ} {after : List ℕ} → WriteSays xs k before (Ok n) after → let s = plain_segments k (list_said xs) in (listing_fits xs ≡ true) × (plain_length (list_said xs) ≤ longest_chunk) × (n ≡ length s) × (after ≡ joined s ++ drop (segment_bytes * n) before)
  unfolding write_answer write_output
  segments_says {n} {after} s = go (write_checks xs before) refl s.answers
    where
      go : (v : Result Unit Unwritten) → write_checks xs before ≡ v → Ok n ≡ written_for v xs k → let s = plain_segments k (list_said xs) in (listing_fits xs ≡ true) × (plain_length (list_said xs) ≤ longest_chunk) × (n ≡ length s) × (after ≡ joined s ++ drop (segment_bytes * n) before)
      go (Ok u) e p =
          let passed = checks_passed xs before e in
          let count : n ≡ length (plain_segments k (list_said xs)) = cc in
          (passed.0, passed.1, count, s.leaves ∙ ap (λ (r : Result ℕ Unwritten). output_left r xs k before) (sym s.answers))
      go (Err f) e p = let z : ◌≡◌ {A = ℕ} 0 1 = cc in absurd (omega arith)

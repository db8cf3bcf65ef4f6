-- What is explained under a segment's line: a refusal's number, all but 10, by the segment and its slot or by the completed chunk. Assumes nothing.
use mathlib.Core.Path.{◌≡◌, refl, sym, ap, ◌∙◌}
use mathlib.Core.Bool.{Bool, true, false, cond, not, true≢false}
use mathlib.Core.List.{List, [], ◌∷◌}
use mathlib.Core.Logic.{◌⊎◌, ⊎_elim}
use Prim.Native.Nat.{ℕ, ◌+◌, ◌*◌, ◌%◌}
use native.Mathlib.Omega.{arith}
use borrow.Author.Tests.{le-ltb}
use lib.Dec.{eqb}
use lib.ListN.{get_or, take}
use Rattle.std.proofs.Common.{Result, Ok, Err, Option, None, Some}
use Rattle.std.specs.Option.{option_or}
use Rattle.octets.specs.Checks.{check}
use Rattle.meaning.specs.declared.Refusal.{Refusal}
use Rattle.meaning.specs.declared.Refusal.TheVariants.{KindDiffers}
use Rattle.meaning.specs.Lists.{current_of}
use Rattle.meaning.specs.Checks.{and_then}
use Rattle.meaning.specs.Numbers.{number_of, checked_number}
use Rattle.meaning.specs.Reading.{checks}
use Rattle.meaning.proofs.Checks.{fault≢fine}
use Rattle.meaning.proofs.Answers.{refusal_values}
use Rattle.segments.specs.Segment.{payload_bytes, segment_kind, segment_checks}
use Rattle.slots.specs.declared.Answer.{Answer}
use Rattle.slots.specs.declared.Answer.TheVariants.{Missing, NewList}
use Rattle.slots.specs.Gathering.{answer_values, chunk_in}
use Rattle.notes.specs.Notes.{slot_for}
use Rattle.desk.specs.Desks.{bytes_for, call_checks}
use Rattle.desk.specs.Calls.{State, answer_to, Ready}
use Rattle.effects.specs.Effects.{slot_holding, clashes, completing, chunk_checks, Leaves, unchanged, spoils, completes}
use Rattle.effects.proofs.Refusals.{early_numbers, refusal_leaves, of_each, early_number}
use Rattle.explains.specs.declared.Explained.{Explained}
use Rattle.explains.specs.Explaining.{explained_values, chunk_explained, gathered_explained}
use Rattle.explains.proofs.Exactly.{chunk-number, gathered-number}
use Rattle.explaining.specs.Explained.{under_segment}

-- the number that is explained, of a refusal's
abbrev told : ℕ → ℕ
told n = cond (eqb n 10) 0 n

-- it is that number, and one
abbrev Told : ℕ → Type 0
Told n = (n ≡ 0 → ⊥) × (n ≡ told n)

-- what has a number goes first
number_first : (e rest : Option Explained) → ((explained_values e).number ≡ 0 → ⊥) → option_or e rest ≡ e
number_first None rest some = absurd (some refl)
number_first (Some e) rest some = refl

-- what the first checks find, where those and 10 refuse
then_told : (v : Result Unit Refusal) (t : Bool) (f : Refusal) → (v ≡ Err f → number_of f ≡ told (number_of f)) → and_then v (check t (Err KindDiffers) (Ok tt)) ≡ Err f → checked_number v ≡ told (number_of f)
then_told (Err g) t f other e = ap checked_number e ∙ other e
then_told (Ok _) true f other e = rw (← ap checked_number e)
then_told (Ok _) false f other e = absurd (fault≢fine (sym e))

module _ (s : State) (xs : List ℕ) (y : Ready s) where
  -- of the segment and its slot as it was
  abbrev own : Option Explained
  own = gathered_explained (slot_for (segment_kind xs) s.desk.notes) (bytes_for (segment_kind xs) s.desk) xs

  abbrev chunk : List ℕ
  chunk = chunk_in (slot_holding s.desk xs)

  own_nothing : segment_checks xs ≡ Ok tt → clashes s.desk xs ≡ false → own ≡ None
  unfolding gathered_explained
  own_nothing fine clash = simp (fine, clash)

  chunk_told : {f : Refusal} → chunk_checks s.desk xs ≡ Err f → checked_number (checks chunk) ≡ told (number_of f)
  chunk_told {f} =
      then_told (checks chunk) (not (eqb (get_or chunk 1 0 % 2) (current_of (segment_kind xs)))) f
      (λ e. of_each (λ n. n ≡ told n) (1 ∷ 5 ∷ 8 ∷ 9 ∷ []) (number_of f) (omega arith) (refusal_values chunk s.first {f = f} (simp (le-ltb _ _ y.1, e))).0)

  module _ {f : Refusal} (is : (answer_to s xs).answer ≡ Err f) where
    -- a refusal of the segment by itself or with its slot, or of the chunk that it completes
    ways : {R : Type 0} → ((explained_values own).number ≡ number_of f → Told (number_of f) → under_segment s xs ≡ own → R) → (segment_checks xs ≡ Ok tt → clashes s.desk xs ≡ false → completing s.desk xs ≡ true → chunk_checks s.desk xs ≡ Err f → under_segment s xs ≡ chunk_explained chunk → R) → R
    unfolding under_segment
    ways {R} alone whole = go (refusal_leaves s.desk xs s.first s.second f is)
      where
        checked : call_checks s.desk xs s.first s.second ≡ segment_checks xs
        checked = simp (y.0, le-ltb _ _ y.1, le-ltb _ _ y.2)

        first : (explained_values own).number ≡ number_of f → Told (number_of f) → R
        first n some = alone n some (rw is (number_first own _ (λ none. some.0 (sym n ∙ none))))

        go : Leaves f s.desk xs s.first s.second (answer_to s xs) → R
        go (unchanged c same) =
            first (gathered-number _ _ xs ∙ simp (sym checked ∙ c))
            (of_each Told early_numbers (number_of f) (omega arith) (early_number s.desk xs s.first s.second f c))
        go (spoils c clash seven b) = first (gathered-number _ _ xs ∙ simp (sym checked ∙ c, clash, seven)) (rw seven (omega arith))
        go (completes c clash z e b) =
            let fine : segment_checks xs ≡ Ok tt = sym checked ∙ c in
            whole fine clash z e (rw (is, own_nothing fine clash) (λ i. chunk_explained (take (payload_bytes * ((b.0.0 i).last + 1)) (b.0.1 i))))

    refused_number : (explained_values (under_segment s xs)).number ≡ told (number_of f)
    refused_number = ways (λ n some u. rw (u, n) some.1) (λ fine clash z e u. rw u (chunk-number chunk ∙ chunk_told e))

-- under a segment's line: the refusal's number is explained, all but 10
pub under_number : (s : State) (xs : List ℕ) → Ready s → (explained_values (under_segment s xs)).number ≡ cond (eqb (answer_values (answer_to s xs).answer).number 10) 0 (answer_values (answer_to s xs).answer).number
unfolding under_segment
under_number s xs y = go (answer_to s xs).answer refl
  where
    go : (a : Result Answer Refusal) → (answer_to s xs).answer ≡ a → (explained_values (under_segment s xs)).number ≡ told (answer_values a).number
    go (Ok (Missing n)) is = rw is
    go (Ok (NewList k n)) is = rw is
    go (Err f) is = refused_number s xs y is

-- 2 to 7 are explained by the segment and its slot as it was; what the completed chunk is refused for, by that chunk
pub under_own : (s : State) (xs : List ℕ) {f : Refusal} → Ready s → (answer_to s xs).answer ≡ Err f → (completing s.desk xs ≡ false) ⊎ (clashes s.desk xs ≡ true) ⊎ ((segment_checks xs ≡ Ok tt) → ⊥) → under_segment s xs ≡ gathered_explained (slot_for (segment_kind xs) s.desk.notes) (bytes_for (segment_kind xs) s.desk) xs
under_own s xs y is why =
    ways s xs y is (λ n some u. u)
    (λ fine clash z e u. absurd (⊎_elim (λ c. true≢false (sym z ∙ c)) (⊎_elim (λ c. true≢false (sym c ∙ clash)) (λ c. c fine)) why))

pub under_held : (s : State) (xs : List ℕ) {f : Refusal} → Ready s → segment_checks xs ≡ Ok tt → clashes s.desk xs ≡ false → (answer_to s xs).answer ≡ Err f → under_segment s xs ≡ chunk_explained (chunk_in (slot_holding s.desk xs))
under_held s xs y fine clash is =
    ways s xs y is (λ n some u. absurd (some.0 (sym n ∙ rw (own_nothing s xs y fine clash)))) (λ fine clash z e u. u)

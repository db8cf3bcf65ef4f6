-- What a refusal of a segment answers and leaves. Assumes nothing.
use mathlib.Core.Path.{◌≡◌, refl, sym, ap, ◌∙◌, subst}
use mathlib.Core.Bool.{true, false}
use mathlib.Core.List.{List, [], ◌∷◌}
use Prim.Native.Nat.{ℕ, ◌+◌, ◌*◌, ◌≤◌}
use native.Mathlib.Omega.{arith}
use borrow.Author.Tests.{le-ltb, eq-eqb, ne_eqb, eqb-true}
use lib.Dec.{T, eqb}
use lib.ListN.{length, length-take}
use lib.Seq.{length-sets}
use Rattle.std.proofs.Common.{Result, Ok, Err}
use Rattle.octets.specs.Each.{Each}
use Rattle.octets.specs.Checks.{among}
use Rattle.octets.proofs.Laws.{either}
use Rattle.meaning.specs.declared.Kind.{Kind}
use Rattle.meaning.specs.declared.Refusal.{Refusal}
use Rattle.meaning.specs.declared.Refusal.TheVariants.{Clash}
use Rattle.meaning.specs.Sizes.{longest_chunk}
use Rattle.meaning.specs.Numbers.{number_of}
use Rattle.meaning.specs.Reading.{checks}
use Rattle.meaning.proofs.Gives.{Gives, gives_fine, gives_check, given, ensembles_give}
use Rattle.slots.specs.declared.Slot.{Slot}
use Rattle.slots.specs.declared.Answer.{Answer}
use Rattle.slots.specs.declared.Answer.TheVariants.{Missing, NewList}
use Rattle.segments.specs.Segment.{payload_bytes, segment_major, segment_kind, number_in, payload_in, segment_checks}
use Rattle.octets.specs.Sets.{holds}
use Rattle.slots.specs.Slots.{spoiled_slot, missing_in, slot_fits, clashing}
use Rattle.slots.specs.Gathering.{answer_fault, Side, Outcome, outcome, spoil, chunk_in, kind_checks, gathered}
use Rattle.slots.proofs.Keeps.{segment-passes, slot-numbers}
use Rattle.slots.proofs.Laws.{gathered_cases}
use Rattle.notes.specs.Notes.{slot_for}
use Rattle.desk.specs.declared.Desk.{Desk}
use Rattle.desk.specs.Desks.{well_formed, bytes_for, After, after, taken_by, call_checks, segment_after}
use Rattle.desk.proofs.Parts.{kind_fits}
use Rattle.desk.proofs.Ready.{Ready}
use Rattle.effects.specs.Effects.{slot_before, slot_holding, chunk_checks, segment_fault, Leaves, unchanged, spoils, completes, Changes}
use Rattle.effects.proofs.Ways.{own, Takes, takes, unlisted_becomes, missing_unchanged, called_ready, ready_called, segment_cases}

-- ---- the numbers that some checks can give

abbrev pub early_numbers : List ℕ
early_numbers = 1 ∷ 2 ∷ 3 ∷ 4 ∷ 5 ∷ 6 ∷ 12 ∷ []

abbrev chunk_numbers : List ℕ
chunk_numbers = 5 ∷ 9 ∷ 10 ∷ []

abbrev other_numbers : List ℕ
other_numbers = 1 ∷ 2 ∷ 3 ∷ 4 ∷ 6 ∷ 12 ∷ []

call_gives : (d : Desk) (xs first second : List ℕ) → Gives early_numbers (call_checks d xs first second)
unfolding segment_checks
call_gives d xs first second = search (gives_check, gives_fine) depth 8

-- a segment of major 0 gives none of its own
other_gives : (d : Desk) (xs first second : List ℕ) → segment_major xs ≡ 0 → Gives other_numbers (call_checks d xs first second)
unfolding segment_checks
other_gives d xs first second none = simp (eq-eqb _ _ none) (search (gives_check, gives_fine) depth 8)

-- a chunk in a slot is never too long
chunk_gives : (xs : List ℕ) → length xs ≤ longest_chunk → Gives chunk_numbers (checks xs)
unfolding checks
chunk_gives xs h = simp (le-ltb _ _ h) (search (gives_check, ensembles_give))

kind_gives : (v : Result Unit Refusal) (k : Kind) (xs : List ℕ) → Gives chunk_numbers v → Gives chunk_numbers (kind_checks v k xs)
kind_gives (Err f) k xs g = g
kind_gives (Ok _) k xs g = search gives_check

-- ---- what is left

-- what is so of the refusal, if an answer is one
abbrev Refusing : (Refusal → Type 0) → Result Answer Refusal → Type 0
Refusing P (Ok (Missing n)) = Unit {0}
Refusing P (Ok (NewList k n)) = Unit {0}
Refusing P (Err f) = P f

-- a well formed desk has well formed slots
pub slot-fits : (k : Kind) (d : Desk) → well_formed d ≡ true → slot_fits (slot_for k d.notes) (bytes_for k d) ≡ true
slot-fits k d w = (kind_fits k d w).1

module _ (d : Desk) (xs first second : List ℕ) where
  abbrev k : Kind
  k = segment_kind xs

  abbrev before : Side
  before = own k d first second

  abbrev Goes : After → Result Answer Refusal → Type 0
  Goes r a = Refusing (λ f. Leaves f d xs first second r) a

  -- what comes to the slot goes so
  taken_goes : Ready d first second → segment_checks xs ≡ Ok tt → Goes (taken_by k d xs first second) (taken_by k d xs first second).answer
  taken_goes y fine =
      let r = taken_by k d xs first second in
      let h = takes k d xs first second y.formed fine in
      let called = ready_called d xs first second y fine in
      subst (Goes r) (sym h.answer)
      (gathered_cases (λ o. Takes k d first second o r → Goes r o.answer) k xs before
      (λ c t. spoils called c refl (unlisted_becomes t (λ n. refl) refl))
      (λ c b t. tt)
      (λ p some t. tt)
      (λ p z f e t. completes called p.0 (simp (p.1, z)) e (unlisted_becomes t (λ n. refl) refl, z))
      (λ p z e t. tt)
      h)

  segment_goes : Goes (segment_after d xs first second) (segment_after d xs first second).answer
  segment_goes =
      segment_cases d xs first second (λ r. Goes r r.answer) (λ f e. unchanged e (refl, refl, refl)) taken_goes

pub refusal_leaves : (d : Desk) (xs first second : List ℕ) (f : Refusal) → let r = segment_after d xs first second in r.answer ≡ Err f → Leaves f d xs first second r
refusal_leaves d xs first second f e = subst (Goes d xs first second (segment_after d xs first second)) e (segment_goes d xs first second)

-- ---- the numbers of refusals

-- what is so of some numbers is so of each among them
pub of_each : (P : ℕ → Type 0) (ms : List ℕ) (n : ℕ) → Each P ms → T (among ms n) → P n
of_each P [] n h t = absurd t
of_each P (m ∷ ms) n h t =
    either (eqb n m) (λ q. rw (eqb-true n m q) h.0) (λ q. of_each P ms n h.1 (simp q at t))

module _ (d : Desk) (xs first second : List ℕ) (f : Refusal) where
  pub early_number : call_checks d xs first second ≡ Err f → T (among early_numbers (number_of f))
  early_number e = given early_numbers e (call_gives d xs first second)

  chunk-number : call_checks d xs first second ≡ Ok tt → chunk_checks d xs ≡ Err f → T (among chunk_numbers (number_of f))
  chunk-number called e =
      let s : Side = slot_before d xs in
      let chunk : List ℕ = chunk_in (slot_holding d xs) in
      let fits = (slot-numbers s.slot s.bytes (slot-fits (segment_kind xs) d (called_ready d xs first second called).0.formed)).0 in
      let short : length chunk ≤ longest_chunk =
      omega (arith, length-take (payload_bytes * ((slot_holding d xs).slot.last + 1)) (slot_holding d xs).bytes, length-sets s.bytes (payload_bytes * number_in xs) (payload_in xs)) in
      given chunk_numbers e (kind_gives (checks chunk) (segment_kind xs) chunk (chunk_gives chunk short))

  -- 5 of the call's own checks is the segment's major
  own_major : call_checks d xs first second ≡ Err f → number_of f ≡ 5 → segment_major xs ≡ 0 → ⊥
  own_major e five none = rw five at (given other_numbers e (other_gives d xs first second none))

  pub refusal_number : (segment_after d xs first second).answer ≡ Err f → T (among (1 ∷ 2 ∷ 3 ∷ 4 ∷ 5 ∷ 6 ∷ 7 ∷ 9 ∷ 10 ∷ 12 ∷ []) (number_of f))
  refusal_number e = go (refusal_leaves d xs first second f e)
    where
      all : List ℕ
      all = 1 ∷ 2 ∷ 3 ∷ 4 ∷ 5 ∷ 6 ∷ 7 ∷ 9 ∷ 10 ∷ 12 ∷ []

      go : {r : After} → Leaves f d xs first second r → T (among all (number_of f))
      go (unchanged c same) = of_each (λ n. T (among all n)) early_numbers (number_of f) (search) (early_number c)
      go (spoils called c is b) = rw is tt
      go (completes called c z refused b) = of_each (λ n. T (among all n)) chunk_numbers (number_of f) (search) (chunk-number called refused)

-- by its number
pub refusal_changes : (d : Desk) (xs first second : List ℕ) (f : Refusal) → let r = segment_after d xs first second in r.answer ≡ Err f → Changes (number_of f) d xs first second r
refusal_changes d xs first second f e = go (refusal_leaves d xs first second f e)
  where
    apart : (ms ns : List ℕ) → Each (λ m. T (among ns m) → ⊥) ms → T (among ms (number_of f)) → T (among ns (number_of f)) → ⊥
    apart ms ns h = of_each (λ n. T (among ns n) → ⊥) ms (number_of f) h

    go : {r : After} → Leaves f d xs first second r → Changes (number_of f) d xs first second r
    go (unchanged c same) =
        let m = early_number d xs first second f c in
        record {
          nothing = λ t. same;
          clash = λ seven. absurd (rw seven at m);
          chunk = λ t. absurd (apart early_numbers (9 ∷ 10 ∷ []) (search) m t);
          header = λ five differs. same;
          major = λ five none. absurd (own_major d xs first second f c five none);
        }
    go (spoils called c is b) =
        record {
          nothing = λ t. absurd (rw is at t);
          clash = λ seven. b;
          chunk = λ t. absurd (rw is at t);
          header = λ five. absurd (omega (arith, ap number_of is));
          major = λ five. absurd (omega (arith, ap number_of is));
        }
    go (completes called c z refused b) =
        let m = chunk-number d xs first second f called refused in
        record {
          nothing = λ t. absurd (apart chunk_numbers other_numbers (search) m t);
          clash = λ seven. absurd (rw seven at m);
          chunk = λ t. b;
          header = λ five differs. absurd (differs (segment-passes xs (called_ready d xs first second called).1).2);
          major = λ five none. b;
        }

-- ---- exactly when

pub answer_exactly : (d : Desk) (xs first second : List ℕ) → answer_fault (segment_after d xs first second).answer ≡ segment_fault d xs first second
unfolding segment_fault
answer_exactly d xs first second =
    let k : Kind = segment_kind xs in
    segment_cases d xs first second (λ r. answer_fault r.answer ≡ segment_fault d xs first second) (λ f e. simp e)
    (λ y fine.
    let h = takes k d xs first second y.formed fine in
    let called = ready_called d xs first second y fine in
    ap answer_fault h.answer
    ∙ gathered_cases (λ o. answer_fault o.answer ≡ segment_fault d xs first second) k xs (own k d first second)
    (λ c. simp (called, c))
    (λ c b. simp (called, c, b))
    (λ p some. simp (called, p.0, p.1, ne_eqb _ _ some))
    (λ p z f e. simp (called, p.0, p.1, z, e))
    (λ p z e. simp (called, p.0, p.1, z, e)))

-- ---- a repeat, and a spoiled slot

module _ (d : Desk) (xs first second : List ℕ) (called : call_checks d xs first second ≡ Ok tt) where
  abbrev slot : Slot
  slot = slot_for (segment_kind xs) d.notes

  abbrev bytes : List ℕ
  bytes = bytes_for (segment_kind xs) d

  comes : {o : Outcome} → gathered (segment_kind xs) xs (own (segment_kind xs) d first second) ≡ o → Takes (segment_kind xs) d first second o (segment_after d xs first second)
  unfolding segment_after
  comes e =
      let p = called_ready d xs first second called in
      rw (called, sym e) (takes (segment_kind xs) d xs first second p.0.formed p.1)

  pub repeat-unchanged : clashing slot bytes xs ≡ false → holds slot.held (number_in xs) ≡ true → segment_after d xs first second ≡ after (Ok (Missing (missing_in slot))) d first second
  unfolding gathered
  repeat-unchanged c h = missing_unchanged (segment_kind xs) d first second _ (comes (simp (c, h)))

  pub spoiled_refused : slot.spoiled ≡ true → let r = segment_after d xs first second in (r.answer ≡ Err Clash) × (slot_for (segment_kind xs) r.desk.notes ≡ spoiled_slot)
  unfolding gathered clashing
  spoiled_refused e =
      let h : Takes (segment_kind xs) d first second (outcome (Err Clash) (spoil (own (segment_kind xs) d first second))) (segment_after d xs first second) = comes (simp e) in
      (h.answer, h.slot)

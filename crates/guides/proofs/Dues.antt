-- What is due to numbers that come one after the other: once each has come it is complete. Assumes nothing.
use mathlib.Core.Path.{◌≡◌, refl, sym, ap, subst, ◌∙◌}
use mathlib.Core.Bool.{Bool, true, false, ◌||◌, true≢false, false≢true, or-false, or-true, or_comm, or_assoc}
use mathlib.Core.List.{List, [], ◌∷◌, ◌++◌}
use Prim.Native.Nat.{ℕ, suc, ◌≤◌, ◌<◌}
use native.Mathlib.Omega.{arith}
use borrow.Author.Tests.{eqb-true, eqb-false}
use lib.Dec.{eqb}
use lib.ListN.{length}
use Rattle.std.specs.Prelude.{Result, Ok}
use Rattle.octets.specs.Checks.{among}
use Rattle.octets.specs.Each.{Each}
use Rattle.octets.proofs.Laws.{test_again, either, each_right}
use Rattle.sections.specs.declared.Refusal.{Refusal}
use Rattle.guides.specs.declared.Answer.{Answer}
use Rattle.guides.specs.declared.Answer.TheVariants.{Noted, Repeat}
use Rattle.guides.specs.Gathering.{missing_of, guide_values}
use Rattle.guides.specs.Tables.{due, dues_from, All, Completes}
use Rattle.guides.proofs.Counts.{missing_some, missing_none, none_missing}

-- ---- the numbers that have come

-- some more, the last to come first
abbrev pub arrived : List ℕ → List ℕ → List ℕ
arrived came [] = came
arrived came (n ∷ more) = arrived (n ∷ came) more

among_arrived : (came ns : List ℕ) (m : ℕ) → among (arrived came ns) m ≡ among ns m || among came m
among_arrived came [] m = refl
among_arrived came (n ∷ more) m =
    among_arrived (n ∷ came) more m
    ∙ sym (or_assoc (among more m) (eqb m n) (among came m))
    ∙ ap (λ (t : Bool). t || among came m) (or_comm (among more m) (eqb m n))

pub arrived_all : (ns : List ℕ) (m : ℕ) → among (arrived [] ns) m ≡ among ns m
arrived_all ns m = among_arrived [] ns m ∙ or-false (among ns m)

among_snoc : (ns : List ℕ) (n m : ℕ) → among (ns ++ n ∷ []) m ≡ eqb m n || among ns m
among_snoc [] n m = refl
among_snoc (k ∷ ns) n m =
    ap (λ (t : Bool). eqb m k || t) (among_snoc ns n m)
    ∙ sym (or_assoc (eqb m k) (eqb m n) (among ns m))
    ∙ ap (λ (t : Bool). t || among ns m) (or_comm (eqb m k) (eqb m n))
    ∙ or_assoc (eqb m n) (eqb m k) (among ns m)

-- neither of two tests passes
neither : (s t : Bool) → s || t ≡ false → (s ≡ false) × (t ≡ false)
neither true t e = absurd (true≢false e)
neither false t e = (refl, e)

-- ---- what is due

module _ (last : ℕ) where
  length_dues : (came ns : List ℕ) → length (dues_from last came ns) ≡ length ns
  unfolding dues_from
  length_dues came [] = refl
  length_dues came (n ∷ more) = ap suc (length_dues (n ∷ came) more)

  dues_append : (came ns more : List ℕ) → dues_from last came (ns ++ more) ≡ dues_from last came ns ++ dues_from last (arrived came ns) more
  unfolding dues_from
  dues_append came [] more = refl
  dues_append came (n ∷ ns) more = ap (λ (r : List (Result Answer Refusal)). due last came n ∷ r) (dues_append (n ∷ came) ns more)

  -- as long as a number does not come, some are missing
  dues_short : (number : ℕ) → number ≤ last → (came ns : List ℕ) → among came number ≡ false → among ns number ≡ false → Each (λ a. 0 < (guide_values a).missing) (dues_from last came ns)
  unfolding dues_from
  dues_short number l came [] c e = tt
  dues_short number l came (n ∷ more) c e =
      let other = neither (eqb number n) (among more number) e in
      let still : among (n ∷ came) number ≡ false = simp other.0 c in
      let one : 0 < (guide_values (due last came n)).missing =
      either (among came n) (λ t. simp t (missing_some (among came) last number l c)) (λ t. simp t (missing_some (among (n ∷ came)) last number l still)) in
      (one, dues_short number l (n ∷ came) more still other.1)

  -- once each has come, all that come are repeats and none is missing
  dues_done : (came ns : List ℕ) → All last came → Each (λ n. n ≤ last) ns → Each (λ a. a ≡ Ok (Repeat 0)) (dues_from last came ns)
  unfolding dues_from
  dues_done came [] all inside = tt
  dues_done came (n ∷ more) all inside = (
    simp (all n inside.0) (ap (λ (k : ℕ). Ok (Repeat k)) (missing_none (among came) last all)),
    dues_done (n ∷ came) more (λ m l. simp (all m l) (or-true (eqb m n))) inside.1,
  )

  -- ---- the one with which each has come

  record Split (came ns : List ℕ) : Type 0 where
    before : List ℕ
    number : ℕ
    after : List ℕ
    order : ns ≡ before ++ number ∷ after
    new : among (arrived came before) number ≡ false
    all : All last (number ∷ arrived came before)

  split : (came ns : List ℕ) → (All last came → ⊥) → All last (arrived came ns) → Split came ns
  split came [] lacks all = absurd (lacks all)
  split came (n ∷ more) lacks all =
      either (eqb (missing_of (among (n ∷ came)) last) 0)
      (λ t.
      let whole : All last (n ∷ came) = none_missing (among (n ∷ came)) last (eqb-true _ 0 t) in
      let new : among came n ≡ false = either (among came n) (λ c. absurd (lacks (λ m l. test_again (among came) n m c ∙ whole m l))) (λ c. c) in
      record { before = []; number = n; after = more; order = refl; new = new; all = whole })
      (λ t.
      let rest = split (n ∷ came) more (λ whole. eqb-false _ 0 t (missing_none (among (n ∷ came)) last whole)) all in
      record {
        before = n ∷ rest.before;
        number = rest.number;
        after = rest.after;
        order = ap (λ (r : List ℕ). n ∷ r) rest.order;
        new = rest.new;
        all = rest.all;
      })

  pub dues_complete : (ns : List ℕ) → Each (λ n. n ≤ last) ns → All last ns → Completes last ns (dues_from last [] ns)
  unfolding dues_from
  dues_complete ns inside all =
      let r = split [] ns (λ none. false≢true (none 0 (omega arith))) (λ m l. arrived_all ns m ∙ all m l) in
      let came : List ℕ = arrived [] r.before in
      let new : among r.before r.number ≡ false = sym (arrived_all r.before r.number) ∙ r.new in
      let ends : due last came r.number ≡ Ok (Noted 0) = simp r.new (ap (λ (k : ℕ). Ok (Noted k)) (missing_none (among (r.number ∷ came)) last r.all)) in
      let rest = each_right (λ n. n ≤ last) r.before (r.number ∷ r.after) (subst (Each (λ n. n ≤ last)) r.order inside) in
      record {
        before = r.before;
        number = r.number;
        after = r.after;
        waiting = dues_from last [] r.before;
        repeats = dues_from last (r.number ∷ came) r.after;
        order = r.order;
        new = new;
        all = λ m l. among_snoc r.before r.number m ∙ ap (λ (t : Bool). eqb m r.number || t) (sym (arrived_all r.before m)) ∙ r.all m l;
        answered = ap (dues_from last []) r.order
            ∙ dues_append [] r.before (r.number ∷ r.after)
            ∙ ap (λ (a : Result Answer Refusal). dues_from last [] r.before ++ a ∷ dues_from last (r.number ∷ came) r.after) ends;
        place = length_dues [] r.before;
        short = dues_short r.number rest.0 [] r.before refl new;
        done = dues_done (r.number ∷ came) r.after r.all rest.1;
      }

-- What one call leaves of two memories, the first bytes of each lent to it. Assumes nothing.
use mathlib.Core.Path.{◌≡◌, refl, sym, ap, ap₂, ◌∙◌, subst}
use mathlib.Core.Bool.{Bool, true, false, cond}
use mathlib.Core.List.{List, [], ◌++◌, append_assoc}
use Prim.Native.Nat.{ℕ, ◌≤◌}
use native.Mathlib.Omega.{arith}
use lib.ListN.{length, take, drop, length-append, take-append-drop}
use lib.Seq.{length_front, drop-append-le}
use Rattle.std.proofs.Common.{Result}
use Rattle.meaning.specs.declared.Refusal.{Refusal}
use Rattle.meaning.specs.declared.Kind.{Kind}
use Rattle.meaning.specs.Sizes.{longest_listing}
use Rattle.segments.specs.Segment.{segment_kind}
use Rattle.slots.specs.declared.Answer.{Answer}
use Rattle.notes.specs.Notes.{other_kind, first_serves, lent_for}
use Rattle.desk.specs.declared.Desk.{Desk}
use Rattle.desk.specs.Desks.{After, after, segment_after}
use Rattle.desk.specs.Calls.{Lending, state, lent_by}
use Rattle.effects.specs.Effects.{Kept}
use Rattle.effects.proofs.Keeps.{same_lengths}
use Rattle.effects.proofs.Apart.{other-kept}

-- ---- one of two

chosen_sizes : (mine : Bool) (a b x y : List ℕ) → (length a ≡ length x) × (length b ≡ length y) → length (cond mine a b) ≡ length (cond mine x y)
chosen_sizes true a b x y e = e.0
chosen_sizes false a b x y e = e.1

chosen_parts : {A B C D : Type 0} (f : A → B → C → D) (mine : Bool) (a x : A) (b y : B) (c z : C) → cond mine (f a b c) (f x y z) ≡ f (cond mine a x) (cond mine b y) (cond mine c z)
chosen_parts f true a x b y c z = refl
chosen_parts f false a x b y c z = refl

-- the first bytes of a memory written over
abbrev written : List ℕ → ℕ → List ℕ → List ℕ
written new n memory = new ++ drop n memory

written_listing : (xs : List ℕ) (n : ℕ) (memory : List ℕ) → length xs ≤ length (take n memory) → written (xs ++ drop (length xs) (take n memory)) n memory ≡ xs ++ drop (length xs) memory
written_listing xs n memory l =
    append_assoc xs (drop (length xs) (take n memory)) (drop n memory)
    ∙ ap (λ (t : List ℕ). xs ++ t) (sym (drop-append-le (length xs) (take n memory) (drop n memory) l) ∙ ap (drop (length xs)) (take-append-drop n memory))

-- ---- a call

-- both memories are long enough for a piece; swapped tells the buffers' roles
abbrev pub Lent : Bool → Desk → List ℕ → List ℕ → Type 0
Lent swapped d first second = (longest_listing ≤ length first) × (longest_listing ≤ length second) × (d.notes.swapped ≡ swapped)

-- its result, with all of both memories
abbrev pub wide : Lending → List ℕ → List ℕ → After → After
wide c first second r = after r.answer r.desk (r.first ++ drop c.first first) (r.second ++ drop c.second second)

abbrev pub called : Desk → Lending → List ℕ → List ℕ → After
called d c first second = lent_by segment_after (state d first second) c

module _ (d : Desk) (c : Lending) (first second : List ℕ) where
  abbrev one : List ℕ
  one = take c.first first

  abbrev two : List ℕ
  two = take c.second second

  abbrev result : After
  result = segment_after d c.segment one two

  pub wide_unchanged : (a : Result Answer Refusal) → wide c first second (after a d (take c.first first) (take c.second second)) ≡ after a d first second
  wide_unchanged a = ap₂ (λ (x y : List ℕ). after a d x y) (take-append-drop c.first first) (take-append-drop c.second second)

  pub called_lent : {swapped : Bool} → Lent swapped d first second → let r = called d c first second in Lent swapped r.desk r.first r.second
  called_lent h =
      let same = same_lengths d c.segment one two in (
        rw (length_front first result.first c.first same.0) h.0,
        rw (length_front second result.second c.second same.1) h.1,
        (other-kept d c.segment one two).4 ∙ h.2,
      )

  -- a listing xs, or nothing, in the lent part of a memory
  pub called_left : (k : Kind) (t : Bool) (xs : List ℕ) → let r = segment_after d c.segment (take c.first first) (take c.second second) in let o = called d c first second in lent_for k t r.first r.second ≡ xs ++ drop (length xs) (lent_for k t (take c.first first) (take c.second second)) → lent_for k t o.first o.second ≡ xs ++ drop (length xs) (lent_for k t first second)
  called_left k t xs e =
      let n : ℕ = lent_for k t c.first c.second in
      let memory : List ℕ = lent_for k t first second in
      let lent : lent_for k t one two ≡ take n memory = chosen_parts (λ x m y. take m y) (first_serves k t) first second c.first c.second first second in
      let new : lent_for k t result.first result.second ≡ xs ++ drop (length xs) (take n memory) =
      e ∙ ap (λ (x : List ℕ). xs ++ drop (length xs) x) lent in
      let size = chosen_sizes (first_serves k t) result.first result.second one two (same_lengths d c.segment one two) in
      chosen_parts written (first_serves k t) result.first result.second c.first c.second first second
      ∙ ap (λ (x : List ℕ). written x n memory) new
      ∙ written_listing xs n memory (omega (arith, size, ap length lent, ap length new, length-append xs (drop (length xs) (take n memory))))

  -- the other kind is left alone
  pub called-kept : {k : Kind} → segment_kind c.segment ≡ k → Kept d.notes.swapped (other_kind k) d first second (called d c first second)
  called-kept {k} e =
      let t : Bool = d.notes.swapped in
      let h = subst (λ (j : Kind). Kept t (other_kind j) d one two result) e (other-kept d c.segment one two) in
      (h.0, h.1, h.2, called_left (other_kind k) t [] h.3, h.4)

-- A call with a segment that is not of the kind k, or is refused for its own length or header, leaves that kind alone and lists nothing of it.
-- Assumes nothing.
use mathlib.Core.Path.{◌≡◌, refl, sym, ap, ◌∙◌, subst}
use mathlib.Core.Bool.{true, false, cond, ◌||◌}
use mathlib.Core.Logic.{◌⊎◌, inl, inr}
use mathlib.Core.List.{List, ◌∷◌}
use Prim.Native.Nat.{ℕ, ◌+◌}
use native.Mathlib.Omega.{arith}
use lib.Dec.{eqb}
use lib.ListN.{take}
use Rattle.std.proofs.Common.{Result, Ok, Err}
use Rattle.octets.proofs.Laws.{either}
use Rattle.meaning.specs.declared.Kind.{Kind}
use Rattle.meaning.specs.declared.Kind.TheVariants.{This, Next}
use Rattle.meaning.specs.declared.Refusal.{Refusal}
use Rattle.meaning.specs.declared.Refusal.TheVariants.{ShortBuffer, BadDesk}
use Rattle.meaning.specs.Lists.{current_of}
use Rattle.segments.specs.Segment.{segment_kind, segment_checks}
use Rattle.slots.specs.declared.Answer.{Answer}
use Rattle.slots.specs.declared.Answer.TheVariants.{Missing, NewList}
use Rattle.notes.specs.Notes.{other_kind, too_short}
use Rattle.desk.specs.declared.Desk.{Desk}
use Rattle.desk.specs.Desks.{well_formed, After, after, segment_after}
use Rattle.desk.specs.Calls.{Lending}
use Rattle.effects.specs.Effects.{Kept}
use Rattle.effects.proofs.Frames.{listed_shown}
use Rattle.gatherings.specs.Once.{lists_of}
use Rattle.gatherings.proofs.Memory.{wide, called, wide_unchanged, called-kept}

other_twice : (k : Kind) → other_kind (other_kind k) ≡ k
other_twice This = refl
other_twice Next = refl

other-apart : (k : Kind) → eqb (current_of (other_kind k)) (current_of k) ≡ false
other-apart This = refl
other-apart Next = refl

-- the answer is no list of the kind k
abbrev pub Unlisted : Kind → Result Answer Refusal → Type 0
Unlisted k a = (more : List (Result Answer Refusal)) → lists_of k (a ∷ more) ≡ lists_of k more

module _ (k : Kind) where
  other_unlisted : (a : Result Answer Refusal) → ((j : Kind) (n : ℕ) → a ≡ Ok (NewList j n) → j ≡ other_kind k) → Unlisted k a
  other_unlisted (Ok (Missing n)) h more = refl
  other_unlisted (Ok (NewList j n)) h more =
      ap (λ (i : Kind). cond (eqb (current_of i) (current_of k)) 1 0 + lists_of k more) (h j n refl)
      ∙ simp (other-apart k) (omega arith)
  other_unlisted (Err f) h more = refl

-- a segment that does not pass its own checks changes nothing
refused_unchanged : (d : Desk) (xs first second : List ℕ) → (segment_checks xs ≡ Ok tt → ⊥) → (P : After → Type 0) → ((f : Refusal) → P (after (Err f) d first second)) → P (segment_after d xs first second)
unfolding segment_after
refused_unchanged d xs first second bad P refused =
    either (well_formed d)
    (λ w. either (too_short first || too_short second) (λ s. simp (w, s) (refused ShortBuffer)) (λ s. go w s (segment_checks xs) refl))
    (λ w. simp w (refused BadDesk))
  where
    go : well_formed d ≡ true → too_short first || too_short second ≡ false → (v : Result Unit Refusal) → segment_checks xs ≡ v → P (segment_after d xs first second)
    go w s (Err f) e = simp (w, s, e) (refused f)
    go w s (Ok _) e = absurd (bad e)

module _ (k : Kind) (d : Desk) (c : Lending) (first second : List ℕ) where
  abbrev Aside : After → Type 0
  Aside r = Kept d.notes.swapped k d first second r × Unlisted k r.answer

  pub other-called : (segment_kind c.segment ≡ other_kind k) ⊎ (segment_checks c.segment ≡ Ok tt → ⊥) → let r = called d c first second in Kept d.notes.swapped k d first second r × Unlisted k r.answer
  other-called (inl e) =
      let r : After = called d c first second in (
        subst (λ (j : Kind). Kept d.notes.swapped j d first second r) (other_twice k) (called-kept d c first second e),
        other_unlisted k r.answer (λ j n q. (listed_shown d c.segment (take c.first first) (take c.second second) j n q).0 ∙ e),
      )
  other-called (inr bad) =
      refused_unchanged d c.segment (take c.first first) (take c.second second) bad (λ r. Aside (wide c first second r))
      (λ f. subst Aside (sym (wide_unchanged d c first second (Err f))) ((refl, refl, refl, refl, refl), λ more. refl))

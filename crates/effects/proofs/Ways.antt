-- The two ways of a segment: it is refused before its slot, or it comes to the slot of its kind. Assumes nothing.
use mathlib.Core.Path.{◌≡◌, refl, ◌∙◌}
use mathlib.Core.Bool.{true, not, ◌||◌}
use mathlib.Core.List.{List}
use Prim.Native.Nat.{ℕ}
use borrow.Author.Tests.{le-ltb, not-false}
use lib.ListN.{length}
use Rattle.std.proofs.Common.{Result, Ok, Err}
use Rattle.meaning.specs.declared.Kind.{Kind}
use Rattle.meaning.specs.declared.Kind.TheVariants.{This, Next}
use Rattle.meaning.specs.declared.Refusal.{Refusal}
use Rattle.meaning.specs.declared.Refusal.TheVariants.{ShortBuffer, BadDesk}
use Rattle.meaning.specs.Sizes.{longest_chunk}
use Rattle.meaning.proofs.Checks.{check_passed}
use Rattle.slots.specs.declared.Answer.TheVariants.{Missing}
use Rattle.segments.specs.Segment.{segment_kind, segment_checks}
use Rattle.slots.specs.Gathering.{Side, Outcome, outcome, gathered}
use Rattle.slots.proofs.Keeps.{slot-numbers, gathered-fits}
use Rattle.notes.specs.Notes.{slot_for, length_for, other_kind, lent_for, too_short, length_after}
use Rattle.notes.proofs.Roles.{put_roles, both_roles}
use Rattle.desk.specs.declared.Desk.{Desk}
use Rattle.desk.specs.Desks.{desk, well_formed, bytes_for, After, after, side_of, taken_by, call_checks, answered_by, segment_after}
use Rattle.desk.proofs.Parts.{kind_fits}
use Rattle.desk.proofs.Ready.{Ready, long_ready, ready_answered}
use Rattle.effects.specs.Effects.{Kept, Becomes}
use Rattle.effects.proofs.Parts.{same_bytes, altered-bytes}

-- ---- a segment of the kind k that came to its slot

-- what it may read and alter
abbrev pub own : Kind → Desk → List ℕ → List ℕ → Side
own k d first second = side_of k d (lent_for k d.notes.swapped first second)

-- the result r has for the kind k what that came to, the outcome o, and for the other kind what there was
pub record Takes (k : Kind) (d : Desk) (first second : List ℕ) (o : Outcome) (r : After) : Type 0 where
  pub answer : r.answer ≡ o.answer
  pub slot : slot_for k r.desk.notes ≡ o.side.slot
  pub bytes : bytes_for k r.desk ≡ o.side.bytes
  pub size : length_for k r.desk.notes ≡ length_after o.answer (length_for k d.notes)
  pub buffer : lent_for k d.notes.swapped r.first r.second ≡ o.side.buffer
  pub other : Kept d.notes.swapped (other_kind k) d first second r

gathered_long : (k : Kind) (d : Desk) (xs buffer : List ℕ) → well_formed d ≡ true → segment_checks xs ≡ Ok tt → length (gathered k xs (side_of k d buffer)).side.bytes ≡ longest_chunk
gathered_long k d xs buffer w fine = (slot-numbers _ _ (gathered-fits k xs (side_of k d buffer) (kind_fits k d w).1 fine)).0

pub takes : (k : Kind) (d : Desk) (xs first second : List ℕ) → well_formed d ≡ true → segment_checks xs ≡ Ok tt → Takes k d first second (gathered k xs (own k d first second)) (taken_by k d xs first second)
unfolding taken_by
takes This d xs first second w fine =
    let p = put_roles This d.notes.swapped first second _ in
    let b = altered-bytes This d (gathered This xs (own This d first second)) w (gathered_long This d xs _ w fine) in
    record { answer = refl; slot = refl; bytes = b.0; size = refl; buffer = p.0; other = (refl, b.1, refl, p.1, refl) }
takes Next d xs first second w fine =
    let p = put_roles Next d.notes.swapped first second _ in
    let b = altered-bytes Next d (gathered Next xs (own Next d first second)) w (gathered_long Next d xs _ w fine) in
    record { answer = refl; slot = refl; bytes = b.0; size = refl; buffer = p.0; other = (refl, b.1, refl, p.1, refl) }

module _ {k : Kind} {d : Desk} {first second : List ℕ} {o : Outcome} {r : After} (h : Takes k d first second o r) where
  -- an outcome that lists nothing and has the buffer as it was
  pub unlisted_becomes : ((n : ℕ) → length_after o.answer n ≡ n) → o.side.buffer ≡ (own k d first second).buffer → Becomes k d first second o.side r
  unlisted_becomes none same =
      let l = both_roles (λ b. b) k d.notes.swapped r.first r.second first second (h.buffer ∙ same) h.other.3 in
      (h.slot, h.bytes, h.size ∙ none _, l.0, l.1)

-- a repeat alters nothing
pub missing_unchanged : {n : ℕ} (k : Kind) (d : Desk) (first second : List ℕ) (r : After) → Takes k d first second (outcome (Ok (Missing n)) (own k d first second)) r → r ≡ after (Ok (Missing n)) d first second
missing_unchanged This d first second r h =
    let b = unlisted_becomes h (λ n. refl) refl in
    let c = h.other in
    λ i. after (h.answer i) (desk (record { this = b.0 i; next = c.0 i; shown = b.2 i; coming = c.2 i; swapped = c.4 i }) (same_bytes r.desk d b.1 c.1 i)) (b.3 i) (b.4 i)
missing_unchanged Next d first second r h =
    let b = unlisted_becomes h (λ n. refl) refl in
    let c = h.other in
    λ i. after (h.answer i) (desk (record { this = c.0 i; next = b.0 i; shown = c.2 i; coming = b.2 i; swapped = c.4 i }) (same_bytes r.desk d c.1 b.1 i)) (b.3 i) (b.4 i)

-- ---- a segment

module _ (d : Desk) (xs first second : List ℕ) where
  -- what the checks before the slot's find fine
  pub called_ready : call_checks d xs first second ≡ Ok tt → Ready d first second × (segment_checks xs ≡ Ok tt)
  called_ready e =
      let a = check_passed (not (well_formed d)) BadDesk _ e in
      let b = check_passed (too_short first || too_short second) ShortBuffer _ a.1 in
      (long_ready d first second (not-false _ a.0) b.0, b.1)

  -- it is refused by a check before the slot's, and all is as it was, or it comes to the slot
  pub segment_cases : (P : After → Type 0) → ((f : Refusal) → call_checks d xs first second ≡ Err f → P (after (Err f) d first second)) → (Ready d first second → segment_checks xs ≡ Ok tt → P (taken_by (segment_kind xs) d xs first second)) → P (segment_after d xs first second)
  unfolding segment_after
  segment_cases P refused taken = go (call_checks d xs first second) refl
    where
      go : (v : Result Unit Refusal) → call_checks d xs first second ≡ v → P (answered_by v d xs first second)
      go (Err f) e = refused f e
      go (Ok _) e = let p = called_ready e in taken p.0 p.1

  -- and the other way round
  pub ready_called : Ready d first second → segment_checks xs ≡ Ok tt → call_checks d xs first second ≡ Ok tt
  ready_called y fine = simp (y.formed, le-ltb _ _ y.left, le-ltb _ _ y.right, fine)

  pub segment_comes : (k : Kind) → segment_kind xs ≡ k → Ready d first second → segment_checks xs ≡ Ok tt → Takes k d first second (gathered k xs (own k d first second)) (segment_after d xs first second)
  segment_comes k is y fine = rw (ready_answered d xs first second y, fine, is) (takes k d xs first second y.formed fine)

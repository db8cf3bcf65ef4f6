-- A desk and two buffers that are ready for a segment. Assumes nothing.
use mathlib.Core.Path.{◌≡◌, sym, ◌∙◌}
use mathlib.Core.Bool.{Bool, true, false, cond, ◌||◌, false≢true}
use mathlib.Core.List.{List}
use Prim.Native.Nat.{ℕ, ◌≤◌}
use borrow.Author.Tests.{ltb-false, le-ltb}
use lib.ListN.{length}
use Rattle.octets.proofs.Laws.{either}
use Rattle.meaning.specs.declared.Kind.{Kind}
use Rattle.meaning.specs.Sizes.{longest_listing}
use Rattle.segments.specs.Segment.{segment_checks}
use Rattle.notes.specs.Notes.{lent_for, too_short}
use Rattle.notes.proofs.Roles.{roles}
use Rattle.desk.specs.declared.Desk.{Desk}
use Rattle.desk.specs.Desks.{well_formed, answered_by, segment_after}

-- the desk is well formed and both buffers are long enough
pub record Ready (d : Desk) (first second : List ℕ) : Type 0 where
  pub formed : well_formed d ≡ true
  pub left : longest_listing ≤ length first
  pub right : longest_listing ≤ length second

pub lent_room : {d : Desk} {first second : List ℕ} → Ready d first second → (k : Kind) (t : Bool) → longest_listing ≤ length (lent_for k t first second)
lent_room {first = first} {second = second} y = roles (λ m o. longest_listing ≤ length (cond m first second)) y.left y.right

pub long_ready : (d : Desk) (first second : List ℕ) → well_formed d ≡ true → too_short first || too_short second ≡ false → Ready d first second
long_ready d first second w e =
    either (too_short first) (λ s. absurd (false≢true (sym e ∙ simp s)))
    (λ s. record { formed = w; left = ltb-false _ _ s; right = ltb-false (length second) longest_listing (simp s at e) })

-- on a desk that is ready, by the checks on the segment itself
pub ready_answered : (d : Desk) (xs first second : List ℕ) → Ready d first second → segment_after d xs first second ≡ answered_by (segment_checks xs) d xs first second
unfolding segment_after
ready_answered d xs first second y = simp (y.formed, le-ltb _ _ y.left, le-ltb _ _ y.right)

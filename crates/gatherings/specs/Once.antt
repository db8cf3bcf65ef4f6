-- Demand 3: the pieces of a chunk in any order, with repeats and other segments between them, and what must come of it.
use Rattle.std.specs.Prelude.{ℕ, suc, ◌+◌, ◌-◌, ◌*◌, ◌≤◌, ◌<◌, ◌≡◌, Bool, cond, not, ◌&&◌, ◌⊎◌, List, [], ◌∷◌, ◌++◌, map, T, eqb, length, drop, Result, Ok, Err}
use Rattle.octets.specs.Bits.{Bytes}
use Rattle.octets.specs.Each.{Each}
use Rattle.octets.specs.Checks.{among}
use Rattle.meaning.specs.declared.Refusal.{Refusal}
use Rattle.meaning.specs.declared.Kind.{Kind}
use Rattle.meaning.specs.Sizes.{longest_listing}
use Rattle.meaning.specs.Lists.{FicList, current_of}
use Rattle.meaning.specs.Layout.{Carries}
use Rattle.meaning.specs.Listing.{listing}
use Rattle.segments.specs.Segment.{payload_bytes, segment_kind, segment_checks}
use Rattle.segments.specs.Cut.{segment_count, piece_of, up_from}
use Rattle.slots.specs.declared.Answer.{Answer}
use Rattle.slots.specs.declared.Answer.TheVariants.{Missing, NewList}
use Rattle.notes.specs.Notes.{other_kind, lent_for}
use Rattle.desk.specs.declared.Desk.{Desk}
use Rattle.desk.specs.Calls.{Lending, Call, segment, state, shown_in, SegmentCall, Ran, ran_by, answers_of}
use Rattle.gatherings.specs.Deliveries.{AtStart}

-- ---- what may be delivered while the pieces of a chunk come

-- a piece of the chunk by its number, with this reserved bit and this wake_up_indicator in its header, or another segment; and how much is lent
pub data Delivery : Type 0 where
  piece : (i reserved wake first second : ℕ) → Delivery
  other : (xs : List ℕ) (first second : ℕ) → Delivery

-- what is lent, the chunk being ys and the last payload filled up with fill
abbrev pub lending_for : List ℕ → List ℕ → Delivery → Lending
lending_for ys fill (piece i reserved wake first second) =
    record { segment = piece_of ys (record { reserved = λ j. reserved; wake = λ j. wake; fill = fill }) i; first = first; second = second }
lending_for ys fill (other xs first second) = record { segment = xs; first = first; second = second }

abbrev pub call_for : List ℕ → List ℕ → Delivery → Call
call_for ys fill x = segment (lending_for ys fill x)

-- there are n pieces of the kind k: both buffers are long enough for a piece; any other segment is of the other kind, or is refused for its own
-- length or header
abbrev pub MayCome : ℕ → Kind → Delivery → Type 0
MayCome n k (piece i reserved wake first second) =
    (i < n) × (reserved < 2) × (wake < 2) × (longest_listing ≤ first) × (longest_listing ≤ second)
MayCome n k (other xs first second) = (segment_kind xs ≡ other_kind k) ⊎ (segment_checks xs ≡ Ok tt → ⊥)

-- the numbers of the pieces that come, in their order
abbrev pub numbers_of : List Delivery → List ℕ
numbers_of [] = []
numbers_of (piece i reserved wake first second ∷ more) = i ∷ numbers_of more
numbers_of (other xs first second ∷ more) = numbers_of more

-- ---- what is answered

-- how many different numbers there are among some
abbrev pub different : List ℕ → ℕ
different [] = 0
different (i ∷ more) = cond (among more i) (different more) (suc (different more))

-- the answer to the piece i after the pieces `came`: how many of n are missing then, or the list if it was the last missing one
abbrev pub piece_answer : ℕ → Kind → ℕ → List ℕ → ℕ → Result Answer Refusal
piece_answer n k size came i =
    let missing = n - different (i ∷ came) in
    cond (not (among came i) && eqb missing 0) (Ok (NewList k size)) (Ok (Missing missing))

-- the answers to pieces, one after the other
abbrev pub piece_answers : ℕ → Kind → ℕ → List ℕ → List ℕ → List (Result Answer Refusal)
piece_answers n k size came [] = []
piece_answers n k size came (i ∷ more) = piece_answer n k size came i ∷ piece_answers n k size (i ∷ came) more

-- the counts alone
abbrev pub piece_counts : ℕ → List ℕ → List ℕ → List (Result Answer Refusal)
piece_counts n came [] = []
piece_counts n came (i ∷ more) = Ok (Missing (n - different (i ∷ came))) ∷ piece_counts n (i ∷ came) more

-- of the answers to some deliveries, those to the pieces
abbrev pub at_pieces : List Delivery → List (Result Answer Refusal) → List (Result Answer Refusal)
at_pieces (piece i reserved wake first second ∷ more) (a ∷ answers) = a ∷ at_pieces more answers
at_pieces (other xs first second ∷ more) (a ∷ answers) = at_pieces more answers
at_pieces [] answers = []
at_pieces (x ∷ more) [] = []

-- how many answers are lists of the kind k
abbrev pub lists_of : Kind → List (Result Answer Refusal) → ℕ
lists_of k [] = 0
lists_of k ((Ok (Missing n)) ∷ more) = lists_of k more
lists_of k ((Ok (NewList j n)) ∷ more) = cond (eqb (current_of j) (current_of k)) 1 0 + lists_of k more
lists_of k (Err f ∷ more) = lists_of k more

-- ---- the list comes out once

-- of n pieces of the kind k those with the numbers `came` come in this order, each of the n at least once, and are answered with `pieces`; the
-- listing is xs; swapped tells the buffers' roles
pub record ComesOnce (k : Kind) (xs : List ℕ) (n : ℕ) (swapped : Bool) (came : List ℕ) (pieces : List (Result Answer Refusal)) (first second : List ℕ) (r : Ran) : Type 0 where
  -- every piece is answered with the exact count, the last missing one with the list
  pub answers : pieces ≡ piece_answers n k (length xs) [] came
  -- exactly one of all answers is a list of that kind
  pub once : lists_of k (answers_of r.told) ≡ 1
  -- that kind's memory begins with the listing, and no other byte of it has changed
  pub own : lent_for k swapped r.left.first r.left.second ≡ xs ++ drop (length xs) (lent_for k swapped first second)
  -- and the listing is still shown at the end
  pub shows : shown_in k r.left ≡ xs

-- the n pieces come in order, and nothing else does: besides, the other kind's memory is as it was
pub record ComesInOrder (k : Kind) (xs : List ℕ) (n : ℕ) (swapped : Bool) (first second : List ℕ) (r : Ran) : Type 0 where
  pub list : ComesOnce k xs n swapped (up_from 0 n) (answers_of r.told) first second r
  pub other : lent_for (other_kind k) swapped r.left.first r.left.second ≡ lent_for (other_kind k) swapped first second

-- demand 3 of a desk with this segment call
abbrev pub ListsAll : SegmentCall → Type 0
ListsAll call =
    -- a chunk ys for the list l: of any minor edition, with any extensions, reserved bits and stuffing; its last payload filled up in any way
    (ys : List ℕ) (k : Kind) (m : ℕ) (l : FicList) → Carries ys k m l →
    (fill : List ℕ) → Bytes fill → let n = segment_count (length ys) in length (ys ++ fill) ≡ payload_bytes * n →
    -- deliveries that bring every piece of it at least once
    (ds : List Delivery) → Each (MayCome n k) ds → ((i : ℕ) → i < n → T (among (numbers_of ds) i)) →
    -- in one gathering, with two memories that nobody else writes to
    (d : Desk) → AtStart d → (first second : List ℕ) → longest_listing ≤ length first → longest_listing ≤ length second →
    let r = ran_by call (state d first second) (map (call_for ys fill) ds) in
    ComesOnce k (listing l) n d.notes.swapped (numbers_of ds) (at_pieces ds (answers_of r.told)) first second r

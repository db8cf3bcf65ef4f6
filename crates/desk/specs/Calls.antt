-- Calls of a desk one after the other, on two memories that nobody else writes to, and what each is told.
use Rattle.std.specs.Prelude.{ℕ, ◌≤◌, ◌≡◌, true, List, [], ◌∷◌, ◌++◌, length, take, drop, Result, Ok}
use Rattle.meaning.specs.declared.Refusal.{Refusal}
use Rattle.meaning.specs.declared.Kind.{Kind}
use Rattle.meaning.specs.declared.Kind.TheVariants.{This}
use Rattle.meaning.specs.Sizes.{longest_listing}
use Rattle.segments.specs.Segment.{segment_kind}
use Rattle.slots.specs.declared.Answer.{Answer}
use Rattle.slots.specs.declared.Answer.TheVariants.{NewList}
use Rattle.desk.specs.declared.Desk.{Desk}
use Rattle.desk.specs.Desks.{well_formed, new_gathering, new_frame, After, after, segment_after, shown}

-- ---- calls

-- a segment, and how many bytes of each memory are lent with it
pub record Lending : Type 0 where
  pub segment : List ℕ
  pub first : ℕ
  pub second : ℕ

pub data Call : Type 0 where
  frame : Call
  gathering : Call
  segment : Lending → Call

-- the desk and both memories
pub record State : Type 0 where
  pub desk : Desk
  pub first : List ℕ
  pub second : List ℕ

abbrev pub state : Desk → List ℕ → List ℕ → State
state d first second = record { desk = d; first = first; second = second }

-- the desk is well formed, and both memories are long enough
abbrev pub Ready : State → Type 0
Ready s = (well_formed s.desk ≡ true) × (longest_listing ≤ length s.first) × (longest_listing ≤ length s.second)

-- a segment with all of both memories
abbrev pub wholly : State → List ℕ → Call
wholly s xs = segment (record { segment = xs; first = length s.first; second = length s.second })

abbrev pub answer_to : State → List ℕ → After
answer_to s xs = segment_after s.desk xs s.first s.second

abbrev pub shown_in : Kind → State → List ℕ
shown_in k s = shown k s.desk s.first s.second

-- ---- one call, for a desk with this segment call

abbrev pub SegmentCall : Type 0
SegmentCall = Desk → List ℕ → List ℕ → List ℕ → After

-- a segment is lent the first bytes of the two memories: its answer, then the desk and all of both memories
abbrev pub lent_by : SegmentCall → State → Lending → After
lent_by call s c =
    let r = call s.desk c.segment (take c.first s.first) (take c.second s.second) in
    after r.answer r.desk (r.first ++ drop c.first s.first) (r.second ++ drop c.second s.second)

-- what it leaves
abbrev pub left_by : SegmentCall → State → Call → State
left_by call s frame = state (new_frame s.desk) s.first s.second
left_by call s gathering = state (new_gathering s.desk) s.first s.second
left_by call s (segment c) = let r = lent_by call s c in state r.desk r.first r.second

abbrev pub next_frame : State → State
next_frame s = left_by segment_after s frame

-- what is told: after a new frame the listing that it shows; after a segment its answer, and the listing that is then shown of its kind
pub data Told : Type 0 where
  framed : List ℕ → Told
  begun : Told
  answered : Result Answer Refusal → List ℕ → Told

abbrev pub told_by : SegmentCall → State → Call → Told
told_by call s frame = framed (shown_in This (left_by call s frame))
told_by call s gathering = begun
told_by call s (segment c) = answered (lent_by call s c).answer (shown_in (segment_kind c.segment) (left_by call s (segment c)))

-- ---- a run of calls

-- what is told, in order, and what is left
pub record Ran : Type 0 where
  pub told : List Told
  pub left : State

unfoldable pub ran_by : SegmentCall → State → List Call → Ran
ran_by call s [] = record { told = []; left = s }
ran_by call s (c ∷ more) = let r = ran_by call (left_by call s c) more in record { told = told_by call s c ∷ r.told; left = r.left }

abbrev pub ran : State → List Call → Ran
ran = ran_by segment_after

-- of what is told, the answers to segments
abbrev pub answers_of : List Told → List (Result Answer Refusal)
answers_of [] = []
answers_of (framed l ∷ more) = answers_of more
answers_of (begun ∷ more) = answers_of more
answers_of (answered a l ∷ more) = a ∷ answers_of more

-- ---- what may be said of a call, and of an answer

-- no new frame
abbrev pub InFrame : Call → Type 0
InFrame frame = ⊥
InFrame gathering = Unit {0}
InFrame (segment c) = Unit {0}

-- the answer is no list of the kind k
abbrev pub Lacks : Kind → Result Answer Refusal → Type 0
Lacks k a = (n : ℕ) → a ≡ Ok (NewList k n) → ⊥

-- What a segment's call leaves as it was, in what order it is checked, and what each of its answers comes to: document 01's two effects of a
-- refusal, and no third; a list; so many missing.
use Rattle.std.specs.Prelude.{ℕ, ◌≡◌, Bool, true, false, cond, not, ◌&&◌, List, [], ◌∷◌, ◌++◌, T, eqb, length, drop, Result, Ok, Err}
use Rattle.octets.specs.Checks.{check, among}
use Rattle.meaning.specs.declared.Kind.{Kind}
use Rattle.meaning.specs.declared.Refusal.{Refusal}
use Rattle.meaning.specs.declared.Refusal.TheVariants.{Clash}
use Rattle.meaning.specs.Lists.{FicList}
use Rattle.meaning.specs.Layout.{Carries}
use Rattle.meaning.specs.Listing.{listing}
use Rattle.meaning.specs.Checks.{and_then}
use Rattle.meaning.specs.Reading.{checks}
use Rattle.segments.specs.Segment.{segment_major, segment_kind, number_in}
use Rattle.octets.specs.Sets.{holds}
use Rattle.slots.specs.Slots.{missing_in, clashing}
use Rattle.slots.specs.Gathering.{Side, spoil, hold, chunk_in, kind_checks}
use Rattle.notes.specs.Notes.{slot_for, length_for, lent_for}
use Rattle.desk.specs.declared.Desk.{Desk}
use Rattle.desk.specs.Desks.{bytes_for, side_of, After, call_checks}

-- what a desk has for the kind j, and that kind's buffer, are as they were; so are the buffers' roles
abbrev pub Kept : Bool → Kind → Desk → List ℕ → List ℕ → After → Type 0
Kept swapped j d first second r =
    (slot_for j r.desk.notes ≡ slot_for j d.notes)
    × (bytes_for j r.desk ≡ bytes_for j d)
    × (length_for j r.desk.notes ≡ length_for j d.notes)
    × (lent_for j swapped r.first r.second ≡ lent_for j swapped first second)
    × (r.desk.notes.swapped ≡ d.notes.swapped)

-- ---- the slot of a segment's kind

-- as the segment finds it; spoiled; and with the segment held besides
abbrev pub slot_before : Desk → List ℕ → Side
slot_before d xs = side_of (segment_kind xs) d []

abbrev pub slot_spoiled : Desk → List ℕ → Side
slot_spoiled d xs = spoil (slot_before d xs)

abbrev pub slot_holding : Desk → List ℕ → Side
slot_holding d xs = hold xs (slot_before d xs)

-- it is spoiled, or its last number differs, or the segment's place is held with other payload
abbrev pub clashes : Desk → List ℕ → Bool
clashes d xs = clashing (slot_before d xs).slot (slot_before d xs).bytes xs

-- the segment's place was free, and with it none is missing
abbrev pub completing : Desk → List ℕ → Bool
completing d xs = not (holds (slot_before d xs).slot.held (number_in xs)) && eqb (missing_in (slot_holding d xs).slot) 0

-- the checks on the chunk that it completes: the reader's, then 10
abbrev pub chunk_checks : Desk → List ℕ → Result Unit Refusal
chunk_checks d xs = let chunk = chunk_in (slot_holding d xs) in kind_checks (checks chunk) (segment_kind xs) chunk

-- ---- the order of all checks on a segment: 12, 1 to 6, 7; then those on the chunk that it completes

unfoldable pub segment_fault : Desk → List ℕ → List ℕ → List ℕ → Result Unit Refusal
segment_fault d xs first second =
    and_then (call_checks d xs first second)
    (check (clashes d xs) (Err Clash)
    (cond (completing d xs) (chunk_checks d xs) (Ok tt)))

-- ---- refusals: what they change

-- the kind k has this slot; its listing and both lent buffers are as they were
abbrev pub Becomes : Kind → Desk → List ℕ → List ℕ → Side → After → Type 0
Becomes k d first second s r =
    (slot_for k r.desk.notes ≡ s.slot)
    × (bytes_for k r.desk ≡ s.bytes)
    × (length_for k r.desk.notes ≡ length_for k d.notes)
    × (r.first ≡ first)
    × (r.second ≡ second)

-- the desk and both buffers are as they were; the slot of the segment's kind is spoiled; it holds the segment besides, and lacks none
abbrev pub Untouched : Desk → List ℕ → List ℕ → After → Type 0
Untouched d first second r = (r.desk ≡ d) × (r.first ≡ first) × (r.second ≡ second)

abbrev pub Spoils : Desk → List ℕ → List ℕ → List ℕ → After → Type 0
Spoils d xs first second r = Becomes (segment_kind xs) d first second (slot_spoiled d xs) r

abbrev pub Completes : Desk → List ℕ → List ℕ → List ℕ → After → Type 0
Completes d xs first second r =
    Becomes (segment_kind xs) d first second (slot_holding d xs) r × (missing_in (slot_holding d xs).slot ≡ 0)

-- the ways that a refusal f of the segment xs goes, by the checks that gave it
pub data Leaves (f : Refusal) (d : Desk) (xs first second : List ℕ) (r : After) : Type 0 where
  -- the call's own checks
  unchanged :
      call_checks d xs first second ≡ Err f → Untouched d first second r → Leaves f d xs first second r
  -- these passed, and it clashes
  spoils :
      call_checks d xs first second ≡ Ok tt → clashes d xs ≡ true → f ≡ Clash → Spoils d xs first second r → Leaves f d xs first second r
  -- these passed, it does not clash, its place was free, and the chunk that it completes is refused
  completes :
      call_checks d xs first second ≡ Ok tt → clashes d xs ≡ false → completing d xs ≡ true → chunk_checks d xs ≡ Err f → Completes d xs first second r → Leaves f d xs first second r

-- the same by its number n: what document 01 says of each
pub record Changes (n : ℕ) (d : Desk) (xs first second : List ℕ) (r : After) : Type 0 where
  pub nothing : T (among (1 ∷ 2 ∷ 3 ∷ 4 ∷ 6 ∷ 12 ∷ []) n) → Untouched d first second r
  pub clash : n ≡ 7 → Spoils d xs first second r
  pub chunk : T (among (9 ∷ 10 ∷ []) n) → Completes d xs first second r
  -- 5 is the segment's own, or that of the chunk that it completes
  pub header : n ≡ 5 → (segment_major xs ≡ 0 → ⊥) → Untouched d first second r
  pub major : n ≡ 5 → segment_major xs ≡ 0 → Completes d xs first second r

-- ---- accepted segments

-- the answer is a list of the kind k and n bytes
pub record Lists (d : Desk) (xs first second : List ℕ) (k : Kind) (n : ℕ) (r : After) : Type 0 where
  -- its kind is the segment's
  pub kind : k ≡ segment_kind xs
  -- the chunk that the slot then holds, which lacks no segment, carries a list
  pub whole : missing_in (slot_for k r.desk.notes) ≡ 0
  pub minor : ℕ
  pub list : FicList
  pub carried : Carries (chunk_in (side_of k r.desk [])) k minor list
  -- the length is that of its listing, and becomes the kind's
  pub size : n ≡ length (listing list)
  pub kept : length_for k r.desk.notes ≡ n
  -- that kind's buffer begins with the listing, and no other byte of it has changed
  pub buffer : lent_for k d.notes.swapped r.first r.second ≡ listing list ++ drop n (lent_for k d.notes.swapped first second)

-- the answer is that n are missing
pub record Waits (d : Desk) (xs first second : List ℕ) (n : ℕ) (r : After) : Type 0 where
  -- the count of that kind's slot afterwards
  pub count : n ≡ missing_in (slot_for (segment_kind xs) r.desk.notes)
  -- no listing has changed
  pub kept : length_for (segment_kind xs) r.desk.notes ≡ length_for (segment_kind xs) d.notes
  pub buffers : (r.first ≡ first) × (r.second ≡ second)

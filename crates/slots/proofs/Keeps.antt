-- A well formed slot stays well formed, whatever segment comes. Assumes nothing.
use mathlib.Core.Path.{◌≡◌, refl, sym, ap, ◌∙◌}
use mathlib.Core.Bool.{Bool, true, false, not, ◌&&◌, ◌||◌, true≢false, and-eq-true_iff, or-true}
use mathlib.Core.List.{List}
use Prim.Native.Nat.{ℕ, zero, suc, ◌+◌, ◌*◌, ◌^◌, ◌≤◌, ◌<◌}
use native.Mathlib.Omega.{arith}
use borrow.Author.Tests.{ltb-true, ltb-false, lt-ltb, eq-eqb, ne_eqb, eqb-true, eqb-false, not-false}
use lib.Dec.{eqb, ltb}
use lib.ListN.{length, take, drop, length-drop}
use lib.Seq.{sets, length-sets, take_all, take_at}
use lib.Pow.{pow_pos}
use Rattle.std.proofs.Common.{Result, Ok, Err}
use Rattle.meaning.specs.declared.Refusal.{Refusal}
use Rattle.meaning.specs.declared.Kind.{Kind}
use Rattle.meaning.specs.declared.Refusal.TheVariants.{SegmentLength, SegmentType, ErrorBit, OtherMajor, NumberAboveLast}
use Rattle.meaning.specs.Sizes.{longest_chunk}
use Rattle.meaning.specs.Reading.{checks}
use Rattle.slots.specs.declared.Slot.{Slot}
use Rattle.octets.specs.Same.{same}
use Rattle.segments.specs.Segment.{segment_bytes, segment_header_bytes, payload_bytes, most_segments, place_of, segment_checks, sort_in, error_in, segment_major, number_in, last_in, payload_in}
use Rattle.octets.specs.Sets.{holds, including}
use Rattle.slots.specs.Slots.{zeros, all_below, empty_slot, spoiled_slot, no_bytes, missing_in, numbers_fit, bytes_fit, slot_fits, clashing, holding}
use Rattle.slots.specs.Gathering.{Side, hold, chunk_in, kind_checks, judged, completed, placed, gathered}
use Rattle.octets.proofs.Laws.{either, same_eq}
use Rattle.octets.proofs.Stores.{take-sets, drop-sets, drop-stored}
use Rattle.meaning.proofs.Checks.{check_passed}
use Rattle.segments.proofs.Places.{place_taken, take_places}
use Rattle.octets.proofs.Sets.{holds_none, holds-including, holds-other, including_small}

-- ---- tests below a number

pub all_below_lem : (n : ℕ) (f : ℕ → Bool) → ((i : ℕ) → i < n → f i ≡ true) → all_below n f ≡ true
all_below_lem zero f h = refl
all_below_lem (suc n) f h = simp (h n (omega arith)) (all_below_lem n f (λ i l. h i (omega arith)))

pub below_all : (n : ℕ) (f : ℕ → Bool) → all_below n f ≡ true → (i : ℕ) → i < n → f i ≡ true
below_all zero f e i l = absurd (omega arith)
below_all (suc n) f e i l =
    let p = (and-eq-true_iff (f n) (all_below n f)).0 e in
    either (eqb i n) (λ q. ap f (eqb-true i n q) ∙ p.0) (λ q. below_all n f p.1 i (omega (arith, eqb-false i n q)))

-- ---- a store of 35 bytes at a place: there they are, and the other places keep theirs

pub place_kept : (bytes vs : List ℕ) (i j : ℕ) → length vs ≡ payload_bytes → (i ≡ j → ⊥) → payload_bytes * i + payload_bytes ≤ length bytes → place_of (sets bytes (payload_bytes * i) vs) j ≡ place_of bytes j
place_kept bytes vs i j e d h =
    either (ltb i j)
    (λ q. ap (take payload_bytes) (drop-sets vs bytes (payload_bytes * i) (payload_bytes * j) (omega (arith, ltb-true i j q))))
    (λ q. place_taken _ bytes j (take-sets vs bytes (payload_bytes * i) (payload_bytes * j + payload_bytes) (omega (arith, ltb-false i j q))))

pub place-stored : (bytes vs : List ℕ) (i : ℕ) → length vs ≡ payload_bytes → payload_bytes * i + payload_bytes ≤ length bytes → place_of (sets bytes (payload_bytes * i) vs) i ≡ vs
place-stored bytes vs i e h =
    let at : ℕ = payload_bytes * i in
    ap (take payload_bytes) (drop-stored vs bytes at (at + payload_bytes) (omega arith) h) ∙ take_at vs (drop (at + payload_bytes) bytes) payload_bytes e

-- ---- what a segment has that passed its checks, and what a well formed slot has

pub segment-passes : (xs : List ℕ) → segment_checks xs ≡ Ok tt → (length xs ≡ segment_bytes) × (number_in xs ≤ last_in xs) × (segment_major xs ≡ 0)
unfolding segment_checks
segment-passes xs p =
    let a = check_passed _ SegmentLength _ p in
    let b = check_passed (not (eqb (sort_in xs) 0)) SegmentType _ a.1 in
    let d = check_passed (not (eqb (error_in xs) 0)) ErrorBit _ b.1 in
    let g = check_passed (not (eqb (segment_major xs) 0)) OtherMajor _ d.1 in
    let n = check_passed _ NumberAboveLast (Ok tt) g.1 in
    (eqb-true _ _ (not-false _ a.0), ltb-false _ _ n.0, eqb-true _ _ (not-false _ g.0))

pub last_small : (xs : List ℕ) → last_in xs < most_segments
last_small xs = omega arith

pub number_small : (xs : List ℕ) → segment_checks xs ≡ Ok tt → number_in xs < most_segments
number_small xs p = omega (arith, segment-passes xs p)

slot_parts : (s : Slot) (bytes : List ℕ) → slot_fits s bytes ≡ true → (length bytes ≡ longest_chunk) × (numbers_fit s ≡ true) × (bytes_fit s.held bytes ≡ true)
unfolding slot_fits
slot_parts s bytes e =
    let p = (and-eq-true_iff (eqb (length bytes) longest_chunk) (numbers_fit s && bytes_fit s.held bytes)).0 e in
    let q = (and-eq-true_iff (numbers_fit s) (bytes_fit s.held bytes)).0 p.1 in
    (eqb-true _ _ p.0, q.0, q.1)

pub numbers_small : (s : Slot) → numbers_fit s ≡ true → (s.last < most_segments) × (s.held < 2 ^ (s.last + 1))
numbers_small s e =
    either (eqb s.held 0)
    (λ h. omega (arith, eqb-true s.held 0 h, eqb-true s.last 0 (simp h at e), pow_pos (s.last + 1)))
    (λ h.
    let low : Bool = ltb s.last most_segments in
    let high : Bool = ltb s.held (2 ^ (s.last + 1)) in
    let p = (and-eq-true_iff low high).0 ((and-eq-true_iff (not s.spoiled) (low && high)).0 (simp h at e)).1 in
    (ltb-true _ _ p.0, ltb-true _ _ p.1))

pub slot-numbers : (s : Slot) (bytes : List ℕ) → slot_fits s bytes ≡ true → (length bytes ≡ longest_chunk) × (s.last < most_segments) × (s.held < 2 ^ (s.last + 1))
slot-numbers s bytes e =
    let p = slot_parts s bytes e in
    let q = numbers_small s p.1 in
    (p.0, q.0, q.1)

-- ---- the slots without segments, and the slot with one more

pub empty-fits : slot_fits empty_slot no_bytes ≡ true
unfolding slot_fits
empty-fits = refl

pub spoiled_fits : slot_fits spoiled_slot no_bytes ≡ true
unfolding slot_fits
spoiled_fits = refl

held_small : (xs : List ℕ) (s : Slot) (bytes : List ℕ) → slot_fits s bytes ≡ true → clashing s bytes xs ≡ false → s.held < 2 ^ (last_in xs + 1)
unfolding clashing
held_small xs s bytes e c =
    either (eqb s.held 0) (λ h. omega (arith, eqb-true s.held 0 h, pow_pos (last_in xs + 1)))
    (λ h.
    either (eqb s.last (last_in xs)) (λ q. rw (eqb-true s.last (last_in xs) q) at (slot-numbers s bytes e).2)
    (λ q. absurd (true≢false (simp (h, q, or-true) at c))))

-- whether the place i is held or all zeros
abbrev pub clean : ℕ → List ℕ → ℕ → Bool
clean held bytes i = holds held i || same (place_of bytes i) (zeros payload_bytes)

place-zeros : (held : ℕ) (bytes : List ℕ) (i : ℕ) → i < most_segments → held ≡ 0 → bytes_fit held bytes ≡ true → place_of bytes i ≡ zeros payload_bytes
place-zeros held bytes i l z e =
    same_eq (place_of bytes i) (zeros payload_bytes) (simp (ap (λ (h : ℕ). holds h i) z ∙ holds_none i) at (below_all most_segments (clean held bytes) e i l))

-- a slot that holds nothing has zeros only
pub none_held : (s : Slot) (bytes : List ℕ) → slot_fits s bytes ≡ true → s.held ≡ 0 → bytes ≡ no_bytes
none_held s bytes e z =
    let w = slot_parts s bytes e in
    sym (take_all longest_chunk bytes (omega arith))
    ∙ take_places most_segments bytes no_bytes (λ i l. place-zeros s.held bytes i l z w.2 ∙ sym (place-zeros 0 no_bytes i l refl (slot_parts empty_slot no_bytes empty-fits).2))

place-fits : (held : ℕ) (bytes vs : List ℕ) (n i : ℕ) → holds held n ≡ false → length vs ≡ payload_bytes → payload_bytes * n + payload_bytes ≤ length bytes → clean held bytes i ≡ true → clean (including held n) (sets bytes (payload_bytes * n) vs) i ≡ true
place-fits held bytes vs n i f e l h =
    either (eqb n i) (λ q. simp (ap (holds (including held n)) (sym (eqb-true n i q)) ∙ holds-including held n f))
    (λ q. simp (holds-other held n i f (eqb-false n i q), place_kept bytes vs n i e (eqb-false n i q) l) h)

pub hold-fits : (xs : List ℕ) (s : Slot) (bytes : List ℕ) → slot_fits s bytes ≡ true → segment_checks xs ≡ Ok tt → clashing s bytes xs ≡ false → holds s.held (number_in xs) ≡ false → slot_fits (holding s xs) (sets bytes (payload_bytes * number_in xs) (payload_in xs)) ≡ true
unfolding slot_fits
hold-fits xs s bytes e p c f =
    let w = slot_parts s bytes e in
    let g = segment-passes xs p in
    let held : ℕ = including s.held (number_in xs) in
    let stored : List ℕ = sets bytes (payload_bytes * number_in xs) (payload_in xs) in
    let some : held ≡ 0 → ⊥ = λ z. omega (arith, pow_pos (number_in xs)) in
    let small : held < 2 ^ (last_in xs + 1) = including_small _ _ (last_in xs + 1) (omega arith) (held_small xs s bytes e c) f in
    simp (eq-eqb _ _ (length-sets bytes (payload_bytes * number_in xs) (payload_in xs) ∙ w.0), ne_eqb _ _ some, lt-ltb _ _ (last_small xs), lt-ltb _ _ small)
    (all_below_lem most_segments (clean held stored) (λ i l.
    place-fits s.held bytes (payload_in xs) (number_in xs) i f (length-drop segment_header_bytes xs ∙ omega arith) (omega arith) (below_all most_segments (clean s.held bytes) w.2 i l)))

-- ---- a segment that passed its checks comes

abbrev fits : Side → Type 0
fits s = slot_fits s.slot s.bytes ≡ true

judged-fits : (r : Result Unit Refusal) (k : Kind) (s : Side) → fits s → fits (judged r k s).side
judged-fits (Err f) k s h = h
judged-fits (Ok _) k s h = h

placed-fits : (k : Kind) (s : Side) → fits s → fits (placed k s).side
unfolding completed
placed-fits k s h =
    either (eqb (missing_in s.slot) 0) (λ q. simp q (judged-fits (kind_checks (checks (chunk_in s)) k (chunk_in s)) k s h)) (λ q. simp q h)

pub gathered-fits : (k : Kind) (xs : List ℕ) (s : Side) → slot_fits s.slot s.bytes ≡ true → segment_checks xs ≡ Ok tt → slot_fits (gathered k xs s).side.slot (gathered k xs s).side.bytes ≡ true
unfolding gathered
gathered-fits k xs s h p =
    either (clashing s.slot s.bytes xs) (λ c. simp c spoiled_fits)
    (λ c.
    either (holds s.slot.held (number_in xs)) (λ f. simp (c, f) h)
    (λ f. simp (c, f) (placed-fits k (hold xs s) (hold-fits xs s.slot s.bytes h p c f))))

-- An explanation is given exactly where the checks refuse, and with their number. Assumes nothing.
use mathlib.Core.Path.{◌≡◌, refl, sym}
use mathlib.Core.List.{List, [], ◌∷◌}
use Prim.Native.Nat.{ℕ}
use borrow.Author.Tests.{eqb-true}
use lib.Dec.{T, eqb}
use Rattle.std.proofs.Common.{Result, Ok, Err, Option, None, Some}
use Rattle.octets.specs.Checks.{check, among}
use Rattle.octets.proofs.Laws.{either}
use Rattle.meaning.specs.declared.Refusal.{Refusal}
use Rattle.meaning.specs.declared.Refusal.TheVariants.{ShortBuffer, SegmentLength, SegmentType, ErrorBit, OtherMajor, NumberAboveLast, Clash, TooLong, EndsEarly, KindDiffers, BadDesk}
use Rattle.meaning.specs.Checks.{and_then}
use Rattle.meaning.specs.Numbers.{number_of, checked_number}
use Rattle.meaning.specs.Reading.{checks}
use Rattle.meaning.proofs.Gives.{Gives, gives_check, given, ensembles_give}
use Rattle.segments.specs.Segment.{last_in, segment_checks}
use Rattle.slots.specs.declared.Slot.{Slot}
use Rattle.slots.specs.Slots.{clashing}
use Rattle.explains.specs.declared.Explained.{Explained}
use Rattle.explains.specs.Explaining.{explained_values, chunk_fault, chunk_by, chunk_explained, segment_fault, segment_by, segment_explained, clash_fault, clash_explained, gathered_explained}
use Rattle.explains.proofs.Laws.{refused}

-- ---- a chunk

checks_give : (xs : List ℕ) → Gives (5 ∷ 8 ∷ 9 ∷ []) (checks xs)
unfolding checks
checks_give xs = search (gives_check, ensembles_give) depth 8

fault_number : (f : Refusal) (xs : List ℕ) → T (among (5 ∷ 8 ∷ 9 ∷ []) (number_of f)) → (explained_values (chunk_fault f xs)).number ≡ number_of f
fault_number TooLong xs t = refl
fault_number (EndsEarly part at) xs t = refl
fault_number OtherMajor xs t = refl
fault_number ShortBuffer xs t = absurd t
fault_number SegmentLength xs t = absurd t
fault_number SegmentType xs t = absurd t
fault_number ErrorBit xs t = absurd t
fault_number NumberAboveLast xs t = absurd t
fault_number Clash xs t = absurd t
fault_number KindDiffers xs t = absurd t
fault_number BadDesk xs t = absurd t

pub chunk-number : (xs : List ℕ) → (explained_values (chunk_explained xs)).number ≡ checked_number (checks xs)
unfolding chunk_explained
chunk-number xs = go (checks xs) refl
  where
    go : (v : Result Unit Refusal) → checks xs ≡ v → (explained_values (chunk_by v xs)).number ≡ checked_number v
    go (Ok _) is = refl
    go (Err f) is = fault_number f xs (given _ is (checks_give xs))

-- ---- a segment, by itself and with a slot

fault-number : (n : ℕ) (xs : List ℕ) → (explained_values (Some (segment_fault n xs))).number ≡ n
fault-number n xs = either (eqb n 2) (λ q. simp q (sym (eqb-true n 2 q))) (λ q. simp q)

-- what is said where the checks on the segment itself pass has the number of the checks that follow
by_number : (v rest : Result Unit Refusal) (passed : Option Explained) (xs : List ℕ) → (explained_values passed).number ≡ checked_number rest → (explained_values (segment_by (checked_number v) passed xs)).number ≡ checked_number (and_then v rest)
by_number (Ok _) rest passed xs is = is
by_number (Err f) rest passed xs is = rw (← refused f passed xs) (fault-number (number_of f) xs)

pub then_fine : (v : Result Unit Refusal) → and_then v (Ok tt) ≡ v
then_fine (Ok _) = refl
then_fine (Err f) = refl

pub segment-number : (xs : List ℕ) → (explained_values (segment_explained xs)).number ≡ checked_number (segment_checks xs)
unfolding segment_explained
segment-number xs = rw then_fine at (by_number (segment_checks xs) (Ok tt) None xs refl)

clash-number : (s : Slot) (bytes xs : List ℕ) → (explained_values (Some (clash_fault s bytes xs))).number ≡ 7
clash-number s bytes xs =
    either s.spoiled (λ q. simp q) (λ q. either (eqb s.last (last_in xs)) (λ r. simp (q, r)) (λ r. simp (q, r)))

pub gathered-number : (s : Slot) (bytes xs : List ℕ) → (explained_values (gathered_explained s bytes xs)).number ≡ checked_number (and_then (segment_checks xs) (check (clashing s bytes xs) (Err Clash) (Ok tt)))
unfolding gathered_explained
gathered-number s bytes xs =
    by_number (segment_checks xs) (check (clashing s bytes xs) (Err Clash) (Ok tt)) (clash_explained s bytes xs) xs
    (either (clashing s bytes xs) (λ q. simp q (clash-number s bytes xs)) (λ q. simp q))

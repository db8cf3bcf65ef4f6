-- The explanations for programs in C: what is told of one can be taken apart. Assumes nothing.
use mathlib.Core.Path.{◌≡◌}
use mathlib.Core.Bool.{Bool, not}
use mathlib.Core.List.{List}
use Prim.Native.Nat.{ℕ, ◌+◌, ◌≤◌, ◌<◌}
use native.Mathlib.Omega.{arith}
use lib.Dec.{eqb, lit<}
use lib.ListN.{length}
use Rattle.std.proofs.Common.{Result, Ok, Err, Option, Some}
use Rattle.octets.specs.Checks.{check}
use Rattle.octets.proofs.Laws.{cond_both}
use Rattle.octets.proofs.Tables.{not_whole_most}
use Rattle.meaning.specs.declared.Part.{Part}
use Rattle.meaning.specs.declared.Part.TheVariants.{Header, EnsembleFields, SingleService}
use Rattle.meaning.specs.declared.Refusal.{Refusal}
use Rattle.meaning.specs.declared.Refusal.TheVariants.{ShortBuffer, SegmentLength, SegmentType, ErrorBit, OtherMajor, NumberAboveLast, Clash, TooLong, EndsEarly, KindDiffers, BadDesk}
use Rattle.meaning.specs.Checks.{and_then}
use Rattle.meaning.specs.Numbers.{checked_number}
use Rattle.meaning.specs.Reading.{checks}
use Rattle.meaning.proofs.Gives.{number_of_small}
use Rattle.segments.specs.Segment.{last_in, segment_checks}
use Rattle.slots.specs.declared.Slot.{Slot}
use Rattle.slots.specs.Slots.{clashing}
use Rattle.explains.specs.declared.Explained.{Explained}
use Rattle.explains.specs.Explaining.{explained_values, widths_in, table_of, chunk_fault, chunk_by, chunk_explained, segment_row, segment_fault, segment_explained, clash_fault, gathered_explained}
use Rattle.explains.proofs.Exactly.{chunk-number, segment-number, gathered-number}
use Rattle.lukasembo.specs.Explains.{table_number, explained_field, Told}

-- ---- with the number of some checks, and a field whose number fits a byte

abbrev Small : Option Explained → Type 0
Small e = explained_field e < 0x100

checked_small : (v : Result Unit Refusal) → checked_number v < 0x100
checked_small (Ok _) = lit< tt
checked_small (Err f) = number_of_small f

small_told : (e : Option Explained) (v : Result Unit Refusal) → (explained_values e).number ≡ checked_number v → Small e → Told e
small_told e v is s =
    let n : checked_number v < 0x100 = checked_small v in
    record { number = omega arith; field = omega arith; offset = omega arith }

-- ---- a chunk

row_small : (part : Part) (xs : List ℕ) (i : ℕ) → i ≤ length (widths_in (table_of part) xs) → table_number (table_of part) + i < 0x100
row_small Header xs i most = omega arith
row_small EnsembleFields xs i most = omega arith
row_small SingleService xs i most = omega arith

fault_small : (f : Refusal) (xs : List ℕ) → Small (chunk_fault f xs)
fault_small TooLong xs = lit< tt
fault_small (EndsEarly part at) xs = row_small part xs _ (not_whole_most _ _)
fault_small OtherMajor xs = lit< tt
fault_small ShortBuffer xs = lit< tt
fault_small SegmentLength xs = lit< tt
fault_small SegmentType xs = lit< tt
fault_small ErrorBit xs = lit< tt
fault_small NumberAboveLast xs = lit< tt
fault_small Clash xs = lit< tt
fault_small KindDiffers xs = lit< tt
fault_small BadDesk xs = lit< tt

by_small : (v : Result Unit Refusal) (xs : List ℕ) → Small (chunk_by v xs)
by_small (Ok _) xs = lit< tt
by_small (Err f) xs = fault_small f xs

pub chunk_told : (xs : List ℕ) → Told (chunk_explained xs)
unfolding chunk_explained
chunk_told xs = small_told (chunk_explained xs) (checks xs) (chunk-number xs) (by_small (checks xs) xs)

-- ---- a segment, by itself and with a slot

segment-row_most : (n : ℕ) → segment_row n ≤ 7
segment-row_most n =
    let most : ℕ → Type 0 = λ i. i ≤ 7 in
    cond_both most (eqb n 3) (omega arith) (cond_both most (eqb n 4) (omega arith) (cond_both most (eqb n 5) (omega arith) (cond_both most (eqb n 6) (omega arith) (omega arith))))

segment_small : (n : ℕ) (xs : List ℕ) → Small (Some (segment_fault n xs))
segment_small n xs = cond_both (λ (e : Explained). Small (Some e)) (eqb n 2) (lit< tt) (omega (arith, segment-row_most n))

pub segment_told : (xs : List ℕ) → Told (segment_explained xs)
unfolding segment_explained
segment_told xs =
    let v : Result Unit Refusal = segment_checks xs in
    small_told (segment_explained xs) v (segment-number xs) (cond_both Small (eqb (checked_number v) 0) (lit< tt) (segment_small (checked_number v) xs))

clash_small : (s : Slot) (bytes xs : List ℕ) → Small (Some (clash_fault s bytes xs))
clash_small s bytes xs = cond_both (λ (e : Explained). Small (Some e)) s.spoiled (lit< tt) (cond_both (λ (e : Explained). Small (Some e)) (not (eqb s.last (last_in xs))) (segment_small 7 xs) (lit< tt))

pub gathered_told : (s : Slot) (bytes xs : List ℕ) → Told (gathered_explained s bytes xs)
unfolding gathered_explained
gathered_told s bytes xs =
    let v : Result Unit Refusal = segment_checks xs in
    let clash : Bool = clashing s bytes xs in
    small_told (gathered_explained s bytes xs) (and_then v (check clash (Err Clash) (Ok tt))) (gathered-number s bytes xs)
    (cond_both Small (eqb (checked_number v) 0) (cond_both Small clash (clash_small s bytes xs) (lit< tt)) (segment_small (checked_number v) xs))

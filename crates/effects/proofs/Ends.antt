-- What a refused segment tells of the chunk that it completes: with 9, where that ends early, in the words of the tables; an offset is within the
-- chunk, and no other refusal tells one. Assumes nothing.
use mathlib.Core.Path.{◌≡◌, sym, ap}
use mathlib.Core.Bool.{not}
use mathlib.Core.List.{List}
use Prim.Native.Nat.{ℕ, ◌%◌, ◌≤◌}
use native.Mathlib.Omega.{arith}
use borrow.Author.Tests.{eqb-true, eqb-false}
use lib.Dec.{eqb}
use lib.ListN.{length, get_or}
use Rattle.std.proofs.Common.{Result, Ok, Err}
use Rattle.octets.specs.Bits.{Bytes}
use Rattle.octets.proofs.Laws.{check_follows, either}
use Rattle.meaning.specs.declared.Kind.{Kind}
use Rattle.meaning.specs.declared.Part.{Part}
use Rattle.meaning.specs.declared.Refusal.{Refusal}
use Rattle.meaning.specs.declared.Refusal.TheVariants.{EndsEarly, KindDiffers}
use Rattle.meaning.specs.Sizes.{longest_chunk}
use Rattle.meaning.specs.Numbers.{number_of, offset_of, checked_number}
use Rattle.meaning.specs.Lists.{current_of}
use Rattle.meaning.specs.Ends.{EndsIn}
use Rattle.meaning.specs.Reading.{checks}
use Rattle.meaning.proofs.Checks.{fault≢fine}
use Rattle.meaning.proofs.Gives.{no_offset}
use Rattle.meaning.proofs.Ends.{told_ends, told_within, told_small}
use Rattle.segments.specs.Segment.{segment_kind}
use Rattle.slots.specs.Gathering.{chunk_in, kind_checks}
use Rattle.desk.specs.declared.Desk.{Desk}
use Rattle.desk.specs.Desks.{After, segment_after}
use Rattle.effects.specs.Effects.{slot_holding, Leaves, unchanged, spoils, completes}
use Rattle.effects.proofs.Ways.{called_ready}
use Rattle.effects.proofs.Accepted.{bytes-chunk}
use Rattle.effects.proofs.Refusals.{of_each, refusal_leaves, early_number, early_numbers}

-- a refusal that is not 10 is the reader's
chunk_told : (v : Result Unit Refusal) (k : Kind) (xs : List ℕ) (f : Refusal) → (number_of f ≡ 10 → ⊥) → kind_checks v k xs ≡ Err f → v ≡ Err f
chunk_told (Err g) k xs f other is = is
chunk_told (Ok _) k xs f other is =
    absurd (fault≢fine (sym (check_follows (not (eqb (get_or xs 1 0 % 2) (current_of k))) {answer = Err KindDiffers} {rest = Ok tt} (λ same. other (sym (ap checked_number same))) is).1))

module _ (d : Desk) (xs first second : List ℕ) where
  abbrev chunk : List ℕ
  chunk = chunk_in (slot_holding d xs)

  pub refusal_ends : Bytes d.bytes → Bytes xs → (p : Part) (at : ℕ) → (segment_after d xs first second).answer ≡ Err (EndsEarly p at) → EndsIn chunk p at
  refusal_ends b v p at e = go (refusal_leaves d xs first second (EndsEarly p at) e)
    where
      go : {r : After} → Leaves (EndsEarly p at) d xs first second r → EndsIn chunk p at
      go (unchanged c same) = absurd (early_number d xs first second (EndsEarly p at) c)
      go (spoils called c is s) = absurd (omega (arith, ap number_of is))
      go (completes called c z refused s) =
          let y = called_ready d xs first second called in
          told_ends (bytes-chunk d xs first second y.0 y.1 b v) (chunk_told (checks chunk) (segment_kind xs) chunk (EndsEarly p at) (λ ten. omega (arith, ten)) refused)

  -- so much as the reader's offsets for the chunk are within, the segment's is
  offset-within : (m : ℕ) (f : Refusal) → (checks chunk ≡ Err f → offset_of f ≤ m) → (segment_after d xs first second).answer ≡ Err f → offset_of f ≤ m
  offset-within m f reads e = go (refusal_leaves d xs first second f e)
    where
      none : (number_of f ≡ 9 → ⊥) → offset_of f ≤ m
      none h = omega (arith, no_offset f h)

      go : {r : After} → Leaves f d xs first second r → offset_of f ≤ m
      go (unchanged c same) = none (of_each (λ n. n ≡ 9 → ⊥) early_numbers (number_of f) (omega arith) (early_number d xs first second f c))
      go (spoils called c is s) = none (λ nine. omega (arith, ap number_of is))
      go (completes called c z refused s) =
          either (eqb (number_of f) 10)
          (λ q. none (λ nine. omega (arith, eqb-true (number_of f) 10 q)))
          (λ q. reads (chunk_told (checks chunk) (segment_kind xs) chunk f (eqb-false (number_of f) 10 q) refused))

  pub refusal_within : (f : Refusal) → (segment_after d xs first second).answer ≡ Err f → offset_of f ≤ length chunk
  refusal_within f = offset-within (length chunk) f (told_within chunk)

  pub refusal_small : (f : Refusal) → (segment_after d xs first second).answer ≡ Err f → offset_of f ≤ longest_chunk
  refusal_small f = offset-within longest_chunk f (told_small chunk f)

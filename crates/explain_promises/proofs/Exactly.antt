-- An explanation against the reader's answer and the segment call's checks, the buffers long enough and the desk in order. Assumes nothing.
use mathlib.Core.Path.{◌≡◌, refl, sym, ap, ◌∙◌}
use mathlib.Core.List.{List}
use Prim.Native.Nat.{ℕ, ◌≤◌}
use borrow.Author.Tests.{le-ltb}
use lib.ListN.{length}
use Rattle.std.proofs.Common.{Result, Ok, Err}
use Rattle.octets.specs.Checks.{check}
use Rattle.meaning.specs.declared.Refusal.{Refusal}
use Rattle.meaning.specs.declared.Refusal.TheVariants.{Clash}
use Rattle.meaning.specs.Checks.{and_then}
use Rattle.meaning.specs.Numbers.{checked_number, read_values}
use Rattle.meaning.specs.Reading.{checks, read_checks, read_for, read_answer}
use Rattle.meaning.specs.Sizes.{longest_listing}
use Rattle.segments.specs.Segment.{segment_checks}
use Rattle.desk.specs.declared.Desk.{Desk}
use Rattle.desk.specs.Desks.{call_checks}
use Rattle.desk.specs.Calls.{state, Ready}
use Rattle.effects.specs.Effects.{slot_before, clashes}
use Rattle.explains.specs.Explaining.{explained_values, chunk_explained, segment_explained, gathered_explained}
use Rattle.explains.proofs.Exactly.{chunk-number, segment-number, gathered-number}

pub chunk_exactly : (xs before : List ℕ) → longest_listing ≤ length before → (explained_values (chunk_explained xs)).number ≡ (read_values (read_answer xs before)).number
unfolding read_answer
chunk_exactly xs before long =
    let enough : checks xs ≡ read_checks xs before = sym (simp (le-ltb _ _ long) refl) in
    chunk-number xs ∙ told (checks xs) ∙ ap (λ (v : Result Unit Refusal). (read_values (read_for v xs)).number) enough
  where
    told : (v : Result Unit Refusal) → checked_number v ≡ (read_values (read_for v xs)).number
    told (Ok _) = refl
    told (Err f) = refl

module _ (d : Desk) (xs first second : List ℕ) (ready : Ready (state d first second)) where
  own_checks : segment_checks xs ≡ call_checks d xs first second
  own_checks = sym (simp (ready.0, le-ltb _ _ ready.1, le-ltb _ _ ready.2) refl)

  pub segment_exactly : (explained_values (segment_explained xs)).number ≡ checked_number (call_checks d xs first second)
  segment_exactly = segment-number xs ∙ ap checked_number own_checks

  pub gathered_exactly : (explained_values (gathered_explained (slot_before d xs).slot (slot_before d xs).bytes xs)).number ≡ checked_number (and_then (call_checks d xs first second) (check (clashes d xs) (Err Clash) (Ok tt)))
  gathered_exactly =
      gathered-number (slot_before d xs).slot (slot_before d xs).bytes xs
      ∙ ap (λ (v : Result Unit Refusal). checked_number (and_then v (check (clashes d xs) (Err Clash) (Ok tt)))) own_checks

-- A chunk of another major version: every piece of it is refused with 5, and nothing changes. Assumes nothing.
use mathlib.Core.Path.{◌≡◌, refl, sym, ap, ap₂, ◌∙◌}
use mathlib.Core.Bool.{true}
use mathlib.Core.List.{List, [], ◌∷◌, map}
use Prim.Native.Nat.{ℕ, ◌≤◌, ◌<◌}
use borrow.Author.Tests.{le-ltb, eq-eqb, ne_eqb}
use lib.ListN.{length}
use Rattle.std.proofs.Common.{Err}
use Rattle.octets.specs.Bits.{Bytes}
use Rattle.octets.specs.Each.{Each}
use Rattle.meaning.specs.declared.Refusal.TheVariants.{OtherMajor}
use Rattle.meaning.specs.Sizes.{longest_chunk, longest_listing}
use Rattle.meaning.specs.Reading.{major_in}
use Rattle.segments.specs.Segment.{segment_checks}
use Rattle.segments.specs.Cut.{segment_count, Choice, Suits, piece_of}
use Rattle.segments.proofs.Cut.{piece-read}
use Rattle.desk.specs.declared.Desk.{Desk}
use Rattle.desk.specs.Desks.{well_formed, After, after, segment_after}
use Rattle.desk.specs.Calls.{State, state, wholly, left_by, Ran, ran_by, ran, answers_of}
use Rattle.effects.proofs.Calls.{lent_whole, left_whole}

module _ (ys : List ℕ) (c : Choice) (bytes : Bytes ys) (suits : Suits ys c) (room : length ys ≤ longest_chunk) (other : major_in ys ≡ 0 → ⊥) where
  piece-major : (i : ℕ) → i < segment_count (length ys) → segment_checks (piece_of ys c i) ≡ Err OtherMajor
  unfolding segment_checks
  piece-major i inside =
      let r = piece-read ys c bytes suits room i inside in
      simp (eq-eqb _ _ r.0, eq-eqb _ _ r.1, eq-eqb _ _ r.2, ne_eqb _ _ (λ z. other (sym r.3 ∙ z)))

  module _ (d : Desk) (formed : well_formed d ≡ true) where
    pub piece_refused : (i : ℕ) → i < segment_count (length ys) → (first second : List ℕ) → longest_listing ≤ length first → longest_listing ≤ length second → segment_after d (piece_of ys c i) first second ≡ after (Err OtherMajor) d first second
    unfolding segment_after
    piece_refused i inside first second one two = simp (formed, le-ltb _ _ one, le-ltb _ _ two, piece-major i inside)

    module _ (first second : List ℕ) (one : longest_listing ≤ length first) (two : longest_listing ≤ length second) where
      abbrev s : State
      s = state d first second

      -- any calls after a piece of it
      piece-leaves : (i : ℕ) → i < segment_count (length ys) → left_by segment_after s (wholly s (piece_of ys c i)) ≡ s
      piece-leaves i inside =
          left_whole s (piece_of ys c i) ∙ ap (λ (r : After). state r.desk r.first r.second) (piece_refused i inside first second one two)

      pub pieces_refused : (numbers : List ℕ) → Each (λ i. i < segment_count (length ys)) numbers → let s = state d first second in let r = ran s (map (wholly s) (map (piece_of ys c) numbers)) in (answers_of r.told ≡ map (λ i. Err OtherMajor) numbers) × (r.left ≡ s)
      unfolding ran_by
      pieces_refused [] h = (refl, refl)
      pieces_refused (i ∷ more) h =
          let rest : State → Ran = λ t. ran t (map (wholly s) (map (piece_of ys c) more)) in
          let leaves = piece-leaves i h.0 in
          let t = pieces_refused more h.1 in (
            ap₂ ◌∷◌ (ap (λ (r : After). r.answer) (lent_whole s (piece_of ys c i) ∙ piece_refused i h.0 first second one two))
                (ap (λ (t : State). answers_of (rest t).told) leaves ∙ t.0),
            ap (λ (t : State). (rest t).left) leaves ∙ t.1,
          )

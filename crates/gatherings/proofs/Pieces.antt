-- A slot that holds pieces of one chunk, and what one more piece of it does there. Assumes nothing.
use mathlib.Core.Path.{◌≡◌, refl, sym, ap, ap₂, ◌∙◌}
use mathlib.Core.Bool.{true, false, true≢false}
use mathlib.Core.List.{List, ◌++◌}
use Prim.Native.Nat.{ℕ, suc, ◌+◌, ◌-◌, ◌*◌, ◌^◌, ◌%◌, ◌≤◌, ◌<◌}
use native.Mathlib.Omega.{arith}
use borrow.Author.Tests.{eq-eqb, eqb-true, eqb-false}
use lib.Dec.{eqb}
use lib.ListN.{length, get_or, take, drop, length-drop}
use lib.Seq.{take_all}
use lib.Count.{ones}
use Rattle.std.proofs.Common.{Ok}
use Rattle.octets.specs.Same.{same}
use Rattle.octets.proofs.Laws.{either, same_refl}
use Rattle.meaning.specs.declared.Kind.{Kind}
use Rattle.meaning.specs.Lists.{FicList, current_of}
use Rattle.meaning.specs.Listing.{listing}
use Rattle.meaning.specs.Reading.{checks, kind_in, list_in, Accepts}
use Rattle.segments.specs.Segment.{segment_header_bytes, payload_bytes, place_of, segment_kind, segment_checks, number_in, last_in, payload_in}
use Rattle.segments.proofs.Places.{take_places}
use Rattle.slots.specs.declared.Slot.{Slot}
use Rattle.slots.specs.declared.Answer.TheVariants.{Missing, NewList}
use Rattle.octets.specs.Sets.{holds, including}
use Rattle.slots.specs.Slots.{missing_in, slot_fits, clashing, holding}
use Rattle.slots.specs.Gathering.{Side, side, outcome, hold, chunk_in, completed, gathered}
use Rattle.meaning.proofs.Plain.{current-kind}
use Rattle.octets.proofs.Sets.{holds_none, holds-including, holds-other, ones-including, complete_full}
use Rattle.slots.proofs.Keeps.{place_kept, place-stored, segment-passes, number_small, slot-numbers, hold-fits}
use Rattle.slots.proofs.Laws.{completed_listed, clash-empty, gathered-repeat, gathered_more, gathered_last}

-- a set with a place in it is not empty
holds_some : (held i : ℕ) → holds held i ≡ true → held ≡ 0 → ⊥
holds_some held i t z = true≢false (sym t ∙ ap (λ (n : ℕ). holds n i) z ∙ holds_none i)

-- ---- the pieces of a chunk: n places of its bytes

-- the segment xs is the piece with the number i, of the kind k
pub record Piece (n : ℕ) (whole : List ℕ) (k : Kind) (i : ℕ) (xs : List ℕ) : Type 0 where
  pub passes : segment_checks xs ≡ Ok tt
  pub kind : segment_kind xs ≡ k
  pub number : number_in xs ≡ i
  pub last : last_in xs + 1 ≡ n
  pub payload : payload_in xs ≡ place_of whole i

-- a slot holds some of the pieces and nothing else
pub record OnlyPieces (n : ℕ) (whole : List ℕ) (s : Slot) (bytes : List ℕ) : Type 0 where
  pub sound : s.spoiled ≡ false
  pub last : (s.held ≡ 0 → ⊥) → s.last + 1 ≡ n
  pub places : (i : ℕ) → holds s.held i ≡ true → place_of bytes i ≡ place_of whole i

-- a slot that holds all of them has the whole chunk
pieces_whole : {n : ℕ} {whole : List ℕ} (s : Slot) (bytes : List ℕ) → OnlyPieces n whole s bytes → slot_fits s bytes ≡ true → (s.held ≡ 0 → ⊥) → ones s.held ≡ n → length whole ≤ payload_bytes * n → take (payload_bytes * (s.last + 1)) bytes ≡ whole
pieces_whole {n} {whole} s bytes h fits some all size =
    let last : s.last + 1 ≡ n = h.last some in
    let small : s.held < 2 ^ n = rw (sym last) (slot-numbers s bytes fits).2 in
    rw last
    (take_places n bytes whole (λ i l. h.places i (complete_full s.held n small all i l))
    ∙ take_all (payload_bytes * n) whole size)

-- ---- one more piece

module _ {n : ℕ} {whole : List ℕ} {k : Kind} {i : ℕ} {xs : List ℕ} (p : Piece n whole k i xs) (s : Side) (h : OnlyPieces n whole s.slot s.bytes) (fits : slot_fits s.slot s.bytes ≡ true) where
  abbrev held : ℕ
  held = s.slot.held

  same_place : holds held (number_in xs) ≡ true → same (place_of s.bytes (number_in xs)) (payload_in xs) ≡ true
  same_place t =
      let equal : place_of s.bytes (number_in xs) ≡ payload_in xs = h.places (number_in xs) t ∙ ap (place_of whole) p.number ∙ sym p.payload in
      ap (λ (ys : List ℕ). same ys (payload_in xs)) equal ∙ same_refl (payload_in xs)

  no_clash : clashing s.slot s.bytes xs ≡ false
  unfolding clashing
  no_clash =
      either (eqb held 0) (λ z. sym (clash-empty s.slot s.bytes xs h.sound (eqb-true held 0 z)))
      (λ z.
      let last : s.slot.last ≡ last_in xs = omega (arith, h.last (eqb-false held 0 z), p.last) in
      either (holds held (number_in xs))
      (λ t. simp (h.sound, z, eq-eqb _ _ last, t, same_place t))
      (λ f. simp (h.sound, z, eq-eqb _ _ last, f)))

  -- one that is held
  pub gathered_held : holds held i ≡ true → outcome (Ok (Missing (n - ones held))) s ≡ gathered k xs s
  gathered_held t =
      gathered-repeat k xs s no_clash (n - ones held) (ap (holds held) p.number ∙ t)
      (ap (λ (m : ℕ). m - ones held) (sym (h.last (holds_some held i t))))

  -- one that is not
  module _ (free : holds held i ≡ false) where
    free_there : holds held (number_in xs) ≡ false
    free_there = ap (holds held) p.number ∙ free

    pub hold_pieces : OnlyPieces n whole (holding s.slot xs) (hold xs s).bytes
    hold_pieces =
        let size : length (payload_in xs) ≡ payload_bytes = omega (arith, length-drop segment_header_bytes xs, segment-passes xs p.passes) in
        let room : payload_bytes * number_in xs + payload_bytes ≤ length s.bytes =
        omega (arith, number_small xs p.passes, (slot-numbers s.slot s.bytes fits).0) in
        record {
          sound = refl;
          last = λ some. p.last;
          places = λ j t.
              either (eqb (number_in xs) j)
              (λ q.
              let here = eqb-true (number_in xs) j q in
              ap (place_of (hold xs s).bytes) (sym here)
              ∙ place-stored s.bytes (payload_in xs) (number_in xs) size room
              ∙ p.payload
              ∙ ap (place_of whole) (sym p.number ∙ here))
              (λ q.
              let other = eqb-false (number_in xs) j q in
              place_kept s.bytes (payload_in xs) (number_in xs) j size other room
              ∙ h.places j (sym (holds-other held (number_in xs) j free_there other) ∙ t));
        }

    more_held : ones (including held (number_in xs)) ≡ suc (ones held)
    more_held = ones-including held (number_in xs) free_there

    pub missing_less : missing_in (holding s.slot xs) ≡ n - suc (ones held)
    missing_less = ap₂ ◌-◌ p.last more_held

    pub gathered_free : suc (ones held) < n → outcome (Ok (Missing (n - suc (ones held)))) (hold xs s) ≡ gathered k xs s
    gathered_free l =
        ap (λ (m : ℕ). outcome (Ok (Missing m)) (hold xs s)) (sym missing_less)
        ∙ gathered_more k xs s no_clash free_there (2 ^ number_in xs) refl (missing_in (holding s.slot xs)) refl (hold xs s).bytes refl (λ z. omega (arith, missing_less))

    -- the last one
    module _ {m : ℕ} {l : FicList} (size : length whole ≡ payload_bytes * n) (accepts : Accepts whole k m l) (all : suc (ones held) ≡ n) where
      chunk_whole : chunk_in (hold xs s) ≡ whole
      chunk_whole =
          pieces_whole (holding s.slot xs) (hold xs s).bytes hold_pieces
          (hold-fits xs s.slot s.bytes fits p.passes no_clash free_there)
          (holds_some (including held (number_in xs)) (number_in xs) (holds-including held (number_in xs) free_there))
          (more_held ∙ all)
          (omega (arith, size))

      pub gathered_all : outcome (Ok (NewList k (length (listing l)))) (side (holding s.slot xs) (hold xs s).bytes (listing l ++ drop (length (listing l)) s.buffer)) ≡ gathered k xs s
      gathered_all =
          let chunk : List ℕ = chunk_in (hold xs s) in
          let list : list_in chunk ≡ l = ap list_in chunk_whole ∙ accepts.list in
          let kind : kind_in chunk ≡ k = ap kind_in chunk_whole ∙ accepts.kind in
          let current : get_or chunk 1 0 % 2 ≡ current_of k = sym (current-kind (get_or chunk 1 0 % 2) (omega arith)) ∙ ap current_of kind in
          (λ j.
          let t = listing (sym list j) in
          outcome (Ok (NewList k (length t))) (side (holding s.slot xs) (hold xs s).bytes (t ++ drop (length t) s.buffer)))
          ∙ sym (completed_listed k (hold xs s) (ap checks chunk_whole ∙ accepts.passes) current)
          ∙ gathered_last k xs s no_clash free_there (2 ^ number_in xs) refl 0 (omega (arith, missing_less)) (hold xs s).bytes refl (completed k (hold xs s)) refl refl

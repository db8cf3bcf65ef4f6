-- What the explanations' code relies on: how long a refused chunk or segment is, and where two byte strings differ. Assumes nothing.
use mathlib.Core.Path.{◌≡◌, refl, sym, ap, ap₂, ◌∙◌}
use mathlib.Core.Bool.{Bool, true, false, not, cond}
use mathlib.Core.List.{List, [], ◌∷◌}
use Prim.Native.Nat.{ℕ, suc, ◌*◌, ◌≤◌, ◌<◌}
use native.Mathlib.Omega.{arith}
use borrow.Author.Tests.{ltb-false, eqb-true, eq-eqb, ne_eqb}
use lib.Dec.{ltb, eqb}
use lib.ListN.{length, get_or, drop, length-drop, length-take, drop_of_length-le}
use lib.Seq.{drop-cons, take_all}
use Rattle.std.proofs.Common.{Err, Option, None, Some}
use Rattle.octets.specs.Same.{same}
use Rattle.octets.specs.Sets.{holds}
use Rattle.octets.proofs.Laws.{either, check_follows, same_eq, same_refl}
use Rattle.meaning.specs.declared.Refusal.{Refusal}
use Rattle.meaning.specs.declared.Refusal.TheVariants.{ShortBuffer, SegmentLength, SegmentType, ErrorBit, OtherMajor, NumberAboveLast, Clash, TooLong, EndsEarly, KindDiffers, BadDesk}
use Rattle.meaning.specs.Numbers.{number_of, checked_number}
use Rattle.meaning.specs.Reading.{checks}
use Rattle.meaning.specs.Sizes.{longest_chunk}
use Rattle.segments.specs.Segment.{segment_bytes, segment_header_bytes, payload_bytes, place_of, number_in, last_in, payload_in, segment_checks}
use Rattle.slots.specs.declared.Slot.{Slot}
use Rattle.slots.specs.Slots.{clashing}
use Rattle.slots.proofs.Laws as slots
use Rattle.explains.specs.declared.Explained.{Explained}
use Rattle.explains.specs.declared.Explained.TheVariants.{Spoiled}
use Rattle.explains.specs.Explaining.{segment_fault, segment_by, first_differing, payload_fault, clash_fault, clash_explained}

-- ---- a refused chunk

-- by another number than 8 it is not too long
pub not_too_long : (xs : List ℕ) {f : Refusal} → (number_of f ≡ 8 → ⊥) → checks xs ≡ Err f → length xs ≤ longest_chunk
unfolding checks
not_too_long xs other e =
    ltb-false longest_chunk (length xs) (check_follows (ltb longest_chunk (length xs)) {answer = Err TooLong} (λ same. other (sym (ap checked_number same))) e).0

-- by its major version it has two bytes
pub major_whole : (xs : List ℕ) → checks xs ≡ Err OtherMajor → 2 ≤ length xs
unfolding checks
major_whole xs e =
    let p = check_follows (ltb longest_chunk (length xs)) {answer = Err TooLong} (λ same. omega (arith, ap checked_number same)) e in
    ltb-false (length xs) 2 (check_follows (ltb (length xs) 2) (λ same. omega (arith, ap checked_number same)) p.1).0

-- ---- a segment that is not refused for its length

pub segment_whole : (xs : List ℕ) → (segment_checks xs ≡ Err SegmentLength → ⊥) → length xs ≡ segment_bytes
unfolding segment_checks
segment_whole xs other =
    either (eqb (length xs) segment_bytes) (eqb-true (length xs) segment_bytes) (λ t. absurd (other (simp t refl)))

-- where it is refused, by the refusal's number
pub refused : (f : Refusal) (passed : Option Explained) (xs : List ℕ) → Some (segment_fault (number_of f) xs) ≡ segment_by (number_of f) passed xs
refused ShortBuffer passed xs = refl
refused SegmentLength passed xs = refl
refused SegmentType passed xs = refl
refused ErrorBit passed xs = refl
refused OtherMajor passed xs = refl
refused NumberAboveLast passed xs = refl
refused Clash passed xs = refl
refused TooLong passed xs = refl
refused (EndsEarly part at) passed xs = refl
refused KindDiffers passed xs = refl
refused BadDesk passed xs = refl

-- ---- the first place at which zs has not the byte of ys, from place i on

module _ (ys zs : List ℕ) (i : ℕ) (h : i < length ys) where
  from_here : first_differing (drop i ys) (drop i zs) ≡ first_differing (get_or ys i 0 ∷ drop (suc i) ys) (drop i zs)
  from_here = ap (λ (l : List ℕ). first_differing l (drop i zs)) (drop-cons ys i 0 h)

  pub none_there : length zs ≤ i → first_differing (drop i ys) (drop i zs) ≡ 0
  unfolding first_differing
  none_there s = from_here ∙ ap (first_differing (get_or ys i 0 ∷ drop (suc i) ys)) (drop_of_length-le zs s)

  module _ (k : i < length zs) where
    both_here : first_differing (drop i ys) (drop i zs) ≡ first_differing (get_or ys i 0 ∷ drop (suc i) ys) (get_or zs i 0 ∷ drop (suc i) zs)
    both_here = from_here ∙ ap (first_differing (get_or ys i 0 ∷ drop (suc i) ys)) (drop-cons zs i 0 k)

    pub other_there : (get_or ys i 0 ≡ get_or zs i 0 → ⊥) → first_differing (drop i ys) (drop i zs) ≡ 0
    unfolding first_differing
    other_there d = both_here ∙ simp (ne_eqb _ _ d) refl

    pub same_there : get_or ys i 0 ≡ get_or zs i 0 → first_differing (drop i ys) (drop i zs) ≡ suc (first_differing (drop (suc i) ys) (drop (suc i) zs))
    unfolding first_differing
    same_there e = both_here ∙ simp (eq-eqb _ _ e) refl

pub past_end : (ys zs : List ℕ) (i : ℕ) → length ys ≤ i → first_differing (drop i ys) (drop i zs) ≡ 0
unfolding first_differing
past_end ys zs i h = ap (λ (l : List ℕ). first_differing l (drop i zs)) (drop_of_length-le ys h)

-- it is past the last exactly where they are equal
pub alike_same : (ys zs : List ℕ) → length zs ≤ length ys → first_differing ys zs ≡ length ys → zs ≡ ys
unfolding first_differing
alike_same [] [] h e = refl
alike_same [] (z ∷ zs) h e = absurd (omega arith)
alike_same (y ∷ ys) [] h e = absurd (omega arith)
alike_same (y ∷ ys) (z ∷ zs) h e =
    either (eqb y z)
    (λ t. ap₂ ◌∷◌ (sym (eqb-true y z t)) (alike_same ys zs (omega arith) (let p = simp t at e in omega arith)))
    (λ t. absurd (let p = simp t at e in omega arith))

pub same_alike : (ys : List ℕ) → first_differing ys ys ≡ length ys
unfolding first_differing
same_alike [] = refl
same_alike (y ∷ ys) = simp (eq-eqb y y refl) (ap suc (same_alike ys))

-- ---- what a clash is with, as the code finds it

module _ (s : Slot) (bytes xs : List ℕ) where
  told : {b : Bool} {e : Option Explained} → b ≡ clashing s bytes xs → cond b (Some (clash_fault s bytes xs)) None ≡ e → e ≡ clash_explained s bytes xs
  told {b} {e} is found = sym found ∙ ap (λ (t : Bool). cond t (Some (clash_fault s bytes xs)) None) is

  pub explain_spoiled : s.spoiled ≡ true → Some Spoiled ≡ clash_explained s bytes xs
  explain_spoiled e = told (slots.clash_spoiled s bytes xs e) (simp e refl)

  module _ (sound : s.spoiled ≡ false) where
    pub explain_empty : s.held ≡ 0 → None ≡ clash_explained s bytes xs
    explain_empty e = told (slots.clash-empty s bytes xs sound e) refl

    module _ (some : s.held ≡ 0 → ⊥) where
      pub explain_last : (s.last ≡ last_in xs → ⊥) → Some (segment_fault 7 xs) ≡ clash_explained s bytes xs
      explain_last h = told (slots.clash_last s bytes xs sound some h) (simp (sound, ne_eqb _ _ h) refl)

      module _ (last : s.last ≡ last_in xs) where
        pub explain_free : holds s.held (number_in xs) ≡ false → None ≡ clash_explained s bytes xs
        explain_free h = told (slots.clash_none s bytes xs sound some last h) refl

        module _ (whole : length xs ≡ segment_bytes) (held : holds s.held (number_in xs) ≡ true) where
          abbrev place : List ℕ
          place = place_of bytes (number_in xs)

          payload_length : length (payload_in xs) ≡ payload_bytes
          payload_length = omega (arith, length-drop segment_header_bytes xs)

          place-length : length place ≤ payload_bytes
          place-length = omega (arith, length-take payload_bytes (drop (payload_bytes * number_in xs) bytes))

          clash_is : (b : Bool) → b ≡ same place (payload_in xs) → not b ≡ clashing s bytes xs
          clash_is b e = slots.clash_held s bytes xs sound some last b whole held (e ∙ ap (same place) (sym (take_all payload_bytes (payload_in xs) (omega (arith, payload_length)))))

          pub explain_alike : first_differing (payload_in xs) place ≡ payload_bytes → None ≡ clash_explained s bytes xs
          explain_alike e =
              let is = alike_same (payload_in xs) place (omega (arith, payload_length, place-length)) (e ∙ sym payload_length) in
              told (clash_is true (sym (ap (λ (l : List ℕ). same l (payload_in xs)) is ∙ same_refl (payload_in xs)))) refl

          pub explain_payload : (first_differing (payload_in xs) place ≡ payload_bytes → ⊥) → Some (payload_fault (first_differing (payload_in xs) place) xs) ≡ clash_explained s bytes xs
          explain_payload other =
              either (same place (payload_in xs))
              (λ t. absurd (other (ap (first_differing (payload_in xs)) (same_eq place (payload_in xs) t) ∙ same_alike (payload_in xs) ∙ payload_length)))
              (λ t. told (clash_is false (sym t)) (simp (sound, eq-eqb _ _ last) refl))

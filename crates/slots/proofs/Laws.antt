-- Laws of the definitions in the code's own terms. Assumes nothing.
use mathlib.Core.Path.{◌≡◌, refl, sym, ap, ◌∙◌}
use mathlib.Core.Bool.{Bool, true, false, not}
use mathlib.Core.List.{List, ◌++◌}
use Prim.Native.Nat.{ℕ, ◌+◌, ◌%◌, ◌^◌, ◌≤◌, ◌<◌}
use native.Mathlib.Nat.{zero-add, zero-div}
use native.Mathlib.Omega.{arith}
use borrow.Author.Tests.{eq-eqb, ne_eqb, eqb-true, eqb-false}
use lib.Dec.{eqb}
use lib.ListN.{length, get_or, take, drop, length-drop}
use lib.Seq.{take_all, sets, sets-eq}
use lib.Pow.{pow_mono}
use Rattle.std.proofs.Common.{Result, Ok, Err}
use Rattle.meaning.specs.declared.Kind.{Kind}
use Rattle.meaning.specs.declared.Refusal.{Refusal}
use Rattle.meaning.specs.declared.Refusal.TheVariants.{Clash, KindDiffers}
use Rattle.meaning.specs.Sizes.{longest_listing}
use Rattle.meaning.specs.Lists.{current_of}
use Rattle.meaning.specs.Listing.{listing}
use Rattle.meaning.specs.Reading.{checks, list_in}
use Rattle.meaning.proofs.Lengths.{listing-fits}
use Rattle.slots.specs.declared.Slot.{Slot}
use Rattle.slots.specs.declared.Answer.TheVariants.{Missing, NewList}
use Rattle.octets.specs.Same.{same}
use Rattle.octets.proofs.Laws.{either}
use Rattle.segments.specs.Segment.{segment_bytes, segment_header_bytes, payload_bytes, most_segments, place_of, number_in, last_in, payload_in, segment_checks}
use Rattle.octets.specs.Sets.{holds}
use Rattle.slots.specs.Slots.{missing_in, slot_fits, clashing, holding}
use Rattle.slots.specs.Gathering.{Side, Outcome, side, outcome, spoil, hold, chunk_in, kind_checks, judged, completed, gathered}
use Rattle.slots.proofs.Keeps.{slot-numbers, hold-fits}

-- ---- a complete slot

module _ (k : Kind) (s : Side) where
  pub chunk_refused : {f : Refusal} → checks (chunk_in s) ≡ Err f → outcome (Err f) s ≡ completed k s
  unfolding completed
  chunk_refused e = sym (ap (λ (v : Result Unit Refusal). judged (kind_checks v k (chunk_in s)) k s) e)

  pub kind_refused : checks (chunk_in s) ≡ Ok tt → (get_or (chunk_in s) 1 0 % 2 ≡ current_of k → ⊥) → outcome (Err KindDiffers) s ≡ completed k s
  unfolding completed
  kind_refused e h = sym (ap (λ (v : Result Unit Refusal). judged (kind_checks v k (chunk_in s)) k s) e ∙ simp (ne_eqb _ _ h))

  pub completed_listed : checks (chunk_in s) ≡ Ok tt → get_or (chunk_in s) 1 0 % 2 ≡ current_of k → let l = listing (list_in (chunk_in s)) in completed k s ≡ outcome (Ok (NewList k (length l))) (side s.slot s.bytes (l ++ drop (length l) s.buffer))
  unfolding completed
  completed_listed e h = ap (λ (v : Result Unit Refusal). judged (kind_checks v k (chunk_in s)) k s) e ∙ simp (eq-eqb _ _ h)

  pub chunk_listed : (n : ℕ) (after : List ℕ) → longest_listing ≤ length s.buffer → checks (chunk_in s) ≡ Ok tt → get_or (chunk_in s) 1 0 % 2 ≡ current_of k → n ≡ length (listing (list_in (chunk_in s))) → after ≡ sets s.buffer 0 (listing (list_in (chunk_in s))) → outcome (Ok (NewList k n)) (side s.slot s.bytes after) ≡ completed k s
  chunk_listed n after room e h size stored =
      let l : List ℕ = listing (list_in (chunk_in s)) in
      let fits : 0 + length l ≤ length s.buffer = omega (arith, listing-fits (chunk_in s) e) in
      let left = stored ∙ sets-eq l s.buffer 0 fits ∙ ap (λ (m : ℕ). l ++ drop m s.buffer) (zero-add (length l)) in
      (λ i. outcome (Ok (NewList k (size i))) (side s.slot s.bytes (left i))) ∙ sym (completed_listed e h)

-- ---- whether a segment clashes

module _ (s : Slot) (bytes xs : List ℕ) where
  pub clash_spoiled : s.spoiled ≡ true → true ≡ clashing s bytes xs
  unfolding clashing
  clash_spoiled e = simp e

  module _ (whole : s.spoiled ≡ false) where
    pub clash-empty : s.held ≡ 0 → false ≡ clashing s bytes xs
    unfolding clashing
    clash-empty e = simp (whole, e, zero-div)

    module _ (some : s.held ≡ 0 → ⊥) where
      pub clash_last : (s.last ≡ last_in xs → ⊥) → true ≡ clashing s bytes xs
      unfolding clashing
      clash_last h = simp (whole, ne_eqb _ _ some, ne_eqb _ _ h)

      module _ (last : s.last ≡ last_in xs) where
        pub clash_none : holds s.held (number_in xs) ≡ false → false ≡ clashing s bytes xs
        unfolding clashing
        clash_none h = simp (whole, ne_eqb _ _ some, eq-eqb _ _ last, h)

        pub clash_held : (r : Bool) → length xs ≡ segment_bytes → holds s.held (number_in xs) ≡ true → r ≡ same (place_of bytes (number_in xs)) (take payload_bytes (payload_in xs)) → not r ≡ clashing s bytes xs
        unfolding clashing
        clash_held r size h e =
            let all : length (payload_in xs) ≤ payload_bytes = omega (arith, length-drop segment_header_bytes xs) in
            ap not (e ∙ ap (same (place_of bytes (number_in xs))) (take_all payload_bytes (payload_in xs) all))
            ∙ simp (whole, ne_eqb _ _ some, eq-eqb _ _ last, h)

-- ---- a segment comes

module _ (k : Kind) (xs : List ℕ) (s : Side) where
  pub gathered-clash : clashing s.slot s.bytes xs ≡ true → outcome (Err Clash) (spoil s) ≡ gathered k xs s
  unfolding gathered
  gathered-clash c = simp c

  module _ (c : clashing s.slot s.bytes xs ≡ false) where
    pub gathered-repeat : (n : ℕ) → holds s.slot.held (number_in xs) ≡ true → n ≡ missing_in s.slot → outcome (Ok (Missing n)) s ≡ gathered k xs s
    unfolding gathered
    gathered-repeat n h e = ap (λ (m : ℕ). outcome (Ok (Missing m)) s) e ∙ simp (c, h)

    module _ (h : holds s.slot.held (number_in xs) ≡ false) (b : ℕ) (is : b ≡ 2 ^ number_in xs) where
      -- the slot as the code makes it, with b for the place's bit
      abbrev pub more : Slot
      more = record { last = last_in xs; held = s.slot.held + b; spoiled = false }

      more_is : more ≡ holding s.slot xs
      more_is i = record { last = last_in xs; held = s.slot.held + is i; spoiled = false }

      module _ (fits : slot_fits s.slot s.bytes ≡ true) (passes : segment_checks xs ≡ Ok tt) where
        pub more_small : (more.last < most_segments) × (more.held < 2 ^ (more.last + 1))
        more_small =
            let n = slot-numbers (holding s.slot xs) (hold xs s).bytes (hold-fits xs s.slot s.bytes fits passes c h) in
            (n.1, omega (arith, n.2))

        pub more_word : more.held < 2 ^ 16
        more_word =
            let few : more.last + 1 ≤ 16 = omega (arith, more_small.0) in
            omega (arith, more_small.1, pow_mono few)

      module _ (n : ℕ) (e : n ≡ missing_in more) (bytes : List ℕ) (stored : bytes ≡ (hold xs s).bytes) where
        left_is : n ≡ missing_in (holding s.slot xs)
        left_is = e ∙ ap missing_in more_is

        pub gathered_more : (n ≡ 0 → ⊥) → outcome (Ok (Missing n)) (side more bytes s.buffer) ≡ gathered k xs s
        unfolding gathered
        gathered_more some =
            (λ i. outcome (Ok (Missing (left_is i))) (side (more_is i) (stored i) s.buffer))
            ∙ simp (c, h, ne_eqb _ _ (λ (z : missing_in (holding s.slot xs) ≡ 0). some (left_is ∙ z)))

        pub gathered_last : (o : Outcome) → n ≡ 0 → o ≡ completed k (side more bytes s.buffer) → o ≡ gathered k xs s
        unfolding gathered
        gathered_last o none done =
            done
            ∙ (λ i. completed k (side (more_is i) (stored i) s.buffer))
            ∙ simp (c, h, eq-eqb _ _ (sym left_is ∙ none))

-- ---- the five ways of a segment that comes

module _ (P : Outcome → Type 0) (k : Kind) (xs : List ℕ) (s : Side) where
  abbrev chunk : List ℕ
  chunk = chunk_in (hold xs s)

  abbrev free : Type 0
  free = (clashing s.slot s.bytes xs ≡ false) × (holds s.slot.held (number_in xs) ≡ false)

  completed_cases : ((f : Refusal) → kind_checks (checks chunk) k chunk ≡ Err f → P (outcome (Err f) (hold xs s))) → (kind_checks (checks chunk) k chunk ≡ Ok tt → P (judged (Ok tt) k (hold xs s))) → P (completed k (hold xs s))
  unfolding completed
  completed_cases refused listed = go (kind_checks (checks chunk) k chunk) refl
    where
      go : (v : Result Unit Refusal) → kind_checks (checks chunk) k chunk ≡ v → P (judged v k (hold xs s))
      go (Err f) e = refused f e
      go (Ok _) e = listed e

  -- a clash; a repeat; one more; the last missing one, whose chunk is refused or listed
  pub gathered_cases : (clashing s.slot s.bytes xs ≡ true → P (outcome (Err Clash) (spoil s))) → (clashing s.slot s.bytes xs ≡ false → holds s.slot.held (number_in xs) ≡ true → P (outcome (Ok (Missing (missing_in s.slot))) s)) → (free → (missing_in (hold xs s).slot ≡ 0 → ⊥) → P (outcome (Ok (Missing (missing_in (hold xs s).slot))) (hold xs s))) → (free → missing_in (hold xs s).slot ≡ 0 → (f : Refusal) → kind_checks (checks chunk) k chunk ≡ Err f → P (outcome (Err f) (hold xs s))) → (free → missing_in (hold xs s).slot ≡ 0 → kind_checks (checks chunk) k chunk ≡ Ok tt → P (judged (Ok tt) k (hold xs s))) → P (gathered k xs s)
  unfolding gathered
  gathered_cases clash again more refused listed =
      either (clashing s.slot s.bytes xs) (λ c. simp c (clash c))
      (λ c.
      either (holds s.slot.held (number_in xs)) (λ h. simp (c, h) (again c h))
      (λ h.
      either (eqb (missing_in (hold xs s).slot) 0)
      (λ z. let none = eqb-true _ _ z in simp (c, h, z) (completed_cases (refused (c, h) none) (listed (c, h) none)))
      (λ z. simp (c, h, z) (more (c, h) (eqb-false _ _ z)))))

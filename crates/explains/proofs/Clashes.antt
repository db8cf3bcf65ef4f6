-- A clash (7): every check on the segment itself passes, and what is named is so. The slot was spoiled, or its last number differs, or the payload
-- that it holds does, first in the byte named. Assumes nothing.
use mathlib.Core.Path.{◌≡◌, refl, sym, ap, ◌∙◌}
use mathlib.Core.Bool.{true, false, not, true≢false, and-eq-true_iff, and-false}
use mathlib.Core.List.{List, [], ◌∷◌}
use Prim.Native.Nat.{ℕ, zero, suc, ◌+◌, ◌*◌, ◌<◌}
use native.Mathlib.Omega.{arith}
use borrow.Author.Tests.{eqb-true, eqb-false, eq-eqb, not-true}
use lib.Dec.{eqb}
use lib.ListN.{length, get_or, length-drop}
use lib.Seq.{get_or-drop}
use Rattle.std.proofs.Common.{Result, Ok, Err, Option, Some}
use Rattle.octets.specs.Bits.{Bytes}
use Rattle.octets.specs.Same.{same}
use Rattle.octets.specs.Sets.{holds}
use Rattle.octets.specs.Checks.{check}
use Rattle.octets.specs.Tables.{number_at}
use Rattle.octets.proofs.Laws.{either, get_d_byte}
use Rattle.octets.proofs.Tables.{number_in-byte}
use Rattle.meaning.specs.declared.Refusal.{Refusal}
use Rattle.meaning.specs.declared.Refusal.TheVariants.{Clash}
use Rattle.meaning.specs.Checks.{and_then}
use Rattle.meaning.specs.Numbers.{checked_number}
use Rattle.segments.specs.Segment.{segment_header_bytes, payload_bytes, place_of, number_in, last_in, payload_in, segment_checks}
use Rattle.segments.proofs.Checks.{check-numbers}
use Rattle.segments.proofs.Places.{length_part}
use Rattle.slots.specs.declared.Slot.{Slot}
use Rattle.slots.specs.Slots.{clashing, slot_fits}
use Rattle.slots.proofs.Keeps.{segment-passes, number_small, slot-numbers}
use Rattle.fields.specs.declared.Table.TheVariants.{Segment}
use Rattle.explains.specs.declared.Field.TheVariants.{Row, Payload}
use Rattle.explains.specs.declared.Explained.{Explained}
use Rattle.explains.specs.declared.Explained.TheVariants.{Found, Spoiled}
use Rattle.explains.specs.Explaining.{explained_values, segment_fault, first_differing, payload_fault, clash_fault, gathered_explained}
use Rattle.explains.specs.Breaks.{PassesBefore, LastDiffers, PayloadDiffers}
use Rattle.explains.proofs.Exactly.{gathered-number}
use Rattle.explains.proofs.Segments.{passes, last_value}

pub clash-passes_before : (s : Slot) (bytes xs : List ℕ) → PassesBefore (explained_values (gathered_explained s bytes xs)).number xs
clash-passes_before s bytes xs = rw (gathered-number s bytes xs) (passes xs (check (clashing s bytes xs) (Err Clash) (Ok tt)))

-- ---- the first byte that differs

-- strings that are equal before the place n are so one place on, with an equal byte before them
equal_on : (y z : ℕ) (ys zs : List ℕ) (n : ℕ) → y ≡ z → ((j : ℕ) → j < n → get_or ys j 0 ≡ get_or zs j 0) → (j : ℕ) → j < suc n → get_or (y ∷ ys) j 0 ≡ get_or (z ∷ zs) j 0
equal_on y z ys zs n first more zero l = first
equal_on y z ys zs n first more (suc j) l = more j (omega arith)

first_differs : (ys zs : List ℕ) → length ys ≡ length zs → same zs ys ≡ false → let i = first_differing ys zs in (i < length ys) × (get_or ys i 0 ≡ get_or zs i 0 → ⊥) × ((j : ℕ) → j < i → get_or ys j 0 ≡ get_or zs j 0)
unfolding first_differing
first_differs [] [] e d = absurd (true≢false d)
first_differs [] (z ∷ zs) e d = absurd (omega arith)
first_differs (y ∷ ys) [] e d = absurd (omega arith)
first_differs (y ∷ ys) (z ∷ zs) e d =
    either (eqb y z)
    (λ q.
    let first = eqb-true y z q in
    let more = first_differs ys zs (omega arith) (simp (eq-eqb z y (sym first)) at d) in
    simp q (omega (arith, more.0), more.1, equal_on y z ys zs (first_differing ys zs) first more.2))
    (λ q. simp q (omega arith, eqb-false y z q, λ j l. absurd (omega arith)))

-- ---- a clash

module _ (s : Slot) (bytes xs : List ℕ) where
  abbrev held : List ℕ
  held = place_of bytes (number_in xs)

  -- what it is with: a spoiled slot, the last number, the payload
  clash_ways : {R : Type 0} {e : Option Explained} → Some (clash_fault s bytes xs) ≡ e → (s.spoiled ≡ true → Some Spoiled ≡ e → R) → (s.spoiled ≡ false → (s.last ≡ last_in xs → ⊥) → Some (segment_fault 7 xs) ≡ e → R) → (s.spoiled ≡ false → s.last ≡ last_in xs → Some (payload_fault (first_differing (payload_in xs) held) xs) ≡ e → R) → R
  clash_ways is spoiled last payload =
      either s.spoiled (λ q. spoiled q (simp q at is))
      (λ q.
      either (eqb s.last (last_in xs))
      (λ r. payload q (eqb-true _ _ r) (simp (q, r) at is))
      (λ r. last q (eqb-false _ _ r) (simp (q, r) at is)))

  -- it is explained where the checks on the segment itself pass
  clash_told : {e : Option Explained} → gathered_explained s bytes xs ≡ e → (explained_values e).number ≡ 7 → (segment_checks xs ≡ Ok tt) × (clashing s bytes xs ≡ true) × (Some (clash_fault s bytes xs) ≡ e)
  unfolding gathered_explained
  clash_told is seven =
      let both = go (segment_checks xs) refl (sym (gathered-number s bytes xs) ∙ ap (λ (e : Option Explained). (explained_values e).number) is ∙ seven) in
      (both.0, both.1, simp (both.0, both.1) at is)
    where
      go : (v : Result Unit Refusal) → segment_checks xs ≡ v → checked_number (and_then v (check (clashing s bytes xs) (Err Clash) (Ok tt))) ≡ 7 → (segment_checks xs ≡ Ok tt) × (clashing s bytes xs ≡ true)
      go (Ok _) is n = (is, either (clashing s bytes xs) (λ q. q) (λ q. let z : 0 ≡ 7 = simp q at n in absurd (omega arith)))
      go (Err f) is n = absurd (rw (ap checked_number is ∙ n) at (check-numbers xs))

  -- the place is held, with other payload
  held_otherwise : clashing s bytes xs ≡ true → s.spoiled ≡ false → s.last ≡ last_in xs → (holds s.held (number_in xs) ≡ true) × (same held (payload_in xs) ≡ false)
  unfolding clashing
  held_otherwise c q l =
      let p = (and-eq-true_iff (holds s.held (number_in xs)) (not (same held (payload_in xs)))).0 (simp (q, eq-eqb _ _ l, and-false) at c) in
      (p.0, not-true _ p.1)

payload_value : (xs : List ℕ) → Bytes xs → (i : ℕ) → segment_header_bytes + i < length xs → number_at xs (8 * (segment_header_bytes + i)) 8 ≡ get_or (payload_in xs) i 0
payload_value xs b i l =
    let k : ℕ = segment_header_bytes + i in
    let first_bit : 8 * k ≡ 8 * k + 0 = omega arith in
    ap (λ (at : ℕ). number_at xs at 8) first_bit
    ∙ number_in-byte xs k 0 8 l (omega arith)
    ∙ omega (arith, get_d_byte xs k b)
    ∙ sym (get_or-drop segment_header_bytes xs i 0)

-- ---- what is named

pub spoiled_before : (s : Slot) (bytes xs : List ℕ) → gathered_explained s bytes xs ≡ Some Spoiled → s.spoiled ≡ true
spoiled_before s bytes xs is =
    clash_ways s bytes xs (clash_told s bytes xs is refl).2
    (λ q e. q)
    (λ q l e. let z : ◌≡◌ {A = ℕ} 0 1 = cc e in absurd (omega arith))
    (λ q l e. let z : ◌≡◌ {A = ℕ} 0 1 = cc e in absurd (omega arith))

pub last_differs : (s : Slot) (bytes xs : List ℕ) {i at value : ℕ} → Bytes xs → gathered_explained s bytes xs ≡ Some (Found 7 (Row Segment i) at value) → LastDiffers s xs i at value
last_differs s bytes xs {i} {at} {value} b is =
    let told = clash_told s bytes xs is refl in
    clash_ways s bytes xs told.2
    (λ q e. let z : ◌≡◌ {A = ℕ} 0 1 = cc e in absurd (omega arith))
    (λ q l e.
    let last : value ≡ last_in xs = cc (last_value xs b (segment-passes xs told.0).0) in
    record { row = cc; offset = cc; found = cc; unwanted = λ z. l (sym z ∙ last); sound = q })
    (λ q l e. let z : ◌≡◌ {A = ℕ} 0 1 = cc e in absurd (omega arith))

pub payload_differs : (s : Slot) (bytes xs : List ℕ) {at value : ℕ} → Bytes xs → slot_fits s bytes ≡ true → gathered_explained s bytes xs ≡ Some (Found 7 Payload at value) → PayloadDiffers s bytes xs at value
payload_differs s bytes xs {at} {value} b fits is =
    let told = clash_told s bytes xs is refl in
    let whole = (segment-passes xs told.0).0 in
    let sent : length (payload_in xs) ≡ payload_bytes = omega (arith, length-drop segment_header_bytes xs) in
    let held : List ℕ = place_of bytes (number_in xs) in
    let kept : length held ≡ payload_bytes = length_part bytes (payload_bytes * number_in xs) (omega (arith, slot-numbers s bytes fits, number_small xs told.0)) in
    clash_ways s bytes xs told.2
    (λ q e. let z : ◌≡◌ {A = ℕ} 0 1 = cc e in absurd (omega arith))
    (λ q l e. let z : ◌≡◌ {A = ℕ} 0 1 = cc e in absurd (omega arith))
    (λ q l e.
    let i : ℕ = first_differing (payload_in xs) held in
    let other = held_otherwise s bytes xs told.1 q l in
    let first = first_differs (payload_in xs) held (sent ∙ sym kept) other.1 in
    let byte : value ≡ get_or (payload_in xs) i 0 = cc (payload_value xs b i (omega (arith, first.0))) in
    record {
      byte = i;
      inside = omega (arith, first.0);
      offset = cc e;
      found = cc e;
      own = byte;
      unwanted = λ z. first.1 (sym byte ∙ z);
      first = first.2;
      last = l;
      held = other.0;
      sound = q;
    })

-- A desk by its parts: the two slots' bytes are all its bytes, and it is well formed if each part is. Assumes nothing.
use mathlib.Core.Path.{◌≡◌, refl, sym, ap, ap₂, ◌∙◌}
use mathlib.Core.Bool.{true, ◌&&◌, and-eq-true_iff}
use mathlib.Core.List.{List, ◌++◌, append-nil}
use Prim.Native.Nat.{ℕ, ◌+◌, ◌-◌, ◌≤◌}
use native.Mathlib.Omega.{arith}
use lib.ListN.{length, take, drop, length-append, length-drop, length-replicate, take-append-drop, drop_of_length-le}
use lib.Seq.{take_all, take_at, drop_at}
use Rattle.meaning.specs.declared.Kind.{Kind}
use Rattle.meaning.specs.declared.Kind.TheVariants.{This, Next}
use Rattle.meaning.specs.Sizes.{longest_chunk, longest_listing}
use Rattle.slots.specs.Slots.{no_bytes, slot_fits}
use Rattle.slots.proofs.Keeps.{slot-numbers}
use Rattle.notes.specs.Notes.{length_fits, slot_for, length_for}
use Rattle.notes.proofs.Laws.{length_small}
use Rattle.desk.specs.declared.Desk.{Desk}
use Rattle.desk.specs.Desks.{well_formed, bytes_for, bytes_with}

-- ---- a desk by its parts

pub desk_parts : (d : Desk) → well_formed d ≡ true → (length_fits d.notes.shown ≡ true) × (length_fits d.notes.coming ≡ true) × (slot_fits d.notes.this (bytes_for This d) ≡ true) × (slot_fits d.notes.next (bytes_for Next d) ≡ true)
unfolding well_formed
desk_parts d e =
    let p = (and-eq-true_iff (length_fits d.notes.shown && length_fits d.notes.coming) _).0 e in
    let l = (and-eq-true_iff (length_fits d.notes.shown) (length_fits d.notes.coming)).0 p.0 in
    let s = (and-eq-true_iff (slot_fits d.notes.this (bytes_for This d)) (slot_fits d.notes.next (bytes_for Next d))).0 p.1 in
    (l.0, l.1, s.0, s.1)

-- by kind: the length of its listing and its slot fit
abbrev pub Fits : Kind → Desk → Type 0
Fits k d = (length_fits (length_for k d.notes) ≡ true) × (slot_fits (slot_for k d.notes) (bytes_for k d) ≡ true)

pub kind_fits : (k : Kind) (d : Desk) → well_formed d ≡ true → Fits k d
kind_fits This d w = let p = desk_parts d w in (p.0, p.2)
kind_fits Next d w = let p = desk_parts d w in (p.1, p.3)

pub length_for_small : (k : Kind) (d : Desk) → well_formed d ≡ true → length_for k d.notes ≤ longest_listing
length_for_small k d w = length_small (length_for k d.notes) (kind_fits k d w).0

-- ---- the bytes of both slots

pub both_bytes : (d : Desk) → bytes_for This d ++ bytes_for Next d ≡ d.bytes
both_bytes d = take-append-drop longest_chunk d.bytes

pub length-bytes : (k : Kind) (d : Desk) → well_formed d ≡ true → length (bytes_for k d) ≡ longest_chunk
length-bytes k d w = (slot-numbers (slot_for k d.notes) (bytes_for k d) (kind_fits k d w).1).0

pub length-desk : (d : Desk) → well_formed d ≡ true → length d.bytes ≡ longest_chunk + longest_chunk
length-desk d w = sym (ap length (both_bytes d)) ∙ length-append (bytes_for This d) (bytes_for Next d) ∙ ap₂ ◌+◌ (length-bytes This d w) (length-bytes Next d w)

pub start-low : {k : Kind} {at : ℕ} → (k ≡ This → at ≡ 0) × (k ≡ Next → at ≡ longest_chunk) → at ≤ longest_chunk
start-low {k = This} is = omega (arith, is.0 refl)
start-low {k = Next} is = omega (arith, is.1 refl)

-- a kind's bytes as a part of them all: from the place at which they begin, and with others put there
pub part_own : (k : Kind) (d : Desk) → well_formed d ≡ true → (at : ℕ) → (k ≡ This → at ≡ 0) × (k ≡ Next → at ≡ longest_chunk) → let n = at + longest_chunk - at in (take n (drop at d.bytes) ≡ bytes_for k d) × ((bytes : List ℕ) → take at d.bytes ++ (bytes ++ drop n (drop at d.bytes)) ≡ bytes_with k d bytes)
part_own This d w at is = rw (is.0 refl) (refl, λ bytes. refl)
part_own Next d w at is =
    let few : length (bytes_for Next d) ≤ longest_chunk = omega (arith, length-bytes Next d w) in
    rw (is.1 refl)
    (take_all longest_chunk (bytes_for Next d) few, λ bytes. ap (λ (r : List ℕ). bytes_for This d ++ (bytes ++ r)) (drop_of_length-le (bytes_for Next d) {i = longest_chunk} few) ∙ ap (λ (r : List ℕ). bytes_for This d ++ r) (append-nil bytes))

pub length_none : length no_bytes ≡ longest_chunk
length_none = length-replicate {A = ℕ} longest_chunk 0

-- two halves of a string, zs put over the one and then over the other
module _ (n : ℕ) (xs zs : List ℕ) (long : length xs ≡ n + n) (size : length zs ≡ n) {one : List ℕ} (a : one ≡ zs) where
  abbrev ys : List ℕ
  ys = one ++ drop n xs

  pub length_halves : length ys ≡ n + n
  length_halves = length-append one (drop n xs) ∙ omega (arith, ap length a, size, length-drop n xs, long)

  pub second_half : take (length ys - n) (drop n ys) ≡ drop n xs
  second_half =
      let all : length (drop n xs) ≤ length ys - n = omega (arith, length_halves, length-drop n xs, long) in
      ap (take (length ys - n)) (drop_at one (drop n xs) n (ap length a ∙ size)) ∙ take_all (length ys - n) (drop n xs) all

  pub both_halves : {two : List ℕ} → two ≡ zs → take n ys ++ (two ++ drop (length ys - n) (drop n ys)) ≡ zs ++ zs
  both_halves {two} b =
      let h = ap length a ∙ size in
      let all : length (drop n ys) ≤ length ys - n = omega (arith, length_halves, length-drop n ys) in
      ap₂ ◌++◌ (take_at one (drop n xs) n h ∙ a) (ap (λ (r : List ℕ). two ++ r) (drop_of_length-le (drop n ys) {i = length ys - n} all) ∙ append-nil two ∙ b)

-- Whole records by what their mark tells, and the bodies of those with a length behind the mark. Assumes nothing.
use mathlib.Core.Path.{◌≡◌, sym, ap, ap₂, subst, ◌∙◌}
use mathlib.Core.Bool.{true, cond, true≢false}
use mathlib.Core.List.{List, [], ◌∷◌}
use Prim.Native.Nat.{ℕ, zero, suc, ◌+◌, ◌-◌, ◌≤◌}
use native.Mathlib.Nat.{zero-add, suc-add}
use native.Mathlib.Omega.{arith}
use borrow.Author.Tests.{ne_eqb, le-leb}
use lib.Dec.{eqb}
use lib.ListN.{length, take, drop, length-drop}
use lib.Seq.{take-nil, drop-drop}
use Rattle.octets.proofs.Laws.{either}
use Rattle.records.specs.declared.Form.{Form}
use Rattle.records.specs.declared.Form.TheVariants.{Foreign, Counted}
use Rattle.records.specs.declared.Entry.TheVariants.{Whole}
use Rattle.records.specs.Records.{mark_bytes, length_bytes, mark_in, Forms, entry_in, record_in, body_in}
use Rattle.records.proofs.Entries.{count_in, allowed, size_by, Shape, entry_shape, shape_entry, count_within}

-- ---- what the mark of a whole record tells

module _ (forms : Forms) (xs : List ℕ) (size : ℕ) (stands : Whole size ≡ entry_in forms xs) where
  pub whole_told : (f : Form) → forms (mark_in xs) ≡ f → (allowed f xs ≡ true) × (size ≡ size_by f xs) × (size ≤ length xs)
  whole_told f told =
      let shape : Shape forms xs (Whole size) = subst (Shape forms xs) (sym stands) (entry_shape forms xs) in
      subst (λ (g : Form). (allowed g xs ≡ true) × (size ≡ size_by g xs) × (size ≤ length xs)) (sym shape.1 ∙ told) (shape.2, shape.3, shape.4)

  -- a length within its limits
  pub whole_counted : (least most : ℕ) → forms (mark_in xs) ≡ Counted least most → (mark_bytes + length_bytes + least ≤ size) × (size ≤ mark_bytes + length_bytes + most) × (size ≤ length xs)
  whole_counted least most told =
      let w = whole_told (Counted least most) told in
      let c = count_within xs least most w.0 in
      (omega (arith, w.1, c.0), omega (arith, w.1, c.1), w.2)

-- the other way round
pub counted_entry : (forms : Forms) (xs : List ℕ) (least most count : ℕ) → forms (mark_in xs) ≡ Counted least most → count_in xs ≡ count → least ≤ count → count ≤ most → mark_bytes + length_bytes + count ≤ length xs → entry_in forms xs ≡ Whole (mark_bytes + length_bytes + count)
counted_entry forms xs least most count told is enough few room =
    shape_entry forms xs (Whole (mark_bytes + length_bytes + count))
    (Counted least most, told, simp (is, le-leb _ _ enough, le-leb _ _ few), ap (λ (n : ℕ). mark_bytes + length_bytes + n) (sym is), room)

-- ---- a file that has one mark

abbrev pub one_mark : ℕ → Form → Forms
one_mark mark form m = cond (eqb m mark) form Foreign

module _ (mark : ℕ) (form : Form) where
  pub other_foreign : (m : ℕ) → (m ≡ mark → ⊥) → Foreign ≡ one_mark mark form m
  other_foreign m other = simp (ne_eqb _ _ other)

  pub whole_marked : (xs : List ℕ) (size : ℕ) → Whole size ≡ entry_in (one_mark mark form) xs → one_mark mark form (mark_in xs) ≡ form
  whole_marked xs size stands =
      either (eqb (mark_in xs) mark) (λ t. simp t)
      (λ t. absurd (true≢false (sym (whole_told (one_mark mark form) xs size stands Foreign (simp t)).0)))

-- ---- at a place of a file

pub drop-take : (m k : ℕ) (l : List ℕ) → drop m (take (m + k) l) ≡ take k (drop m l)
drop-take zero k l = ap (λ (n : ℕ). take n l) (zero-add k)
drop-take (suc m) k [] = ap (drop (suc m)) (take-nil (suc m + k)) ∙ sym (take-nil k)
drop-take (suc m) k (x ∷ l) = ap (λ (n : ℕ). drop (suc m) (take n (x ∷ l))) (suc-add m k) ∙ drop-take m k l

module _ (file : List ℕ) (at size : ℕ) where
  pub counted_there : (forms : Forms) (least most : ℕ) → forms (mark_in (drop at file)) ≡ Counted least most → at ≤ length file → Whole size ≡ entry_in forms (drop at file) → (mark_bytes + length_bytes + least ≤ size) × (size ≤ mark_bytes + length_bytes + most) × (at + size ≤ length file)
  counted_there forms least most told inside stands =
      let w = whole_counted forms (drop at file) size stands least most told in
      (w.0, w.1, omega (arith, w.2, length-drop at file))

  pub body_there : mark_bytes + length_bytes ≤ size → take (at + size - (at + (mark_bytes + length_bytes))) (drop (at + (mark_bytes + length_bytes)) file) ≡ body_in (record_in size (drop at file))
  body_there long =
      let n : ℕ = size - (mark_bytes + length_bytes) in
      let count : at + size - (at + (mark_bytes + length_bytes)) ≡ n = omega arith in
      let more : size - mark_bytes ≡ length_bytes + n = omega arith in
      let place : at + mark_bytes + length_bytes ≡ at + (mark_bytes + length_bytes) = omega arith in
      ap₂ take count (sym (drop-drop length_bytes (at + mark_bytes) file ∙ ap (λ (k : ℕ). drop k file) place))
      ∙ sym (drop-take length_bytes n (drop (at + mark_bytes) file))
      ∙ ap₂ (λ (k : ℕ) (t : List ℕ). drop length_bytes (take k t)) (sym more) (sym (drop-drop mark_bytes at file))

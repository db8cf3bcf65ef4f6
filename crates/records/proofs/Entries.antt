-- What stands at the start of a file: by the code's tests, and with more behind it. Assumes nothing.
use mathlib.Core.Path.{◌≡◌, refl, sym, ap, ap₂, subst, ◌∙◌}
use mathlib.Core.Bool.{Bool, true, false, not, cond, ◌&&◌, true≢false, and-false, and-eq-true_iff}
use mathlib.Core.Logic.{◌⊎◌, inl, inr}
use mathlib.Core.List.{List, ◌∷◌, ◌++◌}
use Prim.Native.Nat.{ℕ, ◌+◌, ◌-◌, ◌≤◌, ◌<◌}
use native.Mathlib.Omega.{arith}
use borrow.Author.Tests.{eqb-true, eqb-false, ltb-true, ltb-false, leb-true, lt-ltb, le-ltb, le-leb, lt-leb, eq-eqb, ne_eqb}
use lib.Dec.{eqb, ltb, leb}
use lib.ListN.{length, get_or, take, drop, length-append, length-drop, get_or-append}
use lib.Seq.{take-append-le, drop-append-le, drop-drop}
use Rattle.octets.specs.Word.{word}
use Rattle.text.specs.Text.{text, numbered}
use Rattle.text.proofs.Laws.{length-numbered}
use Rattle.octets.proofs.Laws.{either, word_there}
use Rattle.records.specs.declared.Form.{Form}
use Rattle.records.specs.declared.Form.TheVariants.{Foreign, Fixed, Counted}
use Rattle.records.specs.declared.Entry.{Entry}
use Rattle.records.specs.declared.Entry.TheVariants.{End, Whole, Unknown, Cut}
use Rattle.records.specs.Records.{mark_bytes, length_bytes, mark_in, Forms, form_bytes, entry_as, entry_of, entry_in, is_whole, size_of, record_in, end_number, last_line, longest_last}

abbrev unknown : Entry → Bool
unknown Unknown = true
unknown End = false
unknown (Whole n) = false
unknown Cut = false

-- ---- by what the mark tells: how many bytes tell a record's size, whether the file takes it, the size, its mark included, and the greatest size

-- the length behind the mark
abbrev pub count_in : List ℕ → ℕ
count_in xs = word (get_or xs 2 0) (get_or xs 3 0)

abbrev pub telling_bytes : Form → ℕ
telling_bytes Foreign = mark_bytes
telling_bytes (Fixed n) = mark_bytes
telling_bytes (Counted least most) = mark_bytes + length_bytes

abbrev pub allowed : Form → List ℕ → Bool
allowed Foreign xs = false
allowed (Fixed n) xs = true
allowed (Counted least most) xs = leb least (count_in xs) && leb (count_in xs) most

abbrev pub size_by : Form → List ℕ → ℕ
size_by Foreign xs = mark_bytes
size_by (Fixed n) xs = mark_bytes + n
size_by (Counted least most) xs = mark_bytes + length_bytes + count_in xs

telling_inside : (f : Form) (xs : List ℕ) → (mark_bytes ≤ telling_bytes f) × (telling_bytes f ≤ size_by f xs) × (telling_bytes f ≤ form_bytes f)
telling_inside Foreign xs = (omega arith, omega arith, omega arith)
telling_inside (Fixed n) xs = (omega arith, omega arith, omega arith)
telling_inside (Counted least most) xs = (omega arith, omega arith, omega arith)

pub count_within : (xs : List ℕ) (least most : ℕ) → allowed (Counted least most) xs ≡ true → (least ≤ count_in xs) × (count_in xs ≤ most)
count_within xs least most a =
    let p = (and-eq-true_iff (leb least (count_in xs)) (leb (count_in xs) most)).0 a in
    (leb-true least (count_in xs) p.0, leb-true (count_in xs) most p.1)

size-within : (f : Form) (xs : List ℕ) → allowed f xs ≡ true → size_by f xs ≤ form_bytes f
size-within Foreign xs a = omega arith
size-within (Fixed n) xs a = omega arith
size-within (Counted least most) xs a = omega (arith, (count_within xs least most a).1)

as_of : (f : Form) (xs : List ℕ) → mark_bytes ≤ length xs → entry_as f xs ≡ entry_of f xs
as_of f xs two = let some : length xs ≡ 0 → ⊥ = λ z. omega arith in simp (ne_eqb _ _ some, le-ltb _ _ two)

by_size : (f : Form) (xs : List ℕ) → mark_bytes ≤ length xs → entry_as f xs ≡ cond (ltb (length xs) (telling_bytes f)) Cut (cond (not (allowed f xs)) Unknown (cond (ltb (length xs) (size_by f xs)) Cut (Whole (size_by f xs))))
by_size Foreign xs two = as_of Foreign xs two ∙ simp (le-ltb _ _ two)
by_size (Fixed n) xs two = as_of (Fixed n) xs two ∙ simp (le-ltb _ _ two)
by_size (Counted least most) xs two = as_of (Counted least most) xs two

-- ---- at a place of a file, test by test

pub mark_first : (a b : ℕ) (xs : List ℕ) → mark_in (a ∷ b ∷ xs) ≡ word a b
unfolding mark_in
mark_first a b xs =
    let two : mark_bytes ≤ length (a ∷ b ∷ xs) = omega arith in
    simp (le-ltb _ _ two)

module _ (xs : List ℕ) (at : ℕ) where
  pub mark_none : length xs - at < mark_bytes → 0 ≡ mark_in (drop at xs)
  unfolding mark_in
  mark_none h =
      let short : length (drop at xs) < mark_bytes = omega (arith, length-drop at xs) in
      simp (lt-ltb _ _ short)

  pub mark_there : (m : ℕ) → at + mark_bytes ≤ length xs → m ≡ word (get_or xs at 0) (get_or xs (at + 1) 0) → m ≡ mark_in (drop at xs)
  unfolding mark_in
  mark_there m h is =
      let long : mark_bytes ≤ length (drop at xs) = omega (arith, length-drop at xs) in
      simp (le-ltb _ _ long) (is ∙ sym (word_there xs at))

  module _ (form : Form) where
    pub as_end : length xs ≤ at → End ≡ entry_as form (drop at xs)
    as_end h =
        let none : length (drop at xs) ≡ 0 = omega (arith, length-drop at xs) in
        simp (eq-eqb _ _ none)

    module _ (some : at < length xs) where
      here : length xs - at ≡ 0 → ⊥
      here z = omega arith

      pub as_short : length xs - at < mark_bytes → Cut ≡ entry_as form (drop at xs)
      as_short h = simp (ne_eqb _ _ here, length-drop, lt-ltb _ _ h)

      module _ (long : mark_bytes ≤ length xs - at) where
        pub as_foreign : form ≡ Foreign → Unknown ≡ entry_as form (drop at xs)
        as_foreign e = simp (ne_eqb _ _ here, length-drop, le-ltb _ _ long, e)

        module _ (n : ℕ) (e : form ≡ Fixed n) where
          pub as_cut : length xs - at - mark_bytes < n → Cut ≡ entry_as form (drop at xs)
          as_cut h =
              let less : length xs - at < mark_bytes + n = omega arith in
              simp (ne_eqb _ _ here, length-drop, le-ltb _ _ long, e, lt-ltb _ _ less)

          pub as_whole : n ≤ length xs - at - mark_bytes → Whole (mark_bytes + n) ≡ entry_as form (drop at xs)
          as_whole h =
              let enough : mark_bytes + n ≤ length xs - at = omega arith in
              simp (ne_eqb _ _ here, length-drop, le-ltb _ _ long, e, le-ltb _ _ enough)

        pub as_counted : (least most : ℕ) → form ≡ Counted least most → (r : Entry) → r ≡ entry_of (Counted least most) (drop at xs) → r ≡ entry_as form (drop at xs)
        as_counted least most e r is =
            let two : mark_bytes ≤ length (drop at xs) = omega (arith, length-drop at xs) in
            is ∙ sym (as_of (Counted least most) (drop at xs) two) ∙ ap (λ (f : Form). entry_as f (drop at xs)) (sym e)

  -- a length behind the mark
  module _ (least most : ℕ) where
    pub counted-short : length xs - at < mark_bytes + length_bytes → Cut ≡ entry_of (Counted least most) (drop at xs)
    counted-short h = simp (length-drop, lt-ltb _ _ h)

    module _ (long : mark_bytes + length_bytes ≤ length xs - at) (count : ℕ) (is : count ≡ word (get_or xs (at + mark_bytes) 0) (get_or xs (at + mark_bytes + 1) 0)) where
      count_there : count_in (drop at xs) ≡ count
      count_there =
          sym
          (is
          ∙ sym (word_there xs (at + mark_bytes))
          ∙ ap (λ (t : List ℕ). word (get_or t 0 0) (get_or t 1 0)) (sym (drop-drop mark_bytes at xs))
          ∙ word_there (drop at xs) mark_bytes)

      by_count : entry_of (Counted least most) (drop at xs) ≡ cond (not (leb least count && leb count most)) Unknown (cond (ltb (length xs - at) (mark_bytes + length_bytes + count)) Cut (Whole (mark_bytes + length_bytes + count)))
      by_count = simp (length-drop, le-ltb _ _ long, count_there)

      pub counted_less : count < least → Unknown ≡ entry_of (Counted least most) (drop at xs)
      counted_less h = sym (by_count ∙ simp (lt-leb _ _ h))

      pub counted_more : most < count → Unknown ≡ entry_of (Counted least most) (drop at xs)
      counted_more h = sym (by_count ∙ simp (lt-leb _ _ h, and-false))

      module _ (enough : least ≤ count) (few : count ≤ most) where
        pub counted-cut : length xs - at < mark_bytes + length_bytes + count → Cut ≡ entry_of (Counted least most) (drop at xs)
        counted-cut h = sym (by_count ∙ simp (le-leb _ _ enough, le-leb _ _ few, lt-ltb _ _ h))

        pub counted_whole : mark_bytes + length_bytes + count ≤ length xs - at → Whole (mark_bytes + length_bytes + count) ≡ entry_of (Counted least most) (drop at xs)
        counted_whole h = sym (by_count ∙ simp (le-leb _ _ enough, le-leb _ _ few, le-ltb _ _ h))

-- as the code finds it: by the mark, and what that tells
pub entry_by : (forms : Forms) (xs : List ℕ) (mark : ℕ) (form : Form) (e : Entry) → mark ≡ mark_in xs → form ≡ forms mark → e ≡ entry_as form xs → e ≡ entry_in forms xs
unfolding entry_in
entry_by forms xs mark form e m f is = is ∙ ap (λ (g : Form). entry_as g xs) (f ∙ ap forms m)

-- ---- the same, read out: what is so where an entry stands

abbrev pub Shape : Forms → List ℕ → Entry → Type 0
Shape forms xs End = length xs ≡ 0
Shape forms xs (Whole size) =
    (f : Form) × (forms (mark_in xs) ≡ f) × (allowed f xs ≡ true) × (size ≡ size_by f xs) × (size ≤ length xs)
Shape forms xs Unknown = (f : Form) × (forms (mark_in xs) ≡ f) × (allowed f xs ≡ false) × (telling_bytes f ≤ length xs)
Shape forms xs Cut =
    ((0 < length xs) × (length xs < mark_bytes))
    ⊎ ((f : Form) × (forms (mark_in xs) ≡ f) × (mark_bytes ≤ length xs) × ((length xs < telling_bytes f) ⊎ ((allowed f xs ≡ true) × (length xs < size_by f xs))))

module _ (forms : Forms) (xs : List ℕ) where
  shape_told : (f : Form) → forms (mark_in xs) ≡ f → mark_bytes ≤ length xs → Shape forms xs (entry_as f xs)
  shape_told f e l =
      rw (by_size f xs l)
      (either (ltb (length xs) (telling_bytes f)) (λ c. simp c (inr (f, e, l, inl (ltb-true _ _ c))))
      (λ c.
      either (allowed f xs)
      (λ a. either (ltb (length xs) (size_by f xs)) (λ d. simp (c, a, d) (inr (f, e, l, inr (a, ltb-true _ _ d)))) (λ d. simp (c, a, d) (f, e, a, refl, ltb-false _ _ d)))
      (λ a. simp (c, a) (f, e, a, ltb-false _ _ c))))

  pub entry_shape : Shape forms xs (entry_in forms xs)
  unfolding entry_in
  entry_shape =
      either (ltb (length xs) mark_bytes)
      (λ l.
      either (eqb (length xs) 0) (λ z. simp z (eqb-true _ _ z))
      (λ z. let some : 0 < length xs = omega (arith, eqb-false (length xs) 0 z) in simp (z, l) (inl (some, ltb-true _ _ l))))
      (λ l. shape_told (forms (mark_in xs)) refl (ltb-false _ _ l))

  -- where the mark tells this
  told_entry : (f : Form) (e : Entry) → forms (mark_in xs) ≡ f → entry_as f xs ≡ e → entry_in forms xs ≡ e
  unfolding entry_in
  told_entry f e is = subst (λ (g : Form). entry_as g xs ≡ e) (sym is)

  pub shape_entry : (e : Entry) → Shape forms xs e → entry_in forms xs ≡ e
  unfolding entry_in
  shape_entry End h = simp (eq-eqb _ _ h)
  shape_entry (Whole size) (f, e, a, s, h) =
      let tell : telling_bytes f ≤ length xs = omega (arith, telling_inside f xs) in
      let room : size_by f xs ≤ length xs = omega arith in
      told_entry f (Whole size) e (by_size f xs (omega (arith, telling_inside f xs)) ∙ simp (le-ltb _ _ tell, a, le-ltb _ _ room) (ap Whole (sym s)))
  shape_entry Unknown (f, e, a, tell) =
      told_entry f Unknown e (by_size f xs (omega (arith, telling_inside f xs)) ∙ simp (le-ltb _ _ tell, a))
  shape_entry Cut (inl (h, l)) =
      let some : length xs ≡ 0 → ⊥ = λ z. omega arith in
      simp (ne_eqb _ _ some, lt-ltb _ _ l)
  shape_entry Cut (inr (f, e, two, inl l)) = told_entry f Cut e (by_size f xs two ∙ simp (lt-ltb _ _ l))
  shape_entry Cut (inr (f, e, two, inr (a, l))) =
      told_entry f Cut e (by_size f xs two ∙ either (ltb (length xs) (telling_bytes f)) (λ c. simp c) (λ c. simp (c, a, lt-ltb _ _ l)))

  size_of_lem : (e : Entry) → Shape forms xs e → size_of e ≤ length xs
  size_of_lem End h = omega arith
  size_of_lem (Whole size) (f, e, a, s, h) = h
  size_of_lem Unknown h = omega arith
  size_of_lem Cut h = omega arith

  pub size-inside : size_of (entry_in forms xs) ≤ length xs
  size-inside = size_of_lem (entry_in forms xs) entry_shape

  some_of : (e : Entry) → Shape forms xs e → is_whole e ≡ true → mark_bytes ≤ size_of e
  some_of End h w = absurd (true≢false (sym w))
  some_of (Whole size) (f, e, a, s, h) w = omega (arith, telling_inside f xs)
  some_of Unknown h w = absurd (true≢false (sym w))
  some_of Cut h w = absurd (true≢false (sym w))

  pub whole_some : is_whole (entry_in forms xs) ≡ true → mark_bytes ≤ size_of (entry_in forms xs)
  whole_some = some_of (entry_in forms xs) entry_shape

-- ---- with more behind it

module _ (xs rest : List ℕ) where
  byte_more : (i : ℕ) → i < length xs → get_or (xs ++ rest) i 0 ≡ get_or xs i 0
  byte_more i h = get_or-append xs rest 0 i h

  mark_more : mark_bytes ≤ length xs → mark_in (xs ++ rest) ≡ mark_in xs
  unfolding mark_in
  mark_more two =
      let more : mark_bytes ≤ length (xs ++ rest) = omega (arith, length-append xs rest) in
      simp (le-ltb _ _ two, le-ltb _ _ more) (ap₂ word (byte_more 0 (omega arith)) (byte_more 1 (omega arith)))

  count_more : mark_bytes + length_bytes ≤ length xs → count_in (xs ++ rest) ≡ count_in xs
  count_more four = ap₂ word (byte_more 2 (omega arith)) (byte_more 3 (omega arith))

  size_more : (f : Form) → telling_bytes f ≤ length xs → size_by f (xs ++ rest) ≡ size_by f xs
  size_more Foreign h = refl
  size_more (Fixed n) h = refl
  size_more (Counted least most) h = ap (λ (n : ℕ). mark_bytes + length_bytes + n) (count_more h)

  allowed_more : (f : Form) → telling_bytes f ≤ length xs → allowed f (xs ++ rest) ≡ allowed f xs
  allowed_more Foreign h = refl
  allowed_more (Fixed n) h = refl
  allowed_more (Counted least most) h = ap (λ (n : ℕ). leb least n && leb n most) (count_more h)

module _ (forms : Forms) (xs rest : List ℕ) where
  shape_more : (e : Entry) → Shape forms xs e → is_whole e ≡ true ⊎ e ≡ Unknown → Shape forms (xs ++ rest) e
  shape_more (Whole size) (f, e, a, s, h) w =
      let tell : telling_bytes f ≤ length xs = omega (arith, telling_inside f xs) in (
        f,
        ap forms (mark_more xs rest (omega (arith, telling_inside f xs))) ∙ e,
        allowed_more xs rest f tell ∙ a,
        s ∙ sym (size_more xs rest f tell),
        omega (arith, length-append xs rest),
      )
  shape_more Unknown (f, e, a, tell) w =
      (f, ap forms (mark_more xs rest (omega (arith, telling_inside f xs))) ∙ e, allowed_more xs rest f tell ∙ a, omega (arith, length-append xs rest))
  shape_more End h (inl w) = absurd (true≢false (sym w))
  shape_more Cut h (inl w) = absurd (true≢false (sym w))
  shape_more End h (inr w) = absurd (true≢false (ap unknown (sym w)))
  shape_more Cut h (inr w) = absurd (true≢false (ap unknown (sym w)))

  -- a whole record stays one, and what is unknown stays so
  pub entry_more : is_whole (entry_in forms xs) ≡ true ⊎ entry_in forms xs ≡ Unknown → entry_in forms (xs ++ rest) ≡ entry_in forms xs
  entry_more w = shape_entry forms (xs ++ rest) (entry_in forms xs) (shape_more (entry_in forms xs) (entry_shape forms xs) w)

  pub record_more : (n : ℕ) → mark_bytes ≤ n → n ≤ length xs → record_in n (xs ++ rest) ≡ record_in n xs
  record_more n two h =
      let m = mark_more xs rest (omega arith) in
      let c : take (n - mark_bytes) (drop mark_bytes (xs ++ rest)) ≡ take (n - mark_bytes) (drop mark_bytes xs) =
      ap (take (n - mark_bytes)) (drop-append-le mark_bytes xs rest (omega arith))
      ∙ take-append-le (n - mark_bytes) (drop mark_bytes xs) rest (omega (arith, length-drop mark_bytes xs)) in
      λ i. record { mark = m i; content = c i }

-- ---- the end and a cut record are shorter than the longest record

abbrev pub Within : ℕ → Forms → Type 0
Within longest forms = (m : ℕ) → form_bytes (forms m) ≤ longest

module _ (forms : Forms) (longest : ℕ) (xs : List ℕ) (within : form_bytes (forms (mark_in xs)) ≤ longest) where
  mark-short : mark_bytes ≤ longest
  mark-short = omega (arith, telling_inside (forms (mark_in xs)) xs)

  short_of : (e : Entry) → Shape forms xs e → (e ≡ End) ⊎ (e ≡ Cut) → length xs < longest
  short_of End h w = omega (arith, mark-short)
  short_of Cut (inl h) w = omega (arith, mark-short)
  short_of Cut (inr (f, e, two, inl l)) w = omega (arith, telling_inside f xs, ap form_bytes e)
  short_of Cut (inr (f, e, two, inr (a, l))) w = omega (arith, size-within f xs a, ap form_bytes e)
  short_of (Whole n) h (inl w) = absurd (true≢false (ap is_whole w))
  short_of (Whole n) h (inr w) = absurd (true≢false (ap is_whole w))
  short_of Unknown h (inl w) = absurd (true≢false (ap unknown w))
  short_of Unknown h (inr w) = absurd (true≢false (ap unknown w))

  pub entry_short : (e : Entry) → e ≡ entry_in forms xs → (e ≡ End) ⊎ (e ≡ Cut) → length xs < longest
  entry_short e is = short_of e (subst (Shape forms xs) (sym is) (entry_shape forms xs))

-- ---- the last line

pub end_number_small : (e : Entry) → end_number e < 100
end_number_small End = omega arith
end_number_small (Whole n) = omega arith
end_number_small Unknown = omega arith
end_number_small Cut = omega arith

pub length_last : (e : Entry) → length (last_line e) ≤ longest_last
unfolding last_line
length_last e = omega (arith, length-numbered 1 (end_number e) (end_number_small e))

pub last_is : (e : Entry) (n : ℕ) → n ≡ end_number e → text "END " ++ numbered n ≡ last_line e
unfolding last_line
last_is e n is = ap (λ (m : ℕ). text "END " ++ numbered m) is

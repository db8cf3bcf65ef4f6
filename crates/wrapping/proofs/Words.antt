-- Laws of the word of the program `wrap`. Assumes nothing.
use mathlib.Core.Path.{◌≡◌, refl, sym, ap, ◌∙◌}
use mathlib.Core.Bool.{true, false, and-false}
use mathlib.Core.List.{List, [], ◌∷◌}
use Rattle.std.proofs.Common.{Some, None}
use Prim.Native.Char.{code}
use Prim.Native.Nat.{ℕ, suc, ◌+◌, ◌*◌, ◌-◌, ◌≤◌, ◌<◌}
use native.Mathlib.Numerals.{add-one}
use native.Mathlib.Omega.{arith}
use borrow.Author.Tests.{ltb-true, ltb-false, lt-ltb, lt-leb, eqb-true}
use lib.Dec.{ltb, eqb}
use lib.ListN.{length, get_or, drop, drop_of_length-le}
use lib.Seq.{drop-cons}
use Rattle.octets.proofs.Laws.{either}
use Rattle.wrapper.specs.Wrap.{most_size, is_size}
use Rattle.wrapper.proofs.Laws.{size-within}
use Rattle.wrapping.specs.Words.{is_digit, all_digits, number_from, size_in, capped}

-- ---- a number as far as it matters

pub capped_large : (n : ℕ) → most_size < n → most_size + 1 ≡ capped n
capped_large n h = simp (lt-ltb most_size n h)

capped_most : (n : ℕ) → capped n ≤ most_size + 1
capped_most n = either (ltb most_size n) (λ t. rw t (omega arith)) (λ t. rw t (omega (arith, ltb-false most_size n t)))

capped_same : (n : ℕ) → n ≤ most_size + 1 → capped n ≡ n
capped_same n h =
    either (ltb most_size n) (λ t. let above : most_size < n = ltb-true most_size n t in rw t (omega arith)) (λ t. rw t refl)

capped_more : (a d : ℕ) → capped (capped a * 10 + d) ≡ capped (a * 10 + d)
capped_more a d =
    either (ltb most_size a)
    (λ t.
    let above : most_size < a = ltb-true most_size a t in
    rw t (sym (capped_large ((most_size + 1) * 10 + d) (omega arith)) ∙ capped_large (a * 10 + d) (omega arith)))
    (λ t. rw t refl)

-- what more digits make of it is told by that
capped_from : (cs : List ℕ) (a b : ℕ) → capped a ≡ capped b → capped (number_from a cs) ≡ capped (number_from b cs)
capped_from [] a b e = e
capped_from (c ∷ cs) a b e =
    let d : ℕ = c - code "0" in
    capped_from cs (a * 10 + d) (b * 10 + d) (sym (capped_more a d) ∙ ap (λ (n : ℕ). capped (n * 10 + d)) e ∙ capped_more b d)

size-capped : (n : ℕ) → is_size (capped n) ≡ is_size n
unfolding is_size
size-capped n =
    either (ltb most_size n)
    (λ t.
    let above : most_size < n = ltb-true most_size n t in
    simp (t, lt-leb n most_size above, and-false))
    (λ t. rw t refl)

-- ---- the loop: the digits that are left, behind the number so far, say the whole

pub record Reads (word : List ℕ) (n i : ℕ) : Type 0 where
  pub inside : i ≤ length word
  pub most : n ≤ most_size + 1
  pub digits : all_digits word ≡ all_digits (drop i word)
  pub number : capped (number_from 0 word) ≡ capped (number_from n (drop i word))

pub reads_start : (word : List ℕ) → Reads word 0 0
reads_start word = record { inside = omega arith; most = omega arith; digits = refl; number = refl }

module _ (word : List ℕ) (n i : ℕ) (r : Reads word n i) where
  -- a byte that is no digit
  pub reads_none : i < length word → is_digit (get_or word i 0) ≡ false → None ≡ size_in word
  unfolding size_in
  reads_none more other =
      let none : all_digits word ≡ false = r.digits ∙ ap all_digits (drop-cons word i 0 more) ∙ simp other in
      simp (none, and-false)

  -- one more digit
  pub reads_more : i < length word → is_digit (get_or word i 0) ≡ true → (n' : ℕ) → n' ≡ capped (n * 10 + (get_or word i 0 - code "0")) → Reads word n' (i + 1)
  reads_more more digit n' is =
      let next : ℕ = n * 10 + (get_or word i 0 - code "0") in
      record {
        inside = omega arith;
        most = omega (arith, is, capped_most next);
        digits = rw (add-one i) (r.digits ∙ ap all_digits (drop-cons word i 0 more) ∙ simp digit);
        number =
            rw (add-one i)
            (r.number
            ∙ ap (λ (cs : List ℕ). capped (number_from n cs)) (drop-cons word i 0 more)
            ∙ capped_from (drop (suc i) word) next n' (sym (capped_same (capped next) (capped_most next)) ∙ ap capped (sym is)));
      }

  module _ (end : length word ≤ i) where
    said : capped (number_from 0 word) ≡ n
    said = r.number ∙ ap (λ (cs : List ℕ). capped (number_from n cs)) (drop_of_length-le word end) ∙ capped_same n r.most

    all : all_digits word ≡ true
    all = r.digits ∙ ap all_digits (drop_of_length-le word end)

    size_same : is_size (number_from 0 word) ≡ is_size n
    size_same = sym (size-capped (number_from 0 word)) ∙ ap is_size said

    pub reads_size : is_size n ≡ true → Some n ≡ size_in word
    unfolding size_in
    reads_size t =
        let within = size-within (number_from 0 word) (size_same ∙ t) in
        let is : number_from 0 word ≡ n = sym (capped_same (number_from 0 word) (omega (arith, within.1))) ∙ said in
        either (eqb (length word) 0)
        (λ z. absurd (omega (arith, within.0, ap (number_from 0) (drop_of_length-le word {i = 0} (omega (arith, eqb-true (length word) 0 z))))))
        (λ z. simp (z, all, size_same, t) (ap Some (sym is)))

    pub reads_other : is_size n ≡ false → None ≡ size_in word
    unfolding size_in
    reads_other t = simp (size_same, t, and-false)

-- The writer's numbers, by the code's tests. Assumes nothing.
use mathlib.Core.Path.{◌≡◌, sym, ap}
use mathlib.Core.Bool.{true, cond, and-eq-true_iff}
use mathlib.Core.List.{List}
use Prim.Native.Nat.{ℕ, ◌≤◌, ◌<◌}
use native.Mathlib.Omega.{arith}
use borrow.Author.Tests.{ltb-true, leb-true}
use lib.Dec.{ltb, leb, eqb, lit≤}
use lib.ListN.{length, take}
use lib.Seq.{length-take-le}
use Rattle.octets.proofs.Laws.{either}
use Rattle.wrapper.specs.declared.Numbers.{Numbers}
use Rattle.wrapper.specs.declared.Refusal.{Refusal}
use Rattle.wrapper.specs.declared.Refusal.TheVariants.{ShortOutput, BadSize, NotCarried}
use Rattle.std.proofs.Common.{Result, Ok, Err}
use Rattle.wrapper.specs.Wrap.{least_size, most_size, is_size, writer, left_by, begin_by, refusal_number, wrapped_values, waiting_in, joined}

-- ---- the numbers of answers

pub refusal_within : (a : Refusal) → (1 ≤ refusal_number a) × (refusal_number a ≤ 19)
refusal_within ShortOutput = (lit≤ tt, lit≤ tt)
refusal_within BadSize = (lit≤ tt, lit≤ tt)
refusal_within NotCarried = (lit≤ tt, lit≤ tt)

pub number_most : (a : Result ℕ Refusal) → (wrapped_values a).number ≤ 19
number_most (Ok n) = lit≤ tt
number_most (Err a) = (refusal_within a).1

-- ---- a payload's size

pub size-within : (n : ℕ) → is_size n ≡ true → (least_size ≤ n) × (n ≤ most_size)
unfolding is_size
size-within n t =
    let p = (and-eq-true_iff (leb least_size n) (leb n most_size)).0 t in
    (leb-true least_size n p.0, leb-true n most_size p.1)

-- ---- what is left, and where a packet begins in it

module _ (m : Numbers) where
  pub left_less : 0 < m.size → left_by m < m.size
  unfolding left_by
  left_less h = either (ltb m.left m.size) (λ t. rw t (ltb-true m.left m.size t)) (λ t. rw t h)

  pub begin_most : begin_by m ≤ left_by m
  unfolding begin_by
  begin_most = either (ltb m.begin (left_by m)) (λ t. rw t (omega (arith, ltb-true m.begin (left_by m) t))) (λ t. rw t (omega arith))

  -- the memory has room for it
  module _ (bytes : List ℕ) (inside : left_by m ≤ length bytes) where
    pub length_left : length (take (left_by m) bytes) ≡ left_by m
    length_left = length-take-le (left_by m) bytes inside

    pub stamp-joined : (packet : List ℕ) (timestamp : ℕ) → cond (eqb (left_by m) 0) timestamp m.timestamp ≡ (joined (waiting_in (writer m bytes)) packet timestamp).timestamp
    stamp-joined packet timestamp = ap (λ (n : ℕ). cond (eqb n 0) timestamp m.timestamp) (sym length_left)

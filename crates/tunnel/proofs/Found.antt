-- What the reader finds, case by case; nothing is lost in silence, only whole packets are found, and how much they take when they are stored. Assumes nothing.
use mathlib.Core.Path.{◌≡◌, refl, sym, ap, subst, ◌∙◌}
use mathlib.Core.Bool.{Bool, true, false, true≢false}
use mathlib.Core.List.{List, [], ◌∷◌, ◌++◌, flat_map, append_assoc, append-nil}
use Prim.Native.Nat.{ℕ, zero, suc, ◌+◌, ◌*◌, ◌≤◌, ◌<◌}
use native.Mathlib.Omega.{arith}
use borrow.Author.Tests.{eqb-true, ne_eqb}
use lib.Dec.{eqb}
use lib.ListN.{length, take, drop, length-append, length-drop, take-append-drop}
use lib.Seq.{take-length, length-take-le}
use Rattle.octets.specs.Each.{Each}
use Rattle.octets.proofs.Laws.{either, each_append}
use Rattle.packets.specs.declared.Start.{Start}
use Rattle.packets.specs.declared.Start.TheVariants.{Running, Whole, Fault}
use Rattle.packets.specs.Packets.{Carried, start_of}
use Rattle.packets.specs.Stored.{stored_packet, stored, line}
use Rattle.packets.proofs.Laws.{means, whole_carried}
use Rattle.tunnel.specs.Unwrap.{Found, one_in, part_in, thrown, both, found_from, found_up_to, found_in, runs_on, found_before, found_at}

-- ---- from a marked start on, by what stands there

module _ (xs : List ℕ) (n : ℕ) (is : start_of xs ≡ Whole n) where
  left_shorter : (k : ℕ) → length xs < suc k → length (drop n xs) < k
  left_shorter k h = let m = means xs is in omega (arith, length-drop n xs, m.2, m.4)

from_same : (xs : List ℕ) (f g : List ℕ → Found) (s : Start) → start_of xs ≡ s → ((n : ℕ) → start_of xs ≡ Whole n → f (drop n xs) ≡ g (drop n xs)) → found_from s f xs ≡ found_from s g xs
from_same xs f g (Whole n) is same = ap (both (one_in (take n xs))) (same n is)
from_same xs f g Running is same = refl
from_same xs f g Fault is same = refl

found_any : (n m : ℕ) (xs : List ℕ) → length xs < n → length xs < m → found_up_to n xs ≡ found_up_to m xs
unfolding found_up_to
found_any zero m xs h g = absurd (omega arith)
found_any (suc n) zero xs h g = absurd (omega arith)
found_any (suc n) (suc m) xs h g =
    from_same xs (found_up_to n) (found_up_to m) (start_of xs) refl (λ k is. found_any n m (drop k xs) (left_shorter xs k is n h) (left_shorter xs k is m g))

module _ (xs : List ℕ) where
  pub found_whole : (n : ℕ) → start_of xs ≡ Whole n → found_in xs ≡ both (one_in (take n xs)) (found_in (drop n xs))
  unfolding found_in found_up_to
  found_whole n is =
      rw is (ap (both (one_in (take n xs))) (found_any (length xs) (suc (length (drop n xs))) (drop n xs) (left_shorter xs n is (length xs) (omega arith)) (omega arith)))

  pub found_running : start_of xs ≡ Running → found_in xs ≡ part_in xs
  unfolding found_in found_up_to
  found_running is = rw is refl

  pub found_fault : start_of xs ≡ Fault → found_in xs ≡ thrown xs
  unfolding found_in found_up_to
  found_fault is = rw is refl

-- a law of what is found, by these cases
module _ (P : List ℕ → Found → Type 0) (running : (xs : List ℕ) → start_of xs ≡ Running → P xs (part_in xs)) (fault : (xs : List ℕ) → start_of xs ≡ Fault → P xs (thrown xs)) (whole : (xs : List ℕ) (n : ℕ) → start_of xs ≡ Whole n → (f : Found) → P (drop n xs) f → P xs (both (one_in (take n xs)) f)) where
  from_cases : (xs : List ℕ) (more : List ℕ → Found) (s : Start) → start_of xs ≡ s → ((n : ℕ) → start_of xs ≡ Whole n → P (drop n xs) (more (drop n xs))) → P xs (found_from s more xs)
  from_cases xs more (Whole n) is rest = whole xs n is (more (drop n xs)) (rest n is)
  from_cases xs more Running is rest = running xs is
  from_cases xs more Fault is rest = fault xs is

  up_to_cases : (n : ℕ) (xs : List ℕ) → length xs < n → P xs (found_up_to n xs)
  unfolding found_up_to
  up_to_cases zero xs h = absurd (omega arith)
  up_to_cases (suc n) xs h = from_cases xs (found_up_to n) (start_of xs) refl (λ k is. up_to_cases n (drop k xs) (left_shorter xs k is n h))

  pub found_cases : (xs : List ℕ) → P xs (found_in xs)
  unfolding found_in
  found_cases xs = up_to_cases (suc (length xs)) xs (omega arith)

-- a law of what is found before the marked start, behind a part
module _ (P : Found → Type 0) where
  pub before_cases : (marked : Bool) (part xs : List ℕ) → P (thrown (part ++ xs)) → (marked ≡ false → start_of (part ++ xs) ≡ Running → P (part_in (part ++ xs))) → (start_of (part ++ xs) ≡ Whole (length (part ++ xs)) → P (one_in (part ++ xs))) → P (found_before marked part xs)
  unfolding found_before
  before_cases marked [] xs throw running whole = throw
  before_cases marked (p ∷ ps) xs throw running whole =
      rw (ne_eqb (length (p ∷ ps)) 0 (λ e. omega (arith, e))) (go (start_of all) refl marked refl)
    where
      all : List ℕ
      all = (p ∷ ps) ++ xs

      go : (s : Start) → start_of all ≡ s → (m : Bool) → marked ≡ m → P (runs_on (start_of all) marked all)
      go Fault is m e = rw is throw
      go Running is true e = rw (is, e) throw
      go Running is false e = rw (is, e) (running e is)
      go (Whole n) is m e =
          rw is
          (either (eqb n (length all)) (λ t. rw t (whole (is ∙ ap Whole (eqb-true n (length all) t)))) (λ t. rw t throw))

-- ---- how many bytes

abbrev pub weight : Found → ℕ
weight f = length (line f.packets) + (length f.part + f.lost)

pub line-append : (ps qs : List (List ℕ)) → line (ps ++ qs) ≡ line ps ++ line qs
unfolding line flat_map
line-append [] qs = refl
line-append (p ∷ ps) qs = ap (λ (t : List ℕ). p ++ t) (line-append ps qs) ∙ sym (append_assoc p (line ps) (line qs))

weight_both : (f g : Found) → weight (both f g) ≡ weight f + weight g
weight_both f g =
    omega (arith, ap length (line-append f.packets g.packets), length-append (line f.packets) (line g.packets), length-append f.part g.part)

weight_one : (xs : List ℕ) → weight (one_in xs) ≡ length xs
unfolding line flat_map
weight_one xs = omega (arith, length-append xs [])

-- what goes in is stored, held or thrown away
pub found_weight : (xs : List ℕ) → weight (found_in xs) ≡ length xs
unfolding line flat_map
found_weight =
    found_cases (λ xs f. weight f ≡ length xs) (λ xs is. omega arith) (λ xs is. omega arith)
    (λ xs n is f w.
    let inside : n ≤ length xs = (means xs is).4 in
    weight_both (one_in (take n xs)) f ∙ omega (arith, weight_one (take n xs), w, length-take-le n xs inside, length-drop n xs, inside))

pub before_weight : (marked : Bool) (part xs : List ℕ) → weight (found_before marked part xs) ≡ length part + length xs
unfolding line flat_map
before_weight marked part xs =
    before_cases (λ f. weight f ≡ length part + length xs) marked part xs
    (omega (arith, length-append part xs))
    (λ m is. omega (arith, length-append part xs))
    (λ is. weight_one (part ++ xs) ∙ length-append part xs)

pub at_weight : (marked : Bool) (start : ℕ) (part payload : List ℕ) → weight (found_at marked start part payload) ≡ length part + length payload
unfolding found_at
at_weight marked start part payload =
    weight_both (found_before marked part (take start payload)) (found_in (drop start payload))
    ∙ omega (arith, before_weight marked part (take start payload), found_weight (drop start payload), ap length (take-append-drop start payload), length-append (take start payload) (drop start payload))

-- ---- only packets that may be carried are found

pub found_carried : (xs : List ℕ) → Each Carried (found_in xs).packets
found_carried =
    found_cases (λ xs f. Each Carried f.packets) (λ xs is. tt) (λ xs is. tt) (λ xs n is f c. (whole_carried xs n is, c))

-- as a whole one that stands at the start of itself
all_carried : (xs : List ℕ) → start_of xs ≡ Whole (length xs) → Carried xs
all_carried xs is = subst Carried (take-length xs) (whole_carried xs (length xs) is)

pub before_carried : (marked : Bool) (part xs : List ℕ) → Each Carried (found_before marked part xs).packets
before_carried marked part xs =
    before_cases (λ f. Each Carried f.packets) marked part xs tt (λ m is. tt) (λ is. (all_carried (part ++ xs) is, tt))

pub at_carried : (marked : Bool) (start : ℕ) (part payload : List ℕ) → Each Carried (found_at marked start part payload).packets
unfolding found_at
at_carried marked start part payload =
    each_append Carried (found_before marked part (take start payload)).packets (found_in (drop start payload)).packets (before_carried marked part (take start payload)) (found_carried (drop start payload))

-- ---- the part that is held is a packet that is running

pub start-nothing : start_of [] ≡ Running
unfolding start_of
start-nothing = refl

pub found_part : (xs : List ℕ) → start_of (found_in xs).part ≡ Running
found_part = found_cases (λ xs f. start_of f.part ≡ Running) (λ xs is. is) (λ xs is. start-nothing) (λ xs n is f r. r)

pub before_part : (marked : Bool) (part xs : List ℕ) → start_of (found_before marked part xs).part ≡ Running
before_part marked part xs = before_cases (λ f. start_of f.part ≡ Running) marked part xs start-nothing (λ m is. is) (λ is. start-nothing)

-- behind a marked start no part is held but that of the bytes from there on; without one there are none
pub before_marked : (part xs : List ℕ) → (found_before true part xs).part ≡ []
before_marked part xs = before_cases (λ f. f.part ≡ []) true part xs refl (λ m is. absurd (true≢false m)) (λ is. refl)

pub found_nothing : (xs : List ℕ) → length xs ≡ 0 → (found_in xs).part ≡ []
found_nothing [] e = ap (λ (f : Found). f.part) (found_running [] start-nothing)
found_nothing (x ∷ xs) e = absurd (omega (arith, e))

-- the place from which on is the marked start, or else the end
abbrev pub Placed : Bool → ℕ → List ℕ → Type 0
Placed marked start payload = marked ≡ false → start ≡ length payload

pub at_part : (marked : Bool) (start : ℕ) (part payload : List ℕ) → Placed marked start payload → start_of (found_at marked start part payload).part ≡ Running
unfolding found_at
at_part true start part payload placed =
    ap (λ (t : List ℕ). start_of (t ++ (found_in (drop start payload)).part)) (before_marked part (take start payload)) ∙ found_part (drop start payload)
at_part false start part payload placed =
    ap (λ (t : List ℕ). start_of ((found_before false part (take start payload)).part ++ t)) (found_nothing (drop start payload) (omega (arith, length-drop start payload, placed refl)))
    ∙ ap start_of (append-nil (found_before false part (take start payload)).part)
    ∙ before_part false part (take start payload)

-- ---- how much the packets take when they are stored

-- four bytes more than itself, each of 28 at the least
pub stored_most : (ps : List (List ℕ)) → Each Carried ps → 7 * length (stored ps) ≤ 8 * length (line ps)
unfolding stored line flat_map
stored_most [] c = omega arith
stored_most (p ∷ ps) c =
    omega (arith, stored_most ps c.1, length-append (stored_packet p) (stored ps), length-append p (line ps), c.0.least)

pub stored-append : (ps qs : List (List ℕ)) → stored (ps ++ qs) ≡ stored ps ++ stored qs
unfolding stored flat_map
stored-append [] qs = refl
stored-append (p ∷ ps) qs = ap (λ (t : List ℕ). stored_packet p ++ t) (stored-append ps qs) ∙ sym (append_assoc (stored_packet p) (stored ps) (stored qs))

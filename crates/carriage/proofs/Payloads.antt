-- What the reader finds in a payload of the line, behind the part that it holds. Assumes nothing.
use mathlib.Core.Path.{◌≡◌, refl, sym, ap, ap₂, subst, ◌∙◌}
use mathlib.Core.Bool.{Bool, true, false, cond}
use mathlib.Core.List.{List, [], ◌∷◌, ◌++◌, flat_map, append_assoc, append-nil}
use Prim.Native.Nat.{ℕ, zero, suc, ◌+◌, ◌-◌, ◌≤◌, ◌<◌}
use native.Mathlib.Nat.{zero-add}
use native.Mathlib.Omega.{arith}
use borrow.Author.Tests.{eqb-true, eqb-false, ltb-true, ltb-false, eq-eqb, ne_eqb, lt-ltb, le-ltb}
use lib.Dec.{eqb, ltb}
use lib.ListN.{length, take, drop, length-append, length-take, length-drop, take-append-drop}
use lib.Seq.{take-length, drop-length, take-append-le, drop-append-le, take_at, drop_at, take-add, length-take-le}
use Rattle.octets.specs.Each.{Each}
use Rattle.octets.proofs.Laws.{either}
use Rattle.packets.specs.Packets.{Carried, start_of}
use Rattle.packets.specs.Stored.{line}
use Rattle.packets.proofs.Laws.{carried_whole, carried-start}
use Rattle.tunnel.specs.Unwrap.{Found, one_in, part_in, thrown, both, found_in, runs_on, found_before, found_at, found_behind}
use Rattle.carriage.specs.Sent.{next_begin, begins, between}
use Rattle.carriage.proofs.Lines.{held_at, held_none, between_none, held_in, held_behind, between-behind, between_in, up_to, found_none, take_behind, drop-behind, found_start, begin_here, begin-behind, begin_in}

-- ---- behind the part of a packet: bytes that follow it, and those up to its end

behind_part : (marked : Bool) (part xs ys : List ℕ) → 0 < length part → part ++ xs ≡ ys → found_before marked part xs ≡ runs_on (start_of ys) marked ys
unfolding found_before
behind_part marked part xs ys some e = rw (ne_eqb (length part) 0 (λ z. omega arith)) (ap (λ (t : List ℕ). runs_on (start_of t) marked t) e)

module _ (p : List ℕ) (c : Carried p) (a : ℕ) (some : 0 < a) (inside : a < length p) where
  part_some : 0 < length (take a p)
  part_some = omega (arith, length-take-le a p (omega arith))

  runs_on_lem : (n : ℕ) → a + n < length p → found_before false (take a p) (take n (drop a p)) ≡ part_in (take (a + n) p)
  runs_on_lem n h =
      behind_part false (take a p) (take n (drop a p)) (take (a + n) p) part_some (sym (take-add a n p)) ∙ rw (carried-start p c (a + n) h)

  runs_out : (marked : Bool) → found_before marked (take a p) (drop a p) ≡ one_in p
  runs_out marked =
      behind_part marked (take a p) (drop a p) p part_some (take-append-drop a p) ∙ rw (carried_whole p c, eq-eqb (length p) (length p) refl)

-- nothing of it where the part is not held
module _ (marked : Bool) (part xs : List ℕ) (f : Found) (is : found_before marked part xs ≡ f) where
  held_packets : (t : Bool) → (found_before marked (cond t part []) xs).packets ≡ cond t f.packets []
  unfolding found_before
  held_packets true = ap (λ (g : Found). g.packets) is
  held_packets false = refl

  held_part : (t : Bool) → (found_before marked (cond t part []) xs).part ≡ cond t f.part []
  unfolding found_before
  held_part true = ap (λ (g : Found). g.part) is
  held_part false = refl

none_either : {A : Type 0} (t : Bool) → ◌≡◌ {A = List A} (cond t [] []) []
none_either true = refl
none_either false = refl

-- ---- a payload of n bytes from the place a on, behind what is held there

-- the packets that come in it are those between s and b that are not between s and a, and then the part is what is held at b
abbrev pub Gained : ℕ → ℕ → ℕ → List (List ℕ) → Found → Type 0
Gained s a b packets f = (between s a packets ++ f.packets ≡ between s b packets) × (f.part ≡ held_at s b packets)

-- what is found in it, however packet_offset is set where no packet begins
abbrev pub found_next : List (List ℕ) → ℕ → ℕ → ℕ → ℕ → Found
found_next packets s a n idle =
    let first = begins a n packets in
    found_behind first (cond first (next_begin a packets - a) idle) (held_at s a packets) (take n (drop a (line packets)))

-- from a place in the first packet on
module _ (p : List ℕ) (more : List (List ℕ)) (c : Each Carried (p ∷ more)) (s a n : ℕ) (from : s ≤ a) (some : 0 < a) (inside : a < length p) (within : a + n ≤ length (line (p ∷ more))) where
  abbrev payload : List ℕ
  payload = take n (drop a (line (p ∷ more)))

  abbrev begun : Bool
  begun = eqb s 0

  abbrev held : List ℕ
  held = cond begun (take a p) []

  payload_length : length payload ≡ n
  payload_length = length-take-le n (drop a (line (p ∷ more))) (omega (arith, length-drop a (line (p ∷ more))))

  payload_from : payload ≡ take n (drop a p ++ line more)
  unfolding line flat_map
  payload_from = ap (take n) (drop-append-le a p (line more) (omega arith))

  -- it does not reach the end of that packet
  module _ (short : a + n < length p) where
    abbrev next : List ℕ
    next = take n (drop a p)

    short_payload : payload ≡ next
    short_payload = payload_from ∙ take-append-le n (drop a p) (line more) (omega (arith, length-drop a p))

    found_short : found_at false (length payload) (held_at s a (p ∷ more)) payload ≡ both (found_before false held next) (part_in [])
    unfolding found_at
    found_short =
        ap₂ (λ (h x : List ℕ). both (found_before false h (take (length x) x)) (found_in (drop (length x) x))) (held_in p more s a inside) short_payload
        ∙ ap₂ (λ (x y : List ℕ). both (found_before false held x) (found_in y)) (take-length next) (drop-length next)
        ∙ ap (both (found_before false held next)) found_none

    gained_short : Gained s a (a + n) (p ∷ more) (found_at false (length payload) (held_at s a (p ∷ more)) payload)
    gained_short =
        let goes : found_before false (take a p) next ≡ part_in (take (a + n) p) = runs_on_lem p c.0 a some inside n short in
        rw found_short (
          ap₂ (λ (x y : List (List ℕ)). x ++ (y ++ [])) (between_in p more s a c.1 from inside) (held_packets false (take a p) next _ goes begun ∙ none_either begun)
              ∙ sym (between_in p more s (a + n) c.1 (omega arith) short),
          append-nil _ ∙ held_part false (take a p) next _ goes begun ∙ sym (held_in p more s (a + n) short),
        )

  -- it does
  module _ (long : length p ≤ a + n) where
    abbrev left : ℕ
    left = a + n - length p

    long_payload : payload ≡ drop a p ++ take left (line more)
    long_payload =
        let rest : n - length (drop a p) ≡ left = omega (arith, length-drop a p) in
        payload_from
        ∙ take_behind (drop a p) (line more) n (omega (arith, length-drop a p))
        ∙ ap (λ (k : ℕ). drop a p ++ take k (line more)) rest

    found_long : (marked : Bool) → found_at marked (length p - a) (held_at s a (p ∷ more)) payload ≡ both (found_before marked held (drop a p)) (up_to left more)
    unfolding found_at line flat_map
    found_long marked =
        let rest : List ℕ = take left (line more) in
        ap₂ (λ (h x : List ℕ). both (found_before marked h (take (length p - a) x)) (found_in (drop (length p - a) x))) (held_in p more s a inside) long_payload
        ∙ ap₂ (λ (x y : List ℕ). both (found_before marked held x) (found_in y))
        (take_at (drop a p) rest (length p - a) (length-drop a p))
        (drop_at (drop a p) rest (length p - a) (length-drop a p))
        ∙ ap (both (found_before marked held (drop a p))) (found_start more c.1 left (omega (arith, length-append p (line more))))

    gained_long : (marked : Bool) → Gained s a (a + n) (p ∷ more) (found_at marked (length p - a) (held_at s a (p ∷ more)) payload)
    gained_long marked =
        let goes : found_before marked (take a p) (drop a p) ≡ one_in p = runs_out p c.0 a some inside marked in
        let none : 0 ≡ s - length p = omega arith in
        rw (found_long marked) (
          ap₂ (λ (x y : List (List ℕ)). x ++ (y ++ between 0 left more)) (between_in p more s a c.1 from inside) (held_packets marked (take a p) (drop a p) _ goes begun)
              ∙ ap (λ (k : ℕ). cond begun (p ∷ []) [] ++ between k left more) none
              ∙ sym (between-behind p more s (a + n) long),
          ap (λ (t : List ℕ). t ++ held_at 0 left more) (held_part marked (take a p) (drop a p) _ goes begun ∙ none_either begun)
              ∙ ap (λ (k : ℕ). held_at k left more) none
              ∙ sym (held_behind p more s (a + n) long),
        )

  gained_in : (idle : ℕ) → Gained s a (a + n) (p ∷ more) (found_next (p ∷ more) s a n idle)
  gained_in idle =
      let first : Bool = begins a n (p ∷ more) in
      let end : next_begin a (p ∷ more) ≡ length p = begin_in p more a some (omega arith) in
      either (ltb (a + n) (length p))
      (λ t.
      let short : a + n < length p = ltb-true (a + n) (length p) t in
      let unmarked : first ≡ false = ap (λ (k : ℕ). ltb k (a + n)) end ∙ le-ltb (length p) (a + n) (omega arith) in
      subst (λ (m : Bool). Gained s a (a + n) (p ∷ more) (found_behind m (cond m (next_begin a (p ∷ more) - a) idle) (held_at s a (p ∷ more)) payload)) (sym unmarked) (gained_short short))
      (λ t.
      let long : length p ≤ a + n = ltb-false (a + n) (length p) t in
      let start : cond first (cond first (next_begin a (p ∷ more) - a) idle) (length payload) ≡ length p - a =
      either first (λ f. rw f (ap (λ (k : ℕ). k - a) end))
      (λ f. rw f (omega (arith, payload_length, ltb-false (next_begin a (p ∷ more)) (a + n) f))) in
      subst (λ (k : ℕ). Gained s a (a + n) (p ∷ more) (found_at first k (held_at s a (p ∷ more)) payload)) (sym start) (gained_long long first))

-- from the start of the line on
module _ (packets : List (List ℕ)) (c : Each Carried packets) (n idle : ℕ) where
  start_here : let first = begins 0 n packets in cond first (cond first (next_begin 0 packets - 0) idle) (length (take n (line packets))) ≡ 0
  start_here =
      either (begins 0 n packets) (λ f. rw f (ap (λ (k : ℕ). k - 0) (begin_here packets)))
      (λ f. rw f (omega (arith, length-take n (line packets), ltb-false (next_begin 0 packets) (0 + n) f, begin_here packets)))

  found_here : n ≤ length (line packets) → found_next packets 0 0 n idle ≡ up_to n packets
  unfolding found_at found_before
  found_here h =
      ap₂ (λ (k : ℕ) (part : List ℕ). found_at (begins 0 n packets) k part (take n (line packets))) start_here (held_none packets 0)
      ∙ ap (both (thrown [])) (found_start packets c n h)

  gained_here : (s a : ℕ) → s ≤ a → a ≡ 0 → n ≤ length (line packets) → Gained s a (a + n) packets (found_next packets s a n idle)
  gained_here zero zero from z h =
      subst (λ (b : ℕ). Gained 0 0 b packets (found_next packets 0 0 n idle)) (sym (zero-add n))
      (ap₂ (λ (x : List (List ℕ)) (f : Found). x ++ f.packets) (between_none packets c 0) (found_here h), ap (λ (f : Found). f.part) (found_here h))
  gained_here (suc s) zero from z h = absurd (omega arith)
  gained_here s (suc a) from z h = absurd (omega arith)

-- from a place behind the first packet on
ltb_add : (k x y : ℕ) → ltb (k + x) (k + y) ≡ ltb x y
ltb_add k x y =
    either (ltb x y) (λ t. lt-ltb (k + x) (k + y) (omega (arith, ltb-true x y t)) ∙ sym t) (λ t. le-ltb (k + x) (k + y) (omega (arith, ltb-false x y t)) ∙ sym t)

module _ (p : List ℕ) (more : List (List ℕ)) (c : Carried p) (s a n idle : ℕ) (behind : length p ≤ a) where
  abbrev s' : ℕ
  s' = s - length p

  abbrev a' : ℕ
  a' = a - length p

  begins-behind : begins a n (p ∷ more) ≡ begins a' n more
  begins-behind =
      let end : a + n ≡ length p + (a' + n) = omega arith in
      ap₂ ltb (begin-behind p more a (omega (arith, c.least))) end ∙ ltb_add (length p) (next_begin a' more) (a' + n)

  offset-behind : next_begin a (p ∷ more) - a ≡ next_begin a' more - a'
  offset-behind = omega (arith, begin-behind p more a (omega (arith, c.least)))

  found_behind_lem : found_next (p ∷ more) s a n idle ≡ found_next more s' a' n idle
  unfolding line flat_map
  found_behind_lem i =
      let first = begins-behind i in
      found_behind first (cond first (offset-behind i) idle) (held_behind p more s a behind i) (take n (drop-behind p (line more) a behind i))

  gained_behind : Gained s' a' (a' + n) more (found_next more s' a' n idle) → Gained s a (a + n) (p ∷ more) (found_next (p ∷ more) s a n idle)
  gained_behind g =
      let before : List (List ℕ) = cond (eqb s 0) (p ∷ []) [] in
      let end : a' + n ≡ a + n - length p = omega arith in
      let long : length p ≤ a + n = omega arith in (
        ap₂ (λ (x : List (List ℕ)) (f : Found). x ++ f.packets) (between-behind p more s a behind) found_behind_lem
            ∙ append_assoc before (between s' a' more) (found_next more s' a' n idle).packets
            ∙ ap (λ (x : List (List ℕ)). before ++ x) (g.0 ∙ ap (λ (k : ℕ). between s' k more) end)
            ∙ sym (between-behind p more s (a + n) long),
        ap (λ (f : Found). f.part) found_behind_lem ∙ g.1 ∙ ap (λ (k : ℕ). held_at s' k more) end ∙ sym (held_behind p more s (a + n) long),
      )

pub gained_next : (packets : List (List ℕ)) → Each Carried packets → (s a n idle : ℕ) → s ≤ a → a + n ≤ length (line packets) → Gained s a (a + n) packets (found_next packets s a n idle)
unfolding line flat_map
gained_next [] c s a n idle from within = gained_here [] c n idle s a from (omega arith) (omega arith)
gained_next (p ∷ more) c s a n idle from within =
    either (eqb a 0) (λ z. gained_here (p ∷ more) c n idle s a from (eqb-true a 0 z) (omega arith))
    (λ z.
    let some : 0 < a = omega (arith, eqb-false a 0 z) in
    either (ltb a (length p)) (λ t. gained_in p more c s a n from some (ltb-true a (length p) t) within idle)
    (λ t.
    let behind : length p ≤ a = ltb-false a (length p) t in
    gained_behind p more c.0 s a n idle behind (gained_next more c.1 (s - length p) (a - length p) n idle (omega arith) (omega (arith, length-append p (line more))))))

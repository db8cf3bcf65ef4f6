-- The line of packets: what stands between two places of it, what is held at one, where packets begin, and what the reader finds at its start. Assumes nothing.
use mathlib.Core.Path.{◌≡◌, refl, sym, ap, ap₂, ◌∙◌}
use mathlib.Core.Bool.{cond, and-true, and-false}
use mathlib.Core.List.{List, [], ◌∷◌, ◌++◌, flat_map}
use Prim.Native.Nat.{ℕ, ◌+◌, ◌-◌, ◌≤◌, ◌<◌}
use native.Mathlib.Nat.{add-zero}
use native.Mathlib.Omega.{arith}
use borrow.Author.Tests.{eqb-true, ltb-true, ltb-false, ne_eqb, lt-ltb, le-ltb, le-leb, lt-leb}
use lib.Dec.{eqb, ltb}
use lib.ListN.{length, get_or, take, drop, length-append, get_or-append}
use lib.Seq.{take-nil, take-append-le, take-append-add, drop-append-add, take_at, drop_at}
use Rattle.octets.specs.Each.{Each}
use Rattle.octets.specs.Word.{word}
use Rattle.octets.proofs.Laws.{either}
use Rattle.packets.specs.declared.Start.TheVariants.{Whole}
use Rattle.packets.specs.Packets.{version_of, total_length, Carried, start_of}
use Rattle.packets.specs.Stored.{line}
use Rattle.packets.proofs.Laws.{start_whole, carried-start}
use Rattle.tunnel.specs.Unwrap.{Found, one_in, part_in, both, found_in}
use Rattle.tunnel.proofs.Found.{found_whole, found_running}
use Rattle.carriage.specs.Sent.{next_begin, between}

-- the bytes of the packet that runs at the place a of the line, as far as they stand before it, if the packet begins at or behind the place s; else none
abbrev pub held_at : ℕ → ℕ → List (List ℕ) → List ℕ
held_at s a [] = []
held_at s a (p ∷ more) = cond (ltb a (length p)) (cond (eqb s 0) (take a p) []) (held_at (s - length p) (a - length p) more)

-- ---- at one and the same place nothing is between, and nothing held

pub held_none : (packets : List (List ℕ)) (s : ℕ) → held_at s s packets ≡ []
held_none [] s = refl
held_none (p ∷ more) s =
    either (ltb s (length p))
    (λ t. either (eqb s 0) (λ z. simp (t, z) (ap (λ (n : ℕ). take n p) (eqb-true s 0 z))) (λ z. simp (t, z)))
    (λ t. simp t (held_none more (s - length p)))

pub between_none : (packets : List (List ℕ)) → Each Carried packets → (s : ℕ) → between s s packets ≡ []
between_none [] c s = refl
between_none (p ∷ more) c s =
    either (eqb s 0)
    (λ z. simp (lt-leb (length p) s (omega (arith, c.0.least, eqb-true s 0 z)), and-false) (between_none more c.1 (s - length p)))
    (λ z. simp z (between_none more c.1 (s - length p)))

-- ---- at a place in the first packet, or behind it

module _ (p : List ℕ) (more : List (List ℕ)) (s b : ℕ) where
  pub held_in : b < length p → held_at s b (p ∷ more) ≡ cond (eqb s 0) (take b p) []
  held_in h = simp (lt-ltb b (length p) h)

  pub held_behind : length p ≤ b → held_at s b (p ∷ more) ≡ held_at (s - length p) (b - length p) more
  held_behind h = simp (le-ltb b (length p) h)

  pub between-behind : length p ≤ b → between s b (p ∷ more) ≡ cond (eqb s 0) (p ∷ []) [] ++ between (s - length p) (b - length p) more
  between-behind h = simp (le-leb (length p) b h, and-true)

  pub between_in : Each Carried more → s ≤ b → b < length p → between s b (p ∷ more) ≡ []
  between_in c le h =
      let zeros : s - length p ≡ b - length p = omega arith in
      simp (lt-leb (length p) b h, and-false, zeros) (between_none more c (b - length p))

-- ---- the start of the line

-- what is found in its first m bytes
abbrev pub up_to : ℕ → List (List ℕ) → Found
up_to m packets = record { packets = between 0 m packets; part = held_at 0 m packets; lost = 0 }

-- a packet that may be carried, others behind it
start-line : (p rest : List ℕ) → Carried p → start_of (p ++ rest) ≡ Whole (length p)
unfolding start_of
start-line p rest c =
    let total : total_length (p ++ rest) ≡ length p =
    ap₂ word (get_or-append p rest 0 2 (omega (arith, c.least))) (get_or-append p rest 0 3 (omega (arith, c.least))) ∙ c.own in
    start_whole (length (p ++ rest)) (get_or (p ++ rest) 0 0) (total_length (p ++ rest))
    (λ e. omega (arith, length-append p rest, c.least))
    (ap version_of (get_or-append p rest 0 0 (omega (arith, c.least))) ∙ c.version)
    (omega (arith, length-append p rest, c.least))
    (omega (arith, c.least))
    (omega (arith, c.most))
    (omega (arith, length-append p rest))
    ∙ ap Whole total

pub found_none : found_in [] ≡ part_in []
unfolding start_of
found_none = found_running [] refl

-- up to a place behind p, and from there on
module _ (p rest : List ℕ) (m : ℕ) (behind : length p ≤ m) where
  place : m ≡ length p + (m - length p)
  place = omega arith

  pub take_behind : take m (p ++ rest) ≡ p ++ take (m - length p) rest
  take_behind = ap (λ (k : ℕ). take k (p ++ rest)) place ∙ take-append-add p rest (m - length p)

  pub drop-behind : drop m (p ++ rest) ≡ drop (m - length p) rest
  drop-behind = ap (λ (k : ℕ). drop k (p ++ rest)) place ∙ drop-append-add p rest (m - length p)

pub found_start : (packets : List (List ℕ)) → Each Carried packets → (m : ℕ) → m ≤ length (line packets) → found_in (take m (line packets)) ≡ up_to m packets
unfolding line flat_map
found_start [] c m h = ap found_in (take-nil m) ∙ found_none
found_start (p ∷ more) c m h =
    either (ltb m (length p))
    (λ t.
    let short : m < length p = ltb-true m (length p) t in
    ap found_in (take-append-le m p (line more) (omega arith))
    ∙ found_running (take m p) (carried-start p c.0 m short)
    ∙ (λ i. record { packets = sym (between_in p more 0 m c.1 (omega arith) short) i; part = sym (held_in p more 0 m short) i; lost = 0 }))
    (λ t.
    let long : length p ≤ m = ltb-false m (length p) t in
    let rest : List ℕ = take (m - length p) (line more) in
    let none : 0 ≡ 0 - length p = omega arith in
    ap found_in (take_behind p (line more) m long)
    ∙ found_whole (p ++ rest) (length p) (start-line p rest c.0)
    ∙ ap₂ (λ (a b : List ℕ). both (one_in a) (found_in b)) (take_at p rest (length p) refl) (drop_at p rest (length p) refl)
    ∙ ap (both (one_in p)) (found_start more c.1 (m - length p) (omega (arith, length-append p (line more))))
    ∙ (λ i. record { packets = p ∷ between (none i) (m - length p) more; part = held_at (none i) (m - length p) more; lost = 0 })
    ∙ (λ i. record { packets = sym (between-behind p more 0 m long) i; part = sym (held_behind p more 0 m long) i; lost = 0 }))

-- ---- the marked start

pub begin-least : (packets : List (List ℕ)) (a : ℕ) → a ≤ length (line packets) → a ≤ next_begin a packets
unfolding line flat_map
begin-least [] a h = h
begin-least (p ∷ more) a h =
    either (eqb a 0) (λ z. rw z (omega (arith, eqb-true a 0 z)))
    (λ z. rw z (omega (arith, begin-least more (a - length p) (omega (arith, length-append p (line more))))))

pub begin_here : (packets : List (List ℕ)) → next_begin 0 packets ≡ 0
begin_here [] = refl
begin_here (p ∷ more) = refl

pub begin-behind : (p : List ℕ) (more : List (List ℕ)) (a : ℕ) → 0 < a → next_begin a (p ∷ more) ≡ length p + next_begin (a - length p) more
begin-behind p more a some = simp (ne_eqb a 0 (λ z. omega arith))

pub begin_in : (p : List ℕ) (more : List (List ℕ)) (a : ℕ) → 0 < a → a ≤ length p → next_begin a (p ∷ more) ≡ length p
begin_in p more a some inside =
    let none : a - length p ≡ 0 = omega arith in
    begin-behind p more a some ∙ ap (λ (k : ℕ). length p + next_begin k more) none ∙ ap (λ (k : ℕ). length p + k) (begin_here more) ∙ add-zero (length p)

-- What some bytes are as the start of a packet, case by case; and stored packets. Assumes nothing.
use mathlib.Core.Path.{◌≡◌, refl, sym, ap, ap₂, subst, ◌∙◌}
use mathlib.Core.Bool.{Bool, true, false, not, cond, true≢false, and-eq-true_iff}
use mathlib.Core.List.{List}
use Prim.Native.Nat.{ℕ, zero, suc, ◌+◌, ◌≤◌, ◌<◌}
use native.Mathlib.Omega.{arith}
use borrow.Author.Tests.{eqb-true, eqb-false, ltb-true, ltb-false, leb-true, eq-eqb, ne_eqb, lt-ltb, le-ltb, le-leb}
use lib.Dec.{eqb, ltb, leb}
use lib.ListN.{length, get_or, take}
use lib.Seq.{get_or-take, length-take-le, take_all, sets}
use Rattle.octets.specs.Checks.{check}
use Rattle.octets.specs.Word.{word, word_bytes}
use Rattle.octets.proofs.Stores.{sets_behind}
use Rattle.octets.proofs.Laws.{either}
use Rattle.text.specs.Text.{text}
use Rattle.packets.specs.declared.Start.{Start}
use Rattle.packets.specs.declared.Start.TheVariants.{Running, Whole, Fault}
use Rattle.packets.specs.Packets.{shortest_packet, longest_packet, within_limits, version_of, ip_version, total_length, telling_bytes, Carried, is_carried, start_by, start_of}
use Rattle.packets.specs.Stored.{stored_head}

-- ---- the head of a stored packet, as the code stores it

pub head-stored : (l : List ℕ) (at n : ℕ) (m l' : List ℕ) → m ≡ sets l at (text "IP") → l' ≡ sets m (at + 2) (word_bytes n) → l' ≡ sets l at (stored_head n)
head-stored l at n m l' put is = is ∙ sets_behind (text "IP") (word_bytes n) l m at put

-- ---- a length within the limits, or not

pub within : (n : ℕ) → shortest_packet ≤ n → n ≤ longest_packet → within_limits n ≡ true
within n h g = simp (le-leb shortest_packet n h, le-leb n longest_packet g)

-- ---- by the number of bytes, the first and the total length

module _ (n first total : ℕ) where
  pub start_none : n ≡ 0 → start_by n first total ≡ Running
  start_none e = simp (eq-eqb n 0 e)

  module _ (some : n ≡ 0 → ⊥) where
    module _ (four : version_of first ≡ ip_version) where
      pub start_few : n < telling_bytes → start_by n first total ≡ Running
      start_few h = simp (ne_eqb n 0 some, eq-eqb (version_of first) ip_version four, lt-ltb n telling_bytes h)

      module _ (tells : telling_bytes ≤ n) where
        module _ (least : shortest_packet ≤ total) (most : total ≤ longest_packet) where
          pub start-running : n < total → start_by n first total ≡ Running
          start-running h = simp (ne_eqb n 0 some, eq-eqb (version_of first) ip_version four, le-ltb n telling_bytes tells, within total least most, lt-ltb n total h)

          pub start_whole : total ≤ n → start_by n first total ≡ Whole total
          start_whole h = simp (ne_eqb n 0 some, eq-eqb (version_of first) ip_version four, le-ltb n telling_bytes tells, within total least most, le-ltb n total h)

-- too few bytes to tell the total length: it does not matter
pub early : (n first total other : ℕ) → n < telling_bytes → start_by n first total ≡ start_by n first other
early n first total other h =
    either (eqb n 0) (λ e. simp e)
    (λ e. either (eqb (version_of first) ip_version) (λ f. simp (e, f, lt-ltb n telling_bytes h)) (λ f. simp (e, f)))

-- ---- what is known of bytes that are the start of something

abbrev pub Means : ℕ → ℕ → ℕ → Start → Type 0
Means n first total Running = n < longest_packet
Means n first total (Whole m) = (m ≡ total) × (version_of first ≡ ip_version) × (shortest_packet ≤ m) × (m ≤ longest_packet) × (m ≤ n)
Means n first total Fault = Unit {0}

start_means : (n first total : ℕ) → Means n first total (start_by n first total)
start_means n first total =
    either (eqb n 0) (λ e. rw e (omega (arith, eqb-true n 0 e)))
    (λ e. rw e (either (eqb (version_of first) ip_version) (λ v. rw v (either (ltb n telling_bytes) (λ f. rw f (omega (arith, ltb-true n telling_bytes f))) (λ f. rw f (limited v)))) (λ v. rw v tt)))
  where
    limited : eqb (version_of first) ip_version ≡ true → Means n first total (check (not (within_limits total)) Fault (cond (ltb n total) Running (Whole total)))
    limited v =
        either (leb shortest_packet total)
        (λ g.
        rw g
        (either (leb total longest_packet)
        (λ h.
        rw h
        (either (ltb n total) (λ k. rw k (omega (arith, ltb-true n total k, leb-true total longest_packet h)))
        (λ k. rw k (refl, eqb-true (version_of first) ip_version v, leb-true shortest_packet total g, leb-true total longest_packet h, ltb-false n total k))))
        (λ h. rw h tt)))
        (λ g. rw g tt)

module _ (xs : List ℕ) where
  pub means : {s : Start} → start_of xs ≡ s → Means (length xs) (get_or xs 0 0) (total_length xs) s
  unfolding start_of
  means e = subst (Means (length xs) (get_or xs 0 0) (total_length xs)) e (start_means (length xs) (get_or xs 0 0) (total_length xs))

  -- a whole packet that stands there may be carried
  pub whole_carried : (n : ℕ) → start_of xs ≡ Whole n → Carried (take n xs)
  whole_carried n e =
      let m = means e in
      let long : length (take n xs) ≡ n = length-take-le n xs m.4 in
      let least : shortest_packet ≤ n = m.2 in
      record {
        version = ap version_of (get_or-take n xs 0 0 (omega arith)) ∙ m.1;
        own = ap₂ word (get_or-take n xs 2 0 (omega arith)) (get_or-take n xs 3 0 (omega arith)) ∙ sym m.0 ∙ sym long;
        least = omega (arith, long, m.2);
        most = omega (arith, long, m.3);
      }

  -- and one that may be carried is whole, or running where only its start is there
  pub carried_whole : Carried xs → start_of xs ≡ Whole (length xs)
  unfolding start_of
  carried_whole k =
      start_whole (length xs) (get_or xs 0 0) (total_length xs) (λ e. omega (arith, k.least, e)) k.version (omega (arith, k.least))
      (omega (arith, k.least, k.own))
      (omega (arith, k.most, k.own))
      (omega (arith, k.own))
      ∙ ap Whole k.own

  pub carried-start : Carried xs → (n : ℕ) → n < length xs → start_of (take n xs) ≡ Running
  unfolding start_of
  carried-start k n h =
      let long : length (take n xs) ≡ n = length-take-le n xs (omega arith) in
      either (eqb n 0) (λ e. start_none (length (take n xs)) (get_or (take n xs) 0 0) (total_length (take n xs)) (long ∙ eqb-true n 0 e))
      (λ e.
      let some : n ≡ 0 → ⊥ = eqb-false n 0 e in
      let version : version_of (get_or (take n xs) 0 0) ≡ ip_version = ap version_of (get_or-take n xs 0 0 (positive n some)) ∙ k.version in
      either (ltb n telling_bytes)
      (λ f. start_few (length (take n xs)) (get_or (take n xs) 0 0) (total_length (take n xs)) (λ z. some (sym long ∙ z)) version (omega (arith, long, ltb-true n telling_bytes f)))
      (λ f.
      let tells : telling_bytes ≤ n = ltb-false n telling_bytes f in
      let total : total_length (take n xs) ≡ length xs = ap₂ word (get_or-take n xs 2 0 (omega arith)) (get_or-take n xs 3 0 (omega arith)) ∙ k.own in
      start-running (length (take n xs)) (get_or (take n xs) 0 0) (total_length (take n xs)) (λ z. some (sym long ∙ z)) version (omega (arith, long, tells))
      (omega (arith, total, k.least))
      (omega (arith, total, k.most))
      (omega (arith, total, long, h))))
    where
      positive : (n : ℕ) → (n ≡ 0 → ⊥) → 0 < n
      positive zero z = absurd (z refl)
      positive (suc n) z = omega arith

-- ---- one that may be carried, by the test

module _ (xs : List ℕ) where
  pub carried_is : Carried xs → is_carried xs ≡ true
  unfolding is_carried
  carried_is k =
      simp (eq-eqb (version_of (get_or xs 0 0)) ip_version k.version, within (total_length xs) (omega (arith, k.least, k.own)) (omega (arith, k.most, k.own)), eq-eqb (total_length xs) (length xs) k.own)

  pub is_carried_lem : is_carried xs ≡ true → Carried xs
  unfolding is_carried
  is_carried_lem t =
      let version = (and-eq-true_iff (eqb (version_of (get_or xs 0 0)) ip_version) _).0 t in
      let limits = (and-eq-true_iff (within_limits (total_length xs)) _).0 version.1 in
      let within = (and-eq-true_iff (leb shortest_packet (total_length xs)) _).0 limits.0 in
      let own : total_length xs ≡ length xs = eqb-true (total_length xs) (length xs) limits.1 in
      record {
        version = eqb-true (version_of (get_or xs 0 0)) ip_version version.0;
        own = own;
        least = omega (arith, own, leb-true shortest_packet (total_length xs) within.0);
        most = omega (arith, own, leb-true (total_length xs) longest_packet within.1);
      }

  -- and by what stands there
  abbrev pub is_whole : Start → ℕ → Bool
  is_whole (Whole n) m = eqb n m
  is_whole Running m = false
  is_whole Fault m = false

  pub whole_is : (s : Start) → start_of xs ≡ s → is_whole s (length xs) ≡ is_carried xs
  whole_is s e =
      either (is_carried xs) (λ t. ap (λ (r : Start). is_whole r (length xs)) (sym e ∙ carried_whole xs (is_carried_lem t)) ∙ eq-eqb (length xs) (length xs) refl ∙ sym t)
      (λ t. rest s e t ∙ sym t)
    where
      rest : (s : Start) → start_of xs ≡ s → is_carried xs ≡ false → is_whole s (length xs) ≡ false
      rest Running e t = refl
      rest Fault e t = refl
      rest (Whole n) e t =
          ne_eqb n (length xs)
          (λ same.
          let all : take n xs ≡ xs = take_all n xs (omega (arith, same)) in
          true≢false (sym (carried_is (subst Carried all (whole_carried xs n e))) ∙ t))

-- Parts of a tunnel: its packets between places of the line, its outer packets some and then others, and their payloads. Assumes nothing.
use mathlib.Core.Path.{◌≡◌, refl, sym, ap, ap₂, ◌∙◌}
use mathlib.Core.Bool.{Bool, true, false, cond, ◌||◌, true≢false}
use mathlib.Core.List.{List, [], ◌∷◌, ◌++◌, flat_map}
use Prim.Native.Nat.{ℕ, suc, ◌+◌, ◌-◌, ◌≤◌}
use native.Mathlib.Omega.{arith}
use borrow.Author.Tests.{eqb-true, lt-leb}
use lib.Dec.{leb, eqb}
use lib.ListN.{length, take, drop, length-append, length-drop, take-append-drop}
use lib.Seq.{length-take-le, take_at, drop_at, take-add, drop-drop}
use Rattle.octets.specs.Each.{Each}
use Rattle.packets.specs.Packets.{Carried}
use Rattle.packets.specs.Stored.{line}
use Rattle.tunnel.specs.Outer.{is_outer}
use Rattle.carriage.specs.Sent.{Sendable, Choice, Fits, taken, between, sent}
use Rattle.carriage.proofs.Outers.{seen_sent}
use Rattle.carriage.proofs.Lines.{between_none, between-behind}
use Rattle.carriage.proofs.InOrder.{sent-append}
use Rattle.round_trip.specs.Trips.{payloads_in, apart}

-- ---- packets between two places of the line, up to its end

between_end : (p : List ℕ) (more : List (List ℕ)) (from : ℕ) → between from (length (line (p ∷ more))) (p ∷ more) ≡ cond (eqb from 0) (p ∷ []) [] ++ between (from - length p) (length (line more)) more
unfolding line flat_map
between_end p more from =
    let all = length-append p (line more) in
    let rest : length (p ++ line more) - length p ≡ length (line more) = omega (arith, all) in
    between-behind p more from (length (p ++ line more)) (omega (arith, all))
    ∙ ap (λ (n : ℕ). cond (eqb from 0) (p ∷ []) [] ++ between (from - length p) n more) rest

pub between_all : (packets : List (List ℕ)) → between 0 (length (line packets)) packets ≡ packets
between_all [] = refl
between_all (p ∷ more) =
    let none : 0 - length p ≡ 0 = omega arith in
    between_end p more 0 ∙ ap (λ (n : ℕ). p ∷ between n (length (line more)) more) none ∙ ap (λ (ps : List (List ℕ)). p ∷ ps) (between_all more)

-- one packet more, before either of two lists or in neither
before_either : (p : List ℕ) (a b : Bool) (ps qs : List (List ℕ)) → (b ≡ true → (a ≡ false) × (ps ≡ [])) → cond a (p ∷ []) [] ++ ps ++ (cond b (p ∷ []) [] ++ qs) ≡ cond (a || b) (p ∷ []) [] ++ (ps ++ qs)
before_either p true true ps qs h = absurd (true≢false (h refl).0)
before_either p true false ps qs h = refl
before_either p false true ps qs h = rw (h refl).1 refl
before_either p false false ps qs h = refl

-- the packets before one place and those behind another have no byte between them
pub between-apart : (packets : List (List ℕ)) → Each Carried packets → (from to : ℕ) → from ≤ to → between 0 from packets ++ between to (length (line packets)) packets ≡ apart from to packets
between-apart [] c from to h = refl
between-apart (p ∷ more) c from to h =
    let none : 0 - length p ≡ 0 = omega arith in
    let ps : List (List ℕ) = between 0 (from - length p) more in
    let qs : List (List ℕ) = between (to - length p) (length (line more)) more in
    ap₂ (λ (n : ℕ) (rest : List (List ℕ)). cond (leb (length p) from) (p ∷ []) [] ++ between n (from - length p) more ++ rest) none (between_end p more to)
    ∙ before_either p (leb (length p) from) (eqb to 0) ps qs
    (λ t.
    let zero : from ≡ 0 = omega (arith, eqb-true to 0 t) in
    let first : from - length p ≡ 0 = omega arith in
    (lt-leb (length p) from (omega (arith, c.0.least)), ap (λ (n : ℕ). between 0 n more) first ∙ between_none more c.1 0))
    ∙ ap (λ (rest : List (List ℕ)). cond (leb (length p) from || eqb to 0) (p ∷ []) [] ++ rest) (between-apart more c.1 (from - length p) (to - length p) (omega arith))

-- ---- payloads and outer packets, some and then others

pub taken_append : (cs ds : List Choice) → taken (cs ++ ds) ≡ taken cs + taken ds
taken_append [] ds = omega arith
taken_append (c ∷ cs) ds = omega (arith, taken_append cs ds)

pub taken_split : (k : ℕ) (cs : List Choice) → taken (take k cs) + taken (drop k cs) ≡ taken cs
taken_split k cs = sym (taken_append (take k cs) (drop k cs)) ∙ ap taken (take-append-drop k cs)

pub sent_count : (packets : List (List ℕ)) (n at : ℕ) (cs : List Choice) → length (sent packets n at cs) ≡ length cs
unfolding sent
sent_count packets n at [] = refl
sent_count packets n at (c ∷ cs) = ap suc (sent_count packets (n + 1) (at + c.size) cs)

module _ (packets : List (List ℕ)) (n at : ℕ) (cs : List Choice) (xs ys : List (List ℕ)) (are : xs ++ ys ≡ sent packets n at cs) where
  abbrev pub early : List Choice
  early = take (length xs) cs

  abbrev pub late : List Choice
  late = drop (length xs) cs

  abbrev front : List (List ℕ)
  front = sent packets n at early

  abbrev back : List (List ℕ)
  back = sent packets (n + length early) (at + taken early) late

  both : xs ++ ys ≡ front ++ back
  both = are ∙ ap (sent packets n at) (sym (take-append-drop (length xs) cs)) ∙ sent-append packets n at early late

  pub early_count : length early ≡ length xs
  early_count = length-take-le (length xs) cs (omega (arith, ap length are, sent_count packets n at cs, length-append xs ys))

  front_count : length front ≡ length xs
  front_count = sent_count packets n at early ∙ early_count

  pub early_sent : xs ≡ front
  early_sent = sym (take_at xs ys (length xs) refl) ∙ ap (take (length xs)) both ∙ take_at front back (length xs) front_count

  pub late_sent : ys ≡ back
  late_sent = sym (drop_at xs ys (length xs) refl) ∙ ap (drop (length xs)) both ∙ drop_at front back (length xs) front_count

-- ---- outer packets and their payloads

module _ (packets : List (List ℕ)) (sendable : Each Sendable packets) where
  pub sent-outers : (n at : ℕ) (cs : List Choice) → Each Fits cs → Each (λ o. is_outer o ≡ true) (sent packets n at cs)
  unfolding sent
  sent-outers n at [] fits = tt
  sent-outers n at (c ∷ cs) fits = ((seen_sent packets sendable n at c fits.0).outer, sent-outers (n + 1) (at + c.size) cs fits.1)

  pub sent_payloads : (n at : ℕ) (cs : List Choice) → Each Fits cs → payloads_in (sent packets n at cs) ≡ take (taken cs) (drop at (line packets))
  unfolding sent flat_map
  sent_payloads n at [] fits = refl
  sent_payloads n at (c ∷ cs) fits =
      ap₂ ◌++◌ (seen_sent packets sendable n at c fits.0).payload
      (sent_payloads (n + 1) (at + c.size) cs fits.1 ∙ ap (take (taken cs)) (sym (drop-drop c.size at (line packets))))
      ∙ sym (take-add c.size (taken cs) (drop at (line packets)))

  pub payloads_length : (n at : ℕ) (cs : List Choice) → Each Fits cs → at + taken cs ≤ length (line packets) → length (payloads_in (sent packets n at cs)) ≡ taken cs
  payloads_length n at cs fits within =
      ap length (sent_payloads n at cs fits) ∙ length-take-le (taken cs) (drop at (line packets)) (omega (arith, length-drop at (line packets)))

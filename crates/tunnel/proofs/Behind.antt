-- A whole payload behind a part: there is room for what it gives, and the two halves give it. Assumes nothing.
use mathlib.Core.Path.{◌≡◌, refl, sym, ap, ap₂, ◌∙◌}
use mathlib.Core.Bool.{Bool, true, false}
use mathlib.Core.List.{List, [], ◌++◌, flat_map, append-nil}
use Prim.Native.Nat.{ℕ, ◌+◌, ◌*◌, ◌≤◌, ◌<◌}
use native.Mathlib.Omega.{arith}
use lib.ListN.{length, take, drop, length-append, length-drop}
use lib.Seq.{length-take-le, sets}
use Rattle.octets.proofs.Stores.{sets-append}
use Rattle.packets.specs.Packets.{longest_packet}
use Rattle.packets.specs.Stored.{stored_head_bytes, stored_packet, stored}
use Rattle.packets.proofs.Laws.{means}
use Rattle.tunnel.specs.Outer.{longest_outer}
use Rattle.tunnel.specs.Unwrap.{shortest_output, Found, found_in, found_before, found_at, Gains}
use Rattle.tunnel.proofs.Found.{before_cases, found_weight, before_weight, found_carried, before_part, before_marked, found_nothing, stored_most, stored-append}
use Rattle.tunnel.proofs.From.{Reached}

-- ---- room

before_stored : (marked : Bool) (part xs : List ℕ) → length (stored (found_before marked part xs).packets) ≤ stored_head_bytes + longest_packet
unfolding stored flat_map
before_stored marked part xs =
    before_cases (λ f. length (stored f.packets) ≤ stored_head_bytes + longest_packet) marked part xs (omega arith) (λ m is. omega arith)
    (λ is. omega (arith, length-append (stored_packet (part ++ xs)) [], (means (part ++ xs) is).3))

pub found_stored : (xs : List ℕ) → 7 * length (stored (found_in xs).packets) ≤ 8 * length xs
found_stored xs = omega (arith, stored_most (found_in xs).packets (found_carried xs), found_weight xs)

-- ---- both halves

module _ (part payload : List ℕ) (held start : ℕ) (inside : held ≤ length part) (within : start ≤ length payload) (marked : Bool) (xs ys : List ℕ) (front : xs ≡ take start payload) (back : ys ≡ drop start payload) where
  abbrev before : Found
  before = found_before marked (take held part) xs

  abbrev after : Found
  after = found_in ys

  front_length : length xs ≡ start
  front_length = ap length front ∙ length-take-le start payload within

  back_length : length ys + start ≡ length payload
  back_length = omega (arith, ap length back, length-drop start payload, within)

  pub before_held : length (found_before marked (take held part) xs).part < longest_packet
  before_held = means before.part (before_part marked (take held part) xs)

  pub before_lost : (found_before marked (take held part) xs).lost ≤ held + start
  before_lost = omega (arith, before_weight marked (take held part) xs, length-take-le held part inside, front_length)

  pub after_parts : length (found_in ys).part + (found_in ys).lost ≤ length payload
  after_parts = omega (arith, found_weight ys, back_length)

  -- there is room for what is stored
  pub after_room : (to : ℕ) (out : List ℕ) → length payload ≤ longest_outer → shortest_output ≤ length out → to ≡ length (stored (found_before marked (take held part) xs).packets) → to + length (stored (found_in ys).packets) ≤ length out
  after_room to out most long e = omega (arith, e, before_stored marked (take held part) xs, found_stored ys, back_length, most, long)

  -- only one of the halves holds a part
  parts_put : (marked ≡ false → start ≡ length payload) → sets (sets part 0 before.part) 0 after.part ≡ sets part 0 (before.part ++ after.part)
  parts_put placed = go marked refl
    where
      go : (m : Bool) → marked ≡ m → sets (sets part 0 before.part) 0 after.part ≡ sets part 0 (before.part ++ after.part)
      go true m =
          let none : before.part ≡ [] = ap (λ (m : Bool). (found_before m (take held part) xs).part) m ∙ before_marked (take held part) xs in
          ap (λ (t : List ℕ). sets (sets part 0 t) 0 after.part) none ∙ ap (λ (t : List ℕ). sets part 0 (t ++ after.part)) (sym none)
      go false m =
          let none : after.part ≡ [] = found_nothing ys (omega (arith, back_length, placed m)) in
          ap (sets (sets part 0 before.part) 0) none
          ∙ ap (sets part 0) (sym (append-nil before.part) ∙ ap (λ (t : List ℕ). before.part ++ t) (sym none))

  pub behind_gains : (marked ≡ false → start ≡ length payload) → (out part₁ out₁ : List ℕ) (to held₁ lost₁ : ℕ) → Gains (found_before marked (take held part) xs) part out 0 part₁ out₁ to held₁ lost₁ → (out₂ : List ℕ) (end : ℕ) (running : List ℕ) (lost₂ : ℕ) → Reached ys out₁ to out₂ end running lost₂ → (part₂ : List ℕ) → part₂ ≡ sets part₁ 0 running → Gains (found_at marked start (take held part) payload) part out 0 part₂ out₂ end (held₁ + length running) (lost₁ + lost₂)
  unfolding found_at
  behind_gains placed out part₁ out₁ to held₁ lost₁ g out₂ end running lost₂ r part₂ put =
      let all : stored (before.packets ++ after.packets) ≡ stored before.packets ++ stored after.packets = stored-append before.packets after.packets in
      rw (← front, ← back) (
        omega (arith, r.0, g.0, ap length all, length-append (stored before.packets) (stored after.packets)),
        r.1
            ∙ ap₂ (λ (t : List ℕ) (k : ℕ). sets t k (stored after.packets)) g.1 g.0
            ∙ sym (sets-append (stored before.packets) (stored after.packets) out 0)
            ∙ ap (sets out 0) (sym all),
        omega (arith, g.2, ap length r.2, length-append before.part after.part),
        put ∙ ap₂ (λ (t u : List ℕ). sets t 0 u) g.3 r.2 ∙ parts_put placed,
        ap₂ ◌+◌ g.4 r.3,
      )

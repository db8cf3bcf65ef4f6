-- Packet after packet: what is left, put where the code has come to, is the whole. Assumes nothing.
use mathlib.Core.Path.{◌≡◌, refl, sym, ap, ap₂, ◌∙◌}
use mathlib.Core.List.{List, [], ◌∷◌, ◌++◌, flat_map}
use Prim.Native.Nat.{ℕ, ◌+◌, ◌≤◌}
use native.Mathlib.Omega.{arith}
use lib.ListN.{length, take, drop, length-append}
use lib.Seq.{length-take-le, length-sets, sets}
use Rattle.octets.proofs.Stores.{sets-append}
use Rattle.packets.specs.declared.Start.TheVariants.{Running, Whole, Fault}
use Rattle.packets.specs.Packets.{shortest_packet, longest_packet, start_of}
use Rattle.packets.specs.Stored.{stored_head_bytes, stored_packet, stored}
use Rattle.packets.proofs.Laws.{means}
use Rattle.tunnel.specs.Unwrap.{Found, one_in, both, found_in}
use Rattle.tunnel.proofs.Found.{found_whole, found_running, found_fault, start-nothing}

-- the packets of some bytes, as they are stored
abbrev pub stored_in : List ℕ → List ℕ
stored_in xs = stored (found_in xs).packets

-- with these bytes left, and at this place of the output, all of what was found in the whole is put or left
pub record Reads (bytes out₀ : List ℕ) (to : ℕ) (out rest : List ℕ) (end : ℕ) : Type 0 where
  pub same : length out ≡ length out₀
  pub place : end + length (stored_in rest) ≡ to + length (stored_in bytes)
  pub put : sets out end (stored_in rest) ≡ sets out₀ to (stored_in bytes)
  pub part : (found_in rest).part ≡ (found_in bytes).part
  pub lost : (found_in rest).lost ≡ (found_in bytes).lost

-- ---- a packet is put

module _ (rest : List ℕ) (n : ℕ) (is : start_of rest ≡ Whole n) where
  abbrev packet : List ℕ
  packet = take n rest

  pub packet_inside : (n ≤ length rest) × (shortest_packet ≤ n) × (n ≤ longest_packet)
  packet_inside = let m = means rest is in (m.4, m.2, m.3)

  next_left : found_in rest ≡ both (one_in packet) (found_in (drop n rest))
  next_left = found_whole rest n is

  next_stored : stored_in rest ≡ stored_packet packet ++ stored_in (drop n rest)
  unfolding stored flat_map
  next_stored = ap (λ (f : Found). stored f.packets) next_left

  packet_length : length (stored_packet packet) ≡ stored_head_bytes + n
  packet_length = let long : length packet ≡ n = length-take-le n rest (means rest is).4 in omega arith

  pub next_length : length (stored_in rest) ≡ stored_head_bytes + n + length (stored_in (drop n rest))
  next_length =
      ap length next_stored ∙ length-append (stored_packet packet) (stored_in (drop n rest)) ∙ ap (λ (k : ℕ). k + length (stored_in (drop n rest))) packet_length

  pub reads_next : (bytes out₀ : List ℕ) (to : ℕ) (out : List ℕ) (end : ℕ) (out' xs ys : List ℕ) → Reads bytes out₀ to out rest end → xs ≡ take n rest → ys ≡ drop n rest → out' ≡ sets out end (stored_packet xs) → Reads bytes out₀ to out' ys (end + (stored_head_bytes + n))
  reads_next bytes out₀ to out end out' xs ys r front back e =
      rw back (
      record {
        same = ap length e ∙ length-sets out end (stored_packet xs) ∙ r.same;
        place = omega (arith, next_length, r.place);
        put =
            ap₂ (λ (t : List ℕ) (k : ℕ). sets t (end + k) (stored_in (drop n rest))) (e ∙ ap (λ (t : List ℕ). sets out end (stored_packet t)) front) (sym packet_length)
            ∙ sym (sets-append (stored_packet packet) (stored_in (drop n rest)) out end)
            ∙ ap (sets out end) (sym next_stored)
            ∙ r.put;
        part = sym (ap (λ (f : Found). f.part) next_left) ∙ r.part;
        lost = omega (arith, ap (λ (f : Found). f.lost) next_left, r.lost);
      })

-- ---- no packet is left

-- what was promised, with this part held and so many bytes thrown away
abbrev pub Reached : List ℕ → List ℕ → ℕ → List ℕ → ℕ → List ℕ → ℕ → Type 0
Reached bytes out₀ to out end running lost =
    (end ≡ to + length (stored_in bytes))
    × (out ≡ sets out₀ to (stored_in bytes))
    × (running ≡ (found_in bytes).part)
    × (lost ≡ (found_in bytes).lost)

module _ (bytes out₀ : List ℕ) (to : ℕ) (out rest : List ℕ) (end : ℕ) (r : Reads bytes out₀ to out rest end) where
  reached : {f : Found} → found_in rest ≡ f → f.packets ≡ [] → Reached bytes out₀ to out end f.part f.lost
  unfolding stored flat_map
  reached is none =
      let nothing : stored_in rest ≡ [] = ap (λ (f : Found). stored f.packets) is ∙ ap stored none in
      (omega (arith, ap length nothing, r.place), sym (ap (sets out end) nothing) ∙ r.put, sym (ap (λ (f : Found). f.part) is) ∙ r.part, sym (ap (λ (f : Found). f.lost) is) ∙ r.lost)

  pub reached_running : start_of rest ≡ Running → Reached bytes out₀ to out end rest 0
  reached_running is = reached (found_running rest is) refl

  pub reached_fault : start_of rest ≡ Fault → Reached bytes out₀ to out end [] (length rest)
  reached_fault is = reached (found_fault rest is) refl

  pub reached_end : length rest ≡ 0 → Reached bytes out₀ to out end rest 0
  reached_end none = reached_running (nothing rest none)
    where
      nothing : (xs : List ℕ) → length xs ≡ 0 → start_of xs ≡ Running
      nothing [] e = start-nothing
      nothing (x ∷ xs) e = absurd (omega (arith, e))

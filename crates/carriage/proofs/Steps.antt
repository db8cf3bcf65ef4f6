-- One outer packet of the line, to a reader that is ready for it. Assumes nothing.
use mathlib.Core.Path.{◌≡◌, refl, sym, ap, subst, ◌∙◌}
use mathlib.Core.Bool.{true, false, cond}
use mathlib.Core.Logic.{◌⊎◌, inl, inr}
use mathlib.Core.List.{List, [], ◌∷◌, ◌++◌}
use Prim.Native.Nat.{ℕ, ◌+◌, ◌-◌, ◌%◌, ◌≤◌, ◌<◌}
use native.Mathlib.Nat.{add-zero}
use native.Mathlib.Omega.{arith}
use borrow.Author.Tests.{ltb-true, ne_eqb}
use lib.Dec.{eqb}
use lib.ListN.{length, drop, length-drop}
use lib.Seq.{length-take-le}
use Rattle.std.specs.Prelude.{Some}
use Rattle.octets.specs.Each.{Each}
use Rattle.octets.proofs.Laws.{either}
use Rattle.rtp.specs.Header.{sequences, payload_in}
use Rattle.packets.specs.Packets.{longest_packet, Carried}
use Rattle.packets.specs.Stored.{line}
use Rattle.tunnel.specs.Outer.{offset_in}
use Rattle.tunnel.specs.Unwrap.{shortest_output, Reader, part_of, is_repeat, gap_before, Found, found_behind, marked, kept, found, Result, unwrapped}
use Rattle.carriage.specs.Sent.{Sendable, Choice, Fits, next_begin, begins, between}
use Rattle.carriage.specs.Fed.{Read, came_out, Takes}
use Rattle.carriage.proofs.Outers.{outer_sent, Seen, seen_sent}
use Rattle.carriage.proofs.Lines.{held_at, begin-least}
use Rattle.carriage.proofs.Payloads.{found_next, gained_next}
use Rattle.carriage.proofs.Calls.{called}

-- ---- the reader between two calls

-- the one before the n-th was accepted, and this part is held
pub record Holds (r : Reader) (n : ℕ) (held : List ℕ) : Type 0 where
  pub memory : length r.bytes ≡ longest_packet
  pub part : part_of r ≡ held
  pub last : r.numbers.last ≡ Some ((n + (sequences - 1)) % sequences)

-- the n-th will be no repeat, and then this part will be kept
pub record Ready (r : Reader) (n : ℕ) (held : List ℕ) : Type 0 where
  pub memory : length r.bytes ≡ longest_packet
  pub new : is_repeat r.numbers (n % sequences) ≡ false
  pub keeps : cond (eqb (gap_before r.numbers (n % sequences)) 0) (part_of r) [] ≡ held

module _ {r : Reader} {n : ℕ} {held : List ℕ} (h : Holds r n held) (k : ℕ) (few : k + 1 < sequences) where
  new_after : is_repeat r.numbers ((n + k) % sequences) ≡ false
  new_after = rw h.last (ne_eqb ((n + (sequences - 1)) % sequences) ((n + k) % sequences) (λ e. omega arith))

  gap_after : gap_before r.numbers ((n + k) % sequences) ≡ k
  unfolding gap_before
  gap_after = rw h.last (omega arith)

  -- some are left out
  pub ready_after : 1 ≤ k → Ready r (n + k) []
  ready_after some = record { memory = h.memory; new = new_after; keeps = rw (gap_after, ne_eqb k 0 (λ e. omega arith)) refl }

-- none is left out
pub ready_next : {r : Reader} {n : ℕ} {held : List ℕ} → Holds r n held → Ready r n held
ready_next {r} {n} {held} h =
    subst (λ (m : ℕ). Ready r m held) (add-zero n)
    (record { memory = h.memory; new = new_after h 0 (omega arith); keeps = rw (gap_after h 0 (omega arith)) h.part })

-- the reader takes up the tunnel
pub ready_first : {r : Reader} {n : ℕ} → Takes r (n % sequences) → Ready r n []
ready_first {r} {n} t = record { memory = t.memory; new = t.new; keeps = none t.apart }
  where
    gap : ℕ
    gap = gap_before r.numbers (n % sequences)

    none : (part_of r ≡ []) ⊎ (gap ≡ 0 → ⊥) → cond (eqb gap 0) (part_of r) [] ≡ []
    none (inl e) = either (eqb gap 0) (λ z. rw z e) (λ z. rw z refl)
    none (inr e) = rw (ne_eqb gap 0 e) refl

-- ---- an outer packet of the line

pub each_carried : (packets : List (List ℕ)) → Each Sendable packets → Each Carried packets
each_carried [] s = tt
each_carried (p ∷ more) s = (s.0.carried, each_carried more s.1)

-- what it leaves: the packets that end in it come out, and the reader holds what is held behind it
pub record Stepped (packets : List (List ℕ)) (s n at size : ℕ) (u : Result) : Type 0 where
  pub reads : Read u
  pub out : between s at packets ++ came_out u ≡ between s (at + size) packets
  pub holds : Holds u.reader (n + 1) (held_at s (at + size) packets)

module _ (packets : List (List ℕ)) (sendable : Each Sendable packets) (s n at : ℕ) (c : Choice) (fits : Fits c) (from : s ≤ at) (within : at + c.size ≤ length (line packets)) (r : Reader) (ready : Ready r n (held_at s at packets)) (outer output : List ℕ) (is : outer ≡ outer_sent packets n at c) where
  seen : Seen packets n at c outer
  seen = rw is (seen_sent packets sendable n at c fits)

  kept_is : kept r outer output ≡ held_at s at packets
  kept_is = ap (λ (q : ℕ). cond (eqb (gap_before r.numbers q) 0) (part_of r) []) seen.sequence ∙ ready.keeps

  found_is : found r outer output ≡ found_next packets s at c.size c.idle
  found_is i = found_behind (seen.marked i) (seen.offset i) (kept_is i) (seen.payload i)

  inside : marked r outer output ≡ true → offset_in outer < length (payload_in outer)
  inside m =
      let t : begins at c.size packets ≡ true = sym seen.marked ∙ m in
      let offset : offset_in outer ≡ next_begin at packets - at = seen.offset ∙ rw t refl in
      let size : length (payload_in outer) ≡ c.size =
      ap length seen.payload ∙ length-take-le c.size (drop at (line packets)) (omega (arith, length-drop at (line packets))) in
      omega (arith, offset, size, ltb-true (next_begin at packets) (at + c.size) t, begin-least packets at (omega arith))

  pub stepped : shortest_output ≤ length output → Stepped packets s n at c.size (unwrapped r outer output)
  stepped long =
      let k = called r outer output ready.memory long seen.outer (ap (is_repeat r.numbers) seen.sequence ∙ ready.new) inside in
      let g = gained_next packets (each_carried packets sendable) s at c.size c.idle from within in
      record {
        reads = k.reads;
        out = ap (λ (x : List (List ℕ)). between s at packets ++ x) (k.out ∙ ap (λ (f : Found). f.packets) found_is) ∙ g.0;
        holds =
            record {
              memory = k.memory;
              part = k.part ∙ ap (λ (f : Found). f.part) found_is ∙ g.1;
              last = k.last ∙ ap Some (seen.sequence ∙ omega arith);
            };
      }

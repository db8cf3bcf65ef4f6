-- An accepted outer packet: what the code's numbers are, and what they leave. Assumes nothing.
use mathlib.Core.Path.{◌≡◌, refl, sym, ap, subst, ◌∙◌}
use mathlib.Core.Bool.{Bool, true, false, cond, ◌&&◌, true≢false}
use mathlib.Core.List.{List, []}
use Prim.Native.Nat.{ℕ, ◌+◌, ◌-◌, ◌≤◌}
use native.Mathlib.Nat.{zero-add}
use native.Mathlib.Omega.{arith}
use borrow.Author.Tests.{leb-false}
use lib.Dec.{eqb, leb}
use lib.ListN.{length, take, length-take, length-drop}
use lib.Seq.{take-length, take-take, take_all, length-take-le}
use Rattle.octets.proofs.Laws.{either}
use Rattle.rtp.specs.Header.{header_bytes, marker_in, sequence_in, payload_in}
use Rattle.packets.specs.Packets.{start_of, is_running}
use Rattle.packets.specs.Stored.{stored}
use Rattle.tunnel.specs.declared.Numbers.{Numbers}
use Rattle.std.specs.Prelude.{Some, Ok, Err}
use Rattle.tunnel.specs.declared.Unwrapped.TheVariants.{Stored}
use Rattle.tunnel.specs.declared.Refusal.TheVariants.{BadOffset}
use Rattle.tunnel.specs.Outer.{offset_in}
use Rattle.tunnel.specs.Unwrap.{Reader, reader, part_of, Found, found_at, gap_before, marked, gap, kept, found, accepted, AcceptSays, Gains}
use Rattle.tunnel.proofs.Found.{at_weight}

-- ---- the part that is held is the start of its memory

part_front : (r : Reader) → take (length (part_of r)) r.bytes ≡ part_of r
part_front r =
    either (is_running (start_of (take r.numbers.held r.bytes)))
    (λ e. rw e (front r.numbers.held r.bytes))
    (λ e. rw e refl)
  where
    front : (n : ℕ) (l : List ℕ) → take (length (take n l)) l ≡ take n l
    front n l = sym (take-take (length (take n l)) n l (omega (arith, length-take n l))) ∙ take-length (take n l)

pub part_inside : (r : Reader) → length (part_of r) ≤ length r.bytes
part_inside r = omega (arith, ap length (part_front r), length-take (length (part_of r)) r.bytes)

-- ---- the code's numbers

pub record Numbered (m : Numbers) (part outer : List ℕ) (sequence gap held : ℕ) (marked : Bool) (start : ℕ) : Type 0 where
  pub sequence_is : sequence ≡ sequence_in outer
  pub gap_is : gap ≡ gap_before m sequence
  pub held_is : held ≡ length (part_of (reader m part))
  pub marked_is : marked ≡ eqb (marker_in outer) 1
  pub start_is : start ≡ cond marked (offset_in outer) (length (payload_in outer))

pub numbered : (m : Numbers) (part outer : List ℕ) (sequence gap held marker start : ℕ) → sequence ≡ sequence_in outer → gap ≡ gap_before m sequence → held ≡ length (part_of (reader m part)) → marker ≡ marker_in outer → start ≡ cond (eqb marker 1) (offset_in outer) (length (payload_in outer)) → Numbered m part outer sequence gap held (eqb marker 1) start
numbered m part outer sequence gap' held marker start s g h k t =
    record { sequence_is = s; gap_is = g; held_is = h; marked_is = ap (λ (b : ℕ). eqb b 1) k; start_is = t }

-- the payload, as a part of the outer packet
pub payload_all : (outer : List ℕ) → take (length outer - header_bytes) (payload_in outer) ≡ payload_in outer
payload_all outer = take_all (length outer - header_bytes) (payload_in outer) (omega (arith, length-drop header_bytes outer))

module _ (m : Numbers) (part outer out : List ℕ) (sequence gap' held : ℕ) (marked' : Bool) (start : ℕ) (n : Numbered m part outer sequence gap' held marked' start) (payload : List ℕ) (all : payload ≡ payload_in outer) where
  abbrev r : Reader
  r = reader m part

  -- the test of the marked start, by its place in the payload
  outside : (marked r outer out && leb (length (payload_in outer)) (offset_in outer)) ≡ (marked' && leb (length payload) start)
  outside = rw (← n.marked_is, all) (go marked' refl)
    where
      go : (b : Bool) → marked' ≡ b → (marked' && leb (length (payload_in outer)) (offset_in outer)) ≡ (marked' && leb (length (payload_in outer)) start)
      go false e = rw e refl
      go true e =
          let s : start ≡ offset_in outer = n.start_is ∙ ap (λ (b : Bool). cond b (offset_in outer) (length (payload_in outer))) e in
          rw s refl

  gap_same : gap' ≡ gap r outer out
  gap_same = n.gap_is ∙ ap (gap_before m) n.sequence_is

  pub held_inside : held ≤ length part
  held_inside = omega (arith, n.held_is, part_inside r)

  -- ---- 17

  pub accept_drops : (marked' && leb (length payload) start) ≡ true → AcceptSays m part outer out (Err (BadOffset gap' (held + length payload))) (record { last = Some sequence; held = 0 }) part out
  unfolding accepted
  accept_drops t =
      let e : (marked r outer out && leb (length (payload_in outer)) (offset_in outer)) ≡ true = outside ∙ t in
      rw e (
      record {
        answers = λ i. Err (BadOffset (gap_same i) (n.held_is i + length (all i)));
        holds = ap (λ (k : ℕ). reader (record { last = Some k; held = 0 }) part) n.sequence_is;
        leaves = refl;
      })

  -- ---- what is kept

  module _ (keep : ℕ) (keep-is : keep ≡ cond (eqb gap' 0) held 0) where
    kept_is : kept r outer out ≡ cond (eqb gap' 0) (part_of r) []
    kept_is = ap (λ (g : ℕ). cond (eqb g 0) (part_of r) []) (sym gap_same)

    -- without a gap, and with one
    keep_all : eqb gap' 0 ≡ true → (keep ≡ held) × (kept r outer out ≡ part_of r)
    keep_all e = (keep-is ∙ ap (λ (b : Bool). cond b held 0) e, kept_is ∙ ap (λ (b : Bool). cond b (part_of r) []) e)

    keep_none : eqb gap' 0 ≡ false → (keep ≡ 0) × (kept r outer out ≡ [])
    keep_none e = (keep-is ∙ ap (λ (b : Bool). cond b held 0) e, kept_is ∙ ap (λ (b : Bool). cond b (part_of r) []) e)

    pub kept_front : take keep part ≡ kept r outer out
    kept_front =
        either (eqb gap' 0)
        (λ e. ap (λ (k : ℕ). take k part) ((keep_all e).0 ∙ n.held_is) ∙ part_front r ∙ sym (keep_all e).1)
        (λ e. ap (λ (k : ℕ). take k part) (keep_none e).0 ∙ sym (keep_none e).1)

    pub kept_most : keep ≤ held
    kept_most = either (eqb gap' 0) (λ e. omega (arith, (keep_all e).0)) (λ e. omega (arith, (keep_none e).0))

    kept-length : keep ≡ length (kept r outer out)
    kept-length = sym (length-take-le keep part (omega (arith, kept_most, held_inside))) ∙ ap length kept_front

    -- ---- the place from which on

    module _ (here : (marked' && leb (length payload) start) ≡ false) where
      pub start_here : (start ≤ length payload) × (marked' ≡ false → start ≡ length payload)
      start_here = go marked' refl
        where
          go : (b : Bool) → marked' ≡ b → (start ≤ length payload) × (marked' ≡ false → start ≡ length payload)
          go true e =
              let t : leb (length payload) start ≡ false = rw e at here in
              (omega (arith, leb-false (length payload) start t), λ f. absurd (true≢false (sym e ∙ f)))
          go false e =
              let end : start ≡ length payload = n.start_is ∙ ap (λ (b : Bool). cond b (offset_in outer) (length (payload_in outer))) e ∙ ap length (sym all) in
              (omega (arith, end), λ f. end)

      found_same : found_at marked' start (take keep part) payload ≡ found r outer out
      found_same =
          (λ i. found_at marked' (n.start_is i) (kept_front i) (all i))
          ∙ ap (λ (b : Bool). found_at b (cond b (offset_in outer) (length (payload_in outer))) (kept r outer out) (payload_in outer)) n.marked_is

      module _ (part' out' : List ℕ) (end more lost : ℕ) (g : Gains (found_at marked' start (take keep part) payload) part out 0 part' out' end more lost) where
        pub lost_most : lost ≤ held + length payload
        lost_most =
            omega (arith, g.4, at_weight marked' start (take keep part) payload, length-take-le keep part (omega (arith, kept_most, held_inside)), kept_most)

        pub accept_reads : AcceptSays m part outer out (Ok (Stored end gap' (held - keep + lost))) (record { last = Some sequence; held = more }) part' out'
        unfolding accepted
        accept_reads =
            let e : (marked r outer out && leb (length (payload_in outer)) (offset_in outer)) ≡ false = outside ∙ here in
            let f : Found = found r outer out in
            let h : Gains f part out 0 part' out' end more lost = subst (λ (f : Found). Gains f part out 0 part' out' end more lost) found_same g in
            rw e (
            record {
              answers =
                  (λ i. Ok (Stored ((h.0 ∙ zero-add (length (stored f.packets))) i) (gap_same i) (n.held_is i - kept-length i + h.4 i)));
              holds =
                  (λ i. reader (record { last = Some (n.sequence_is i); held = h.2 i }) (h.3 i));
              leaves = h.1;
            })

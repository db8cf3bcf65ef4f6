-- The outer packets that the writer makes of what waits are those that are sent from its place of the line on. Assumes nothing.
use mathlib.Core.Path.{◌≡◌, refl, sym, ap, ap₂, ◌∙◌}
use mathlib.Core.List.{List, [], ◌∷◌}
use Prim.Native.Nat.{ℕ, zero, suc, ◌+◌, ◌*◌, ◌-◌, ◌%◌, ◌^◌, ◌≤◌, ◌<◌}
use native.Mathlib.Nat.{zero-mul, add-zero}
use native.Mathlib.Omega.{arith}
use borrow.Author.Tests.{ltb-true, ltb-false, lt-ltb, le-ltb}
use lib.Dec.{ltb}
use lib.ListN.{length, take, drop, length-drop, drop_of_length-le}
use lib.Seq.{length-take-le, drop-drop}
use Rattle.octets.specs.Each.{Each}
use Rattle.octets.proofs.Laws.{either}
use Rattle.rtp.specs.Header.{header_bytes, sequences}
use Rattle.packets.specs.Stored.{line}
use Rattle.tunnel.specs.Outer.{longest_outer, outer_packet}
use Rattle.tunnel.specs.Unwrap.{next_number}
use Rattle.wrapper.specs.Wrap.{Waiting, first_of, running, header, outer_of, outers_of, rest_of}
use Rattle.carriage.specs.Sent.{Choice, Fits, taken, next_begin, sent}
use Rattle.carriage.proofs.Outers.{outer_sent}
use Rattle.carriage.proofs.Lines.{begin-least}
use Rattle.round_trip.proofs.Begins.{begin_most}

-- ---- what the writer chooses: payloads of one size, the first with the timestamp of what waits, the others with that of the call

abbrev pub chosen : ℕ → ℕ → Choice
chosen size timestamp = record { size = size; timestamp = timestamp; protocol = 1; redundancy = 0; channels = 0; reserved = 0; idle = 0 }

abbrev pub chosen_for : ℕ → ℕ → ℕ → ℕ → List Choice
chosen_for zero size first timestamp = []
chosen_for (suc k) size first timestamp = chosen size first ∷ chosen_for k size timestamp timestamp

pub chosen_taken : (k size first timestamp : ℕ) → taken (chosen_for k size first timestamp) ≡ k * size
chosen_taken zero size first timestamp = sym (zero-mul size)
chosen_taken (suc k) size first timestamp = omega (arith, chosen_taken k size timestamp timestamp)

pub chosen_fits : (size timestamp : ℕ) → header_bytes + size ≤ longest_outer → timestamp < 2 ^ 32 → Fits (chosen size timestamp)
chosen_fits size timestamp most short =
    record {
      size = most;
      timestamp = short;
      protocol = omega arith;
      redundancy = omega arith;
      channels = omega arith;
      reserved = omega arith;
      idle = omega arith;
    }

pub all_fit : (k size first timestamp : ℕ) → header_bytes + size ≤ longest_outer → first < 2 ^ 32 → timestamp < 2 ^ 32 → Each Fits (chosen_for k size first timestamp)
all_fit zero size first timestamp most early late = tt
all_fit (suc k) size first timestamp most early late = (chosen_fits size first most early, all_fit k size timestamp timestamp most late late)

-- ---- what waits is the line from a place on

pub record Waits (packets : List (List ℕ)) (at : ℕ) (v : Waiting) : Type 0 where
  pub within : at ≤ length (line packets)
  pub bytes : v.bytes ≡ drop at (line packets)
  pub begin : v.begin ≡ next_begin at packets - at

pub waits-length : {packets : List (List ℕ)} {at : ℕ} {v : Waiting} → Waits packets at v → length v.bytes ≡ length (line packets) - at
waits-length {packets} {at} w = ap length w.bytes ∙ length-drop at (line packets)

-- nothing waits at the end of the line
pub waits_end : (packets : List (List ℕ)) (at timestamp : ℕ) → at ≡ length (line packets) → Waits packets at (running timestamp [])
waits_end packets at timestamp end =
    record { within = omega arith; bytes = sym (drop_of_length-le (line packets) {i = at} (omega arith)); begin = omega (arith, begin_most packets at) }

-- a start that lies in a payload, counted from the payload's or from the line's start
ltb_from : (a b n : ℕ) → a ≤ b → ltb (b - a) n ≡ ltb b (a + n)
ltb_from a b n h =
    either (ltb b (a + n)) (λ t. lt-ltb (b - a) n (omega (arith, ltb-true b (a + n) t)) ∙ sym t)
    (λ t. le-ltb (b - a) n (omega (arith, ltb-false b (a + n) t)) ∙ sym t)

module _ (packets : List (List ℕ)) where
  -- one payload
  pub outer-sent : (n at m : ℕ) (v : Waiting) → Waits packets at v → at + m ≤ length (line packets) → outer_of (n % sequences) (first_of m v) ≡ outer_sent packets n at (chosen m v.timestamp)
  unfolding outer_of
  outer-sent n at m v w h =
      let xs : List ℕ = drop at (line packets) in
      let long : length (take m xs) ≡ m = length-take-le m xs (omega (arith, length-drop at (line packets))) in
      (λ i. outer_packet (header (n % sequences) v.timestamp (w.begin i) (length (take m (w.bytes i)))) (take m (w.bytes i)))
      ∙ ap (λ (k : ℕ). outer_packet (header (n % sequences) v.timestamp (next_begin at packets - at) k) (take m xs)) long
      ∙ rw (ltb_from at (next_begin at packets) m (begin-least packets at w.within)) refl

  -- and what waits behind it, where no packet begins behind it
  waits_next : (at m timestamp : ℕ) (v : Waiting) → Waits packets at v → at + m ≤ length (line packets) → next_begin (at + m) packets ≡ length (line packets) → Waits packets (at + m) (running timestamp (drop m v.bytes))
  waits_next at m timestamp v w h end =
      let rest : drop m v.bytes ≡ drop (at + m) (line packets) = ap (drop m) w.bytes ∙ drop-drop m at (line packets) in
      record { within = h; bytes = rest; begin = omega (arith, ap length rest, length-drop (at + m) (line packets), end) }

  -- payloads of one size; no packet begins behind the first of them
  module _ (size timestamp from : ℕ) (ends : (a : ℕ) → from < a → a ≤ length (line packets) → next_begin a packets ≡ length (line packets)) where
    pub outers-sent : (k n at : ℕ) (v : Waiting) → Waits packets at v → from < at + size → at + k * size ≤ length (line packets) → (outers_of k size (n % sequences) timestamp v ≡ sent packets n at (chosen_for k size v.timestamp timestamp)) × Waits packets (at + k * size) (rest_of k size timestamp v)
    unfolding outers_of rest_of sent
    outers-sent zero n at v w f h = (refl, rw (zero-mul size, add-zero at) w)
    outers-sent (suc k) n at v w f h =
        let next : next_number (n % sequences) ≡ (n + 1) % sequences = omega arith in
        let place : at + size + k * size ≡ at + suc k * size = omega arith in
        let v' : Waiting = running timestamp (drop size v.bytes) in
        let w' : Waits packets (at + size) v' = waits_next at size timestamp v w (omega arith) (ends (at + size) f (omega arith)) in
        let rest = outers-sent k (n + 1) (at + size) v' w' (omega arith) (omega arith) in (
          ap₂ ◌∷◌ (outer-sent n at size v w (omega arith)) (ap (λ (s : ℕ). outers_of k size s timestamp v') next ∙ rest.0),
          rw place at rest.1,
        )

pub rest-stamp : (k size timestamp : ℕ) (v : Waiting) → v.timestamp < 2 ^ 32 → timestamp < 2 ^ 32 → (rest_of k size timestamp v).timestamp < 2 ^ 32
unfolding rest_of
rest-stamp zero size timestamp v early late = early
rest-stamp (suc k) size timestamp v early late = rest-stamp k size timestamp (running timestamp (drop size v.bytes)) late late

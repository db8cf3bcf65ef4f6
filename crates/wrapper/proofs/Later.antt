-- Outer packets in which no packet begins, one behind the other: the code's loop, and how long they are. Assumes nothing.
use mathlib.Core.Path.{◌≡◌, refl, sym, ap, ◌∙◌}
use mathlib.Core.List.{List, flat_map}
use Prim.Native.Nat.{ℕ, zero, suc, ◌+◌, ◌*◌, ◌%◌, ◌^◌, ◌≤◌, ◌<◌}
use native.Mathlib.Nat.{suc-mul, zero-mul}
use native.Mathlib.Omega.{arith}
use lib.ListN.{length, take, drop, length-append, length-drop}
use lib.Seq.{length-take-le, drop-drop, sets, length-sets}
use Rattle.octets.specs.Bits.{Bytes}
use Rattle.octets.proofs.Laws.{bytes_take, bytes_drop}
use Rattle.octets.proofs.Stores.{sets-append}
use Rattle.rtp.specs.Header.{header_bytes, sequences}
use Rattle.packets.specs.Stored.{line}
use Rattle.tunnel.specs.Unwrap.{next_number}
use Rattle.wrapper.specs.Wrap.{most_size, Waiting, first_of, running, head_bytes, outer_of, outers_of, rest_of}
use Rattle.wrapper.proofs.Outers.{head_none, outer-stored, length-outer_of}

-- ---- so many outer packets, and what waits behind them

pub length-outers : (k size sequence timestamp : ℕ) (v : Waiting) → length (outers_of k size sequence timestamp v) ≡ k
unfolding outers_of
length-outers zero size sequence timestamp v = refl
length-outers (suc k) size sequence timestamp v = ap suc (length-outers k size (next_number sequence) timestamp (running timestamp (drop size v.bytes)))

pub length-line-outers : (k size sequence timestamp : ℕ) (v : Waiting) → k * size ≤ length v.bytes → length (line (outers_of k size sequence timestamp v)) ≡ k * (header_bytes + size)
unfolding outers_of line flat_map
length-line-outers zero size sequence timestamp v h = sym (zero-mul (header_bytes + size))
length-line-outers (suc k) size sequence timestamp v h =
    let rest : Waiting = running timestamp (drop size v.bytes) in
    let first : List ℕ = outer_of sequence (first_of size v) in
    let room : k * size ≤ length rest.bytes = omega (arith, suc-mul k size, length-drop size v.bytes) in
    let long : length (take size v.bytes) ≡ size = length-take-le size v.bytes (omega (arith, suc-mul k size)) in
    omega (arith, length-append first (line (outers_of k size (next_number sequence) timestamp rest)), length-outer_of sequence (first_of size v), long, length-line-outers k size (next_number sequence) timestamp rest room, suc-mul k (header_bytes + size))

rest-running : (k size timestamp : ℕ) (xs : List ℕ) → rest_of k size timestamp (running timestamp xs) ≡ running timestamp (drop (k * size) xs)
unfolding rest_of
rest-running zero size timestamp xs = ap (λ (n : ℕ). running timestamp (drop n xs)) (sym (zero-mul size))
rest-running (suc k) size timestamp xs =
    let place : size + k * size ≡ suc k * size = omega (arith, suc-mul k size) in
    rest-running k size timestamp (drop size xs)
    ∙ ap (running timestamp) (drop-drop (k * size) size xs ∙ ap (λ (n : ℕ). drop n xs) place)

pub rest_some : (k size timestamp : ℕ) (v : Waiting) → 1 ≤ k → rest_of k size timestamp v ≡ running timestamp (drop (k * size) v.bytes)
unfolding rest_of
rest_some zero size timestamp v some = absurd (omega arith)
rest_some (suc k) size timestamp v some =
    let place : size + k * size ≡ suc k * size = omega (arith, suc-mul k size) in
    rest-running k size timestamp (drop size v.bytes)
    ∙ ap (running timestamp) (drop-drop (k * size) size v.bytes ∙ ap (λ (n : ℕ). drop n v.bytes) place)

-- ---- the loop: what is still to be put, where it has come to, is the whole

module _ (k size sequence timestamp : ℕ) (packet : List ℕ) (from : ℕ) (out₀ : List ℕ) (at : ℕ) where
  -- those from a place of the packet on
  abbrev outers_at : ℕ → ℕ → ℕ → List (List ℕ)
  outers_at todo n here = outers_of todo size n timestamp (running timestamp (drop here packet))

  pub record Puts (out : List ℕ) (todo n here to : ℕ) : Type 0 where
    pub number : n < sequences
    pub same : length out ≡ length out₀
    pub inside : here + todo * size ≤ length packet
    pub room : to + todo * (header_bytes + size) ≤ length out
    pub whole : sets out to (line (outers_at todo n here)) ≡ sets out₀ at (line (outers_at k sequence from))

  pub puts_start : sequence < sequences → from + k * size ≤ length packet → at + k * (header_bytes + size) ≤ length out₀ → Puts out₀ k sequence from at
  puts_start short inside room = record { number = short; same = refl; inside = inside; room = room; whole = refl }

  -- there is room for one more
  pub puts_inside : (out : List ℕ) (todo n here to : ℕ) → 0 < todo → Puts out todo n here to → (here + size ≤ length packet) × (to + (header_bytes + size) ≤ length out)
  puts_inside out zero n here to some p = absurd (omega arith)
  puts_inside out (suc todo) n here to some p = (omega (arith, p.inside, suc-mul todo size), omega (arith, p.room, suc-mul todo (header_bytes + size)))

  pub puts_end : (out : List ℕ) (todo n here to : ℕ) → todo ≡ 0 → Puts out todo n here to → out ≡ sets out₀ at (line (outers_at k sequence from))
  unfolding outers_of line flat_map
  puts_end out todo n here to none p = rw none at p.whole

  module _ (stamp : timestamp < 2 ^ 32) (most : size ≤ most_size) (bytes : Bytes packet) where
    pub puts_next : (out : List ℕ) (todo more n here to : ℕ) → todo ≡ suc more → Puts out todo n here to → (out₁ out₂ : List ℕ) (n' : ℕ) → out₁ ≡ sets out to (head_bytes n timestamp size size) → out₂ ≡ sets out₁ (to + header_bytes) (take size (drop here packet)) → n' ≡ (n + 1) % sequences → Puts out₂ more n' (here + size) (to + (header_bytes + size))
    unfolding outers_of line flat_map
    puts_next out todo more n here to is p out₁ out₂ n' first second next =
        let q : Puts out (suc more) n here to = rw is at p in
        let xs : List ℕ = drop here packet in
        let v : Waiting = first_of size (running timestamp xs) in
        let inside : here + size ≤ length packet = omega (arith, q.inside, suc-mul more size) in
        let long : length (take size xs) ≡ size = length-take-le size xs (omega (arith, length-drop here packet, inside)) in
        let stored : out₂ ≡ sets out to (outer_of n v) =
        second
        ∙ ap (λ (l : List ℕ). sets l (to + header_bytes) (take size xs)) (first ∙ ap (sets out to) (sym (head_none n timestamp (length xs) size (omega (arith, length-drop here packet, inside)))) ∙ ap (λ (m : ℕ). sets out to (head_bytes n timestamp (length xs) m)) (sym long))
        ∙ outer-stored n v q.number stamp (omega (arith, long)) (bytes_take size xs (bytes_drop here packet bytes)) out to in
        let size_is : length (outer_of n v) ≡ header_bytes + size = length-outer_of n v ∙ ap (λ (m : ℕ). header_bytes + m) long in
        record {
          number = omega (arith, next);
          same = ap length stored ∙ length-sets out to (outer_of n v) ∙ q.same;
          inside = omega (arith, q.inside, suc-mul more size);
          room = omega (arith, q.room, suc-mul more (header_bytes + size), ap length stored, length-sets out to (outer_of n v));
          whole =
              (λ i. sets (stored i) (to + sym size_is i) (line (outers_of more size (next i) timestamp (running timestamp (sym (drop-drop size here packet) i)))))
              ∙ sym (sets-append (outer_of n v) (line (outers_of more size (next_number n) timestamp (running timestamp (drop size xs)))) out to)
              ∙ q.whole;
        }

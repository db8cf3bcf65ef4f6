-- `explains::first_differing` meets its contract. The loop's invariant: the place that is sought lies so far behind place i as the rest of both makes it.
-- Assumes nothing.
use mathlib.Core.Path.{◌≡◌, sym, ap, ◌∙◌}
use mathlib.Core.List.{List}
use native.Mathlib.Omega.{arith}
use native.Mathlib.Nat.{zero-add, add-zero}
use native.Mathlib.Numerals.{add-one}
use Prim.Native.Nat.{ℕ, suc, ◌+◌, ◌-◌, min, ◌≤◌, ◌<◌}
use lib.ListN.{length, get_or, take, drop, length-drop, length-take}
use lib.Seq.{get_or-take, get_or-drop}
use Rattle.segments.specs.Segment.{segment_bytes, segment_header_bytes, payload_bytes, payload_in}
use Rattle.explains.specs.Explaining.{first_differing}
use Rattle.explains.proofs.Laws.{none_there, other_there, same_there, past_end}
use Rattle.explains.proofs.first_differing.Goals as goal

-- from place i on
abbrev rest : List ℕ → List ℕ → ℕ → ℕ → ℕ
rest seg bytes from i = first_differing (drop i (payload_in seg)) (drop i (take payload_bytes (drop from bytes)))

-- place i: past the end of the bytes, of another byte, of the same one
module _ (seg bytes : List ℕ) (from i : ℕ) (whole : length seg ≡ segment_bytes) (h : i < payload_bytes) where
  abbrev there : List ℕ
  there = take payload_bytes (drop from bytes)

  inside : i < length (payload_in seg)
  inside = omega (arith, length-drop segment_header_bytes seg)

  length-there : length there ≡ min payload_bytes (length bytes - from)
  length-there = length-take payload_bytes (drop from bytes) ∙ ap (min payload_bytes) (length-drop from bytes)

  none : length bytes ≤ from + i → rest seg bytes from i ≡ 0
  none e = none_there (payload_in seg) there i inside (omega (arith, length-there))

  module _ (k : from + i < length bytes) where
    own : get_or (payload_in seg) i 0 ≡ get_or seg (segment_header_bytes + i) 0
    own = get_or-drop segment_header_bytes seg i 0

    other : get_or there i 0 ≡ get_or bytes (from + i) 0
    other = get_or-take payload_bytes (drop from bytes) i 0 h ∙ get_or-drop from bytes i 0

    near : i < length there
    near = omega (arith, length-there)

    differs : (get_or bytes (from + i) 0 ≡ get_or seg (segment_header_bytes + i) 0 → ⊥) → rest seg bytes from i ≡ 0
    differs d = other_there (payload_in seg) there i inside near (λ e. d (sym other ∙ sym e ∙ own))

    agrees : get_or bytes (from + i) 0 ≡ get_or seg (segment_header_bytes + i) 0 → rest seg bytes from i ≡ suc (rest seg bytes from (suc i))
    agrees e = same_there (payload_in seg) there i inside near (own ∙ sym e ∙ sym other)

pub loop-i-init : goal.loop-i-init
loop-i-init c = zero-add _

pub returns-then-bytes-place : goal.returns-then-bytes-place
returns-then-bytes-place c = let a = c.args in
    let l = c.loop-i in
    record { value = sym (sym l.invariant ∙ ap (λ (n : ℕ). l.i + n) (none a.seg.now a.bytes.now a.from l.i c.requires.0 (omega arith) c.if-bytes-place.true) ∙ add-zero l.i); upper_bound = omega arith }

pub returns-then-bytes-place-2 : goal.returns-then-bytes-place-2
returns-then-bytes-place-2 c = let a = c.args in
    let l = c.loop-i in
    record { value = sym (sym l.invariant ∙ ap (λ (n : ℕ). l.i + n) (differs a.seg.now a.bytes.now a.from l.i c.requires.0 (omega arith) c.if-bytes-place.false c.if-bytes-place-2.true) ∙ add-zero l.i); upper_bound = omega arith }

pub loop-i-preserved : goal.loop-i-preserved
loop-i-preserved c = let a = c.args in
    let l = c.loop-i in
    let on = agrees a.seg.now a.bytes.now a.from l.i c.requires.0 (omega arith) c.if-bytes-place.false c.if-bytes-place-2.false in
    ap (λ (n : ℕ). l.i + 1 + rest a.seg.now a.bytes.now a.from n) (add-one l.i) ∙ next l.i _ ∙ ap (λ (n : ℕ). l.i + n) (sym on) ∙ l.invariant
  where
    next : (m n : ℕ) → m + 1 + n ≡ m + suc n
    next m n = omega arith

pub returns : goal.returns
returns c = let a = c.args in
    let l = c.loop-i in
    let end : length (payload_in a.seg.now) ≤ l.i = omega (arith, length-drop segment_header_bytes a.seg.now, c.requires.0, c.loop-i-test.false) in
    let done : payload_bytes ≡ l.i = omega arith in
    record { value = done ∙ sym (sym l.invariant ∙ ap (λ (n : ℕ). l.i + n) (past_end (payload_in a.seg.now) _ l.i end) ∙ add-zero l.i); upper_bound = omega arith }

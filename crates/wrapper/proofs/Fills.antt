-- A packet behind what is left: the first outer packet, those behind it, and what is left then. Assumes nothing.
use mathlib.Core.Path.{◌≡◌, sym, ap, ◌∙◌}
use mathlib.Core.Bool.{cond}
use mathlib.Core.List.{List, ◌++◌, flat_map}
use Prim.Native.Nat.{ℕ, zero, suc, ◌+◌, ◌*◌, ◌-◌, ◌/◌, ◌%◌, ◌^◌, ◌≤◌, ◌<◌}
use native.Mathlib.Nat.{zero-add, suc-mul, lt-div-mul-add}
use native.Mathlib.Omega.{arith}
use lib.Dec.{eqb}
use lib.ListN.{length, take, drop, length-append, length-drop}
use lib.Seq.{length-take-le, take_all, take-append-add, drop-append-add, sets}
use Rattle.octets.specs.Bits.{Bytes}
use Rattle.octets.proofs.Laws.{either, bytes_take, bytes-append}
use Rattle.octets.proofs.Stores.{sets-append}
use Rattle.rtp.specs.Header.{header_bytes, sequences}
use Rattle.packets.specs.Stored.{line}
use Rattle.tunnel.proofs.Laws.{one, sets_front}
use Rattle.wrapper.specs.declared.Numbers.{Numbers}
use Rattle.std.proofs.Common.{Ok}
use Rattle.wrapper.specs.Wrap.{most_size, writer, left_by, begin_by, waiting_in, joined, first_of, running, Waiting, head_bytes, outer_of, outers_of, rest_of, holding, Sized, Fills, SendSays}
use Rattle.wrapper.proofs.Laws.{length_left, stamp-joined}
use Rattle.wrapper.proofs.Outers.{outer-stored, length-outer_of}
use Rattle.wrapper.proofs.Later.{length-outers, length-line-outers, rest_some}

-- a list up to a place behind its start, and from there on
module _ (xs ys : List ℕ) (left n : ℕ) (long : length xs ≡ left) (behind : left ≤ n) where
  place : n ≡ length xs + (n - left)
  place = omega (arith, long)

  take_behind : take n (xs ++ ys) ≡ xs ++ take (n - left) ys
  take_behind = ap (λ (k : ℕ). take k (xs ++ ys)) place ∙ take-append-add xs ys (n - left)

  drop-behind : drop n (xs ++ ys) ≡ drop (n - left) ys
  drop-behind = ap (λ (k : ℕ). drop k (xs ++ ys)) place ∙ drop-append-add xs ys (n - left)

module _ (m : Numbers) (bytes : List ℕ) (sized : Sized m) (memory : length bytes ≡ most_size) (packet : List ℕ) (timestamp : ℕ) where
  abbrev v : Waiting
  v = joined (waiting_in (writer m bytes)) packet timestamp

  abbrev size : ℕ
  size = m.size

  abbrev left : ℕ
  left = left_by m

  abbrev waits : List ℕ
  waits = take left bytes

  inside : left ≤ length bytes
  inside = omega (arith, memory)

  long : length waits ≡ left
  long = length_left m bytes inside

  pub length-joined : length v.bytes ≡ left + length packet
  length-joined = length-append waits packet ∙ ap (λ (n : ℕ). n + length packet) long

  -- ---- it fills no payload

  pub keep_says : left + length packet ≤ most_size → (bytes' : List ℕ) (l begin stamp : ℕ) → l ≡ left → begin ≡ begin_by m → stamp ≡ cond (eqb left 0) timestamp m.timestamp → bytes' ≡ sets bytes l (take (length packet) (drop 0 packet)) → m.next < sequences → writer (record { size = size; next = m.next; left = l + length packet; begin = begin; timestamp = stamp }) bytes' ≡ holding (writer m bytes) 0 v
  keep_says room bytes' l begin stamp count at is put short =
      let next : m.next ≡ (m.next + 0) % sequences = omega arith in
      let lefts : l + length packet ≡ length v.bytes = omega (arith, count, length-joined) in
      let there : bytes' ≡ sets bytes 0 v.bytes =
      put
      ∙ (λ i. sets bytes (count i) (take_all (length packet) packet (omega arith) i))
      ∙ (λ i. sets (sym (sets_front bytes left inside) i) ((sym long ∙ sym (zero-add (length waits))) i) packet)
      ∙ sym (sets-append waits packet bytes 0) in
      λ i. record { numbers = record { size = size; next = next i; left = lefts i; begin = at i; timestamp = (is ∙ stamp-joined m bytes inside packet timestamp) i }; bytes = there i }

  -- ---- it fills one: the first outer packet

  module _ (enough : size ≤ left + length packet) (short : m.next < 65536) (early : m.timestamp < 2 ^ 32) (late : timestamp < 2 ^ 32) (held : Bytes bytes) (given : Bytes packet) where
    first_bytes : take size v.bytes ≡ waits ++ take (size - left) packet
    first_bytes = take_behind waits packet left size long (omega arith)

    first_long : length (take size v.bytes) ≡ size
    first_long = length-take-le size v.bytes (omega (arith, length-joined))

    stamp_small : v.timestamp < 2 ^ 32
    stamp_small = either (eqb (length waits) 0) (λ t. rw t late) (λ t. rw t early)

    pub joined-stored : (out o₁ o₂ o₃ : List ℕ) (l begin stamp : ℕ) → l ≡ left → begin ≡ begin_by m → stamp ≡ cond (eqb left 0) timestamp m.timestamp → o₁ ≡ sets out 0 (head_bytes m.next stamp begin size) → o₂ ≡ sets o₁ header_bytes (take l (drop 0 bytes)) → o₃ ≡ sets o₂ (header_bytes + l) (take (size - l) (drop 0 packet)) → o₃ ≡ sets out 0 (outer_of m.next (first_of size v))
    joined-stored out o₁ o₂ o₃ l begin stamp count at is first second third =
        third
        ∙ (λ i. sets ((second ∙ ap (λ (n : ℕ). sets o₁ header_bytes (take n bytes)) count) i) (header_bytes + (count ∙ sym long) i) (take (size - count i) packet))
        ∙ sym (sets-append waits (take (size - left) packet) o₁ header_bytes)
        ∙ ap (sets o₁ header_bytes) (sym first_bytes)
        ∙ ap (λ (l : List ℕ). sets l header_bytes (take size v.bytes)) (first ∙ (λ i. sets out 0 (head_bytes m.next ((is ∙ stamp-joined m bytes inside packet timestamp) i) (at i) (sym first_long i))))
        ∙ outer-stored m.next (first_of size v) short stamp_small (omega (arith, first_long)) (bytes_take size v.bytes (bytes-append waits packet (bytes_take left bytes held) given)) out 0

  -- ---- and those behind it

  module _ (full space : ℕ) (f : Fills m packet space full) where
    abbrev outers : List (List ℕ)
    outers = outers_of full size m.next timestamp v

    rest_is : rest_of full size timestamp v ≡ running timestamp (drop (full * size - left) packet)
    rest_is =
        rest_some full size timestamp v f.some
        ∙ ap (running timestamp) (drop-behind waits packet left (full * size) long (omega arith))

    line-outers : line outers ≡ outer_of m.next (first_of size v) ++ line (outers_of (full - 1) size ((m.next + 1) % sequences) timestamp (running timestamp (drop (size - left) packet)))
    unfolding outers_of line flat_map
    line-outers = go full f.some
      where
        go : (k : ℕ) → 1 ≤ k → line (outers_of k size m.next timestamp v) ≡ outer_of m.next (first_of size v) ++ line (outers_of (k - 1) size ((m.next + 1) % sequences) timestamp (running timestamp (drop (size - left) packet)))
        go zero h = absurd (omega arith)
        go (suc k) h =
            let count : k ≡ suc k - 1 = omega arith in
            (λ i. outer_of m.next (first_of size v) ++ line (outers_of (count i) size ((m.next + 1) % sequences) timestamp (running timestamp (drop-behind waits packet left size long (omega arith) i))))

    pub fill_says : (out o₁ o₂ bytes' : List ℕ) (l one next rest : ℕ) → l ≡ left → one ≡ (m.next + 1) % sequences → o₁ ≡ sets out 0 (outer_of m.next (first_of size v)) → o₂ ≡ sets o₁ (header_bytes + size) (line (outers_of (full - 1) size one timestamp (running timestamp (drop (size - l) packet)))) → next ≡ (m.next + full) % sequences → rest ≡ length packet - (full * size - l) → bytes' ≡ sets bytes 0 (take rest (drop (full * size - l) packet)) → SendSays m bytes packet timestamp full out (Ok (full * (header_bytes + size))) (record { size = size; next = next; left = rest; begin = rest; timestamp = timestamp }) bytes' o₂
    fill_says out o₁ o₂ bytes' l one next rest is-left is_one first second number count end =
        record {
          answers = ap Ok (sym (length-line-outers full size m.next timestamp v (omega (arith, length-joined))));
          holds = λ i. record { numbers = record { size = size; next = nexts i; left = lefts i; begin = begins i; timestamp = stamps i }; bytes = (end ∙ ap (sets bytes 0) tail) i };
          leaves =
              second
              ∙ (λ i. sets (first i) ((sym long_first ∙ sym (zero-add (length (outer_of m.next (first_of size v))))) i) (line (outers_of (full - 1) size (is_one i) timestamp (running timestamp (drop (size - is-left i) packet)))))
              ∙ sym (sets-append (outer_of m.next (first_of size v)) (line (outers_of (full - 1) size ((m.next + 1) % sequences) timestamp (running timestamp (drop (size - left) packet)))) out 0)
              ∙ ap (sets out 0) (sym line-outers);
        }
      where
        nexts : next ≡ (m.next + length outers) % sequences
        nexts = number ∙ ap (λ (n : ℕ). (m.next + n) % sequences) (sym (length-outers full size m.next timestamp v))

        tail : take rest (drop (full * size - l) packet) ≡ (rest_of full size timestamp v).bytes
        tail =
            take_all rest (drop (full * size - l) packet) (omega (arith, length-drop (full * size - l) packet, count))
            ∙ ap (λ (n : ℕ). drop (full * size - n) packet) is-left
            ∙ ap (λ (w : Waiting). w.bytes) (sym rest_is)

        long_rest : rest ≡ length (drop (full * size - left) packet)
        long_rest = count ∙ ap (λ (n : ℕ). length packet - (full * size - n)) is-left ∙ sym (length-drop (full * size - left) packet)

        lefts : rest ≡ length (rest_of full size timestamp v).bytes
        lefts = long_rest ∙ ap (λ (w : Waiting). length w.bytes) (sym rest_is)

        begins : rest ≡ (rest_of full size timestamp v).begin
        begins = long_rest ∙ ap (λ (w : Waiting). w.begin) (sym rest_is)

        stamps : timestamp ≡ (rest_of full size timestamp v).timestamp
        stamps = ap (λ (w : Waiting). w.timestamp) (sym rest_is)

        long_first : length (outer_of m.next (first_of size v)) ≡ header_bytes + size
        long_first = length-outer_of m.next (first_of size v) ∙ ap (λ (n : ℕ). header_bytes + n) (length-take-le size v.bytes (omega (arith, length-joined)))

-- ---- how many payloads are full

module _ (n size : ℕ) (some : 1 ≤ size) where
  pub full_most : n < n / size * size + size
  full_most = lt-div-mul-add some

pub once : (k size : ℕ) → 1 ≤ k → size ≤ k * size
once zero size h = absurd (omega arith)
once (suc k) size h = omega (arith, suc-mul k size)

-- What the calls come to, by the code's checks; and that each answer says it. Assumes nothing.
use mathlib.Core.Path.{◌≡◌, refl, sym, ap, ◌∙◌}
use mathlib.Core.Bool.{true}
use mathlib.Core.List.{List, [], ◌∷◌, flat_map, append-nil}
use Prim.Native.Nat.{ℕ, zero, suc, ◌+◌, ◌*◌, ◌/◌, ◌^◌, ◌≤◌, ◌<◌}
use native.Mathlib.Nat.{zero-mul, suc-mul, mul-add, mul-le-mul_left, div-le_self, div-mul-le_self}
use native.Mathlib.Omega.{arith}
use borrow.Author.Tests.{ltb-false, le-ltb, eqb-true, eqb-false, eq-eqb, ne_eqb}
use lib.Dec.{ltb, eqb}
use lib.ListN.{length, take, drop}
use lib.Seq.{sets}
use Rattle.octets.specs.Bits.{Bytes}
use Rattle.octets.specs.Checks.{check}
use Rattle.octets.proofs.Laws.{either, bytes_take}
use Rattle.std.proofs.Common.{Result, Ok, Err}
use Rattle.rtp.specs.Header.{header_bytes}
use Rattle.packets.specs.Packets.{longest_packet, is_carried}
use Rattle.packets.specs.Stored.{line}
use Rattle.packets.proofs.Laws.{is_carried_lem}
use Rattle.wrapper.specs.declared.Numbers.{Numbers}
use Rattle.wrapper.specs.declared.Refusal.{Refusal}
use Rattle.wrapper.specs.declared.Refusal.TheVariants.{ShortOutput}
use Rattle.wrapper.specs.Wrap.{least_size, most_size, most_wrapped, is_size, Writer, left_by, begin_by, Waiting, waiting_in, joined, running, head_bytes, outer_of, outers_of, rest_of, full_in, filled_in, last_in, Sized, Fills, Outcome, unchanged, last_of, given, giving, wrapped, closed, Leaves}
use Rattle.wrapper.proofs.Laws.{size-within, left_less, length_left}
use Rattle.wrapper.proofs.Outers.{outer-stored, length-outer_of}
use Rattle.wrapper.proofs.Later.{length-line-outers}
use Rattle.wrapper.proofs.Fills.{length-joined, full_most, once}

-- ---- what is known once the size and the packet are right

pub sized_is : (m : Numbers) → is_size m.size ≡ true → Sized m
sized_is m sized =
    let s = size-within m.size sized in
    record { least = s.0; most = s.1; less = left_less m (omega (arith, s.0)) }

pub carried_most : (packet : List ℕ) → is_carried packet ≡ true → length packet ≤ longest_packet
carried_most packet t = (is_carried_lem packet t).most

-- the outer packets of so many bytes take at most so many
pub outers_most : (n size : ℕ) → n / size * (header_bytes + size) ≤ 13 * n
outers_most n size = omega (arith, mul-add (n / size) header_bytes size, div-le_self n size, div-mul-le_self n size)

-- and of a packet behind what is left, no more than two of the longest
pub wrote_most : (full size n : ℕ) → least_size ≤ size → size ≤ most_size → full * size ≤ n → n < size + longest_packet → full * (header_bytes + size) ≤ most_wrapped
wrote_most zero size n least most inside short = omega (arith, zero-mul (header_bytes + size))
wrote_most (suc zero) size n least most inside short = omega (arith, suc-mul 0 (header_bytes + size), zero-mul (header_bytes + size))
wrote_most (suc (suc zero)) size n least most inside short =
    omega (arith, suc-mul 1 (header_bytes + size), suc-mul 0 (header_bytes + size), zero-mul (header_bytes + size))
wrote_most (suc (suc (suc k))) size n least most inside short =
    let more : ℕ = suc (suc k) in
    omega (arith, suc-mul more size, suc-mul (suc k) size, suc-mul k size, mul-le-mul_left more least, suc-mul more (header_bytes + size), mul-add more header_bytes size)

-- what is known once a packet's checks are passed
record Passed (m : Numbers) (packet : List ℕ) (space full : ℕ) : Type 0 where
  sized : Sized m
  short : length packet ≤ longest_packet
  is : full ≡ (left_by m + length packet) / m.size
  room : full * (header_bytes + m.size) ≤ space

passed : (m : Numbers) (packet : List ℕ) (space full : ℕ) → filled_in m packet space ≡ Ok full → Passed m packet space full
unfolding filled_in
passed m packet space full e =
    let most : ℕ = (left_by m + length packet) / m.size * (header_bytes + m.size) in
    either (is_size m.size)
    (λ s.
    either (is_carried packet)
    (λ t.
    either (ltb space most) (λ l. absurd (let f = rw (s, t, l) at e in cc))
    (λ l.
    let f : (left_by m + length packet) / m.size ≡ full = (let g = rw (s, t, l) at e in cc) in
    record { sized = sized_is m s; short = carried_most packet t; is = sym f; room = omega (arith, ltb-false space most l, ap (λ (k : ℕ). k * (header_bytes + m.size)) f) }))
    (λ t. absurd (let f = rw (s, t) at e in cc)))
    (λ s. absurd (let f = rw s at e in cc))

-- ---- a packet, by its checks

-- outer packets of so many bytes are given
giving_by : (w : Writer) (output : List ℕ) (outers : List (List ℕ)) (v : Waiting) (n : ℕ) → length (line outers) ≡ n → giving w output outers v ≡ check (ltb (length output) n) (unchanged w output ShortOutput) (given w output outers v)
unfolding giving
giving_by w output outers v n long = ap (λ (n : ℕ). check (ltb (length output) n) (unchanged w output ShortOutput) (given w output outers v)) long

module _ (w : Writer) (output packet : List ℕ) (timestamp : ℕ) (memory : length w.bytes ≡ most_size) where
  abbrev size : ℕ
  size = w.numbers.size

  abbrev v : Waiting
  v = joined (waiting_in w) packet timestamp

  abbrev pub by_filled : Result ℕ Refusal → Outcome
  by_filled (Ok full) = given w output (outers_of full size w.numbers.next timestamp v) (rest_of full size timestamp v)
  by_filled (Err refusal) = unchanged w output refusal

  abbrev full : ℕ
  full = (left_by w.numbers + length packet) / size

  filling_is : is_size size ≡ true → giving w output (outers_of (full_in w v) size w.numbers.next timestamp v) (rest_of (full_in w v) size timestamp v) ≡ check (ltb (length output) (full * (header_bytes + size))) (unchanged w output ShortOutput) (by_filled (Ok full))
  filling_is s =
      let count : full_in w v ≡ full = ap (λ (n : ℕ). n / size) (length-joined w.numbers w.bytes (sized_is w.numbers s) memory packet timestamp) in
      giving_by w output (outers_of (full_in w v) size w.numbers.next timestamp v) (rest_of (full_in w v) size timestamp v) _ (length-line-outers (full_in w v) size w.numbers.next timestamp v (div-mul-le_self (length v.bytes) size))
      ∙ ap (λ (k : ℕ). check (ltb (length output) (k * (header_bytes + size))) (unchanged w output ShortOutput) (by_filled (Ok k))) count

  pub wrapped_is : wrapped w output packet timestamp ≡ by_filled (filled_in w.numbers packet (length output))
  unfolding wrapped filled_in
  wrapped_is =
      either (is_size size)
      (λ s.
      either (is_carried packet)
      (λ t. rw (s, t, filling_is s) (either (ltb (length output) (full * (header_bytes + size))) (λ l. rw l refl) (λ l. rw l refl)))
      (λ t. rw (s, t) refl))
      (λ s. rw s refl)

  pub wrap_says : {r : Result ℕ Refusal} → filled_in w.numbers packet (length output) ≡ r → {a : Result ℕ Refusal} {n : Numbers} {bytes output' : List ℕ} → Leaves (by_filled r) a n bytes output' → Leaves (wrapped w output packet timestamp) a n bytes output'
  wrap_says e says = rw (wrapped_is ∙ ap by_filled e) says

-- what no payload is full of waits; else the packet fills some
pub filled_none : (m : Numbers) (packet : List ℕ) (space : ℕ) → filled_in m packet space ≡ Ok 0 → Sized m × (left_by m + length packet < m.size)
filled_none m packet space e =
    let p = passed m packet space 0 e in
    (p.sized, omega (arith, full_most (left_by m + length packet) m.size (omega (arith, p.sized.least)), ap (λ (k : ℕ). k * m.size) p.is, zero-mul m.size))

pub filled_some : (m : Numbers) (packet : List ℕ) (space full : ℕ) → filled_in m packet space ≡ Ok full → (full ≡ 0 → ⊥) → Fills m packet space full
filled_some m packet space full e some =
    let p = passed m packet space full e in
    let n : ℕ = left_by m + length packet in
    record {
      sized = p.sized;
      short = p.short;
      is = p.is;
      few = omega (arith, p.is, div-le_self n m.size);
      some = omega arith;
      once = once full m.size (omega arith);
      inside = rw p.is (div-mul-le_self n m.size);
      most = rw p.is (full_most n m.size (omega (arith, p.sized.least)));
      room = p.room;
    }

-- ---- the close, likewise

pub last_told : (m : Numbers) (space left : ℕ) → last_in m space ≡ Ok left → Sized m × (left ≡ left_by m) × ((left ≡ 0 → ⊥) → header_bytes + left ≤ space)
unfolding last_in
last_told m space left e =
    either (is_size m.size)
    (λ s.
    either (eqb (left_by m) 0)
    (λ z.
    let f : left_by m ≡ left = (let g = rw (s, z) at e in cc) in
    (sized_is m s, sym f, λ some. absurd (some (sym f ∙ eqb-true (left_by m) 0 z))))
    (λ z.
    either (ltb space (header_bytes + left_by m)) (λ l. absurd (let f = rw (s, z, l) at e in cc))
    (λ l.
    let f : left_by m ≡ left = (let g = rw (s, z, l) at e in cc) in
    (sized_is m s, sym f, λ some. omega (arith, f, ltb-false space (header_bytes + left_by m) l)))))
    (λ s. absurd (let f = rw s at e in cc))

module _ (w : Writer) (output : List ℕ) (memory : length w.bytes ≡ most_size) where
  abbrev pub by_last : Result ℕ Refusal → Outcome
  by_last (Ok left) = given w output (last_of w (waiting_in w)) (running w.numbers.timestamp [])
  by_last (Err refusal) = unchanged w output refusal

  left_long : Sized w.numbers → length (waiting_in w).bytes ≡ left_by w.numbers
  left_long s = length_left w.numbers w.bytes (omega (arith, s.less, s.most, memory))

  abbrev last : List (List ℕ)
  last = outer_of w.numbers.next (waiting_in w) ∷ []

  last_long : Sized w.numbers → length (line last) ≡ header_bytes + left_by w.numbers
  unfolding line flat_map
  last_long s =
      ap length (append-nil (outer_of w.numbers.next (waiting_in w)))
      ∙ length-outer_of w.numbers.next (waiting_in w)
      ∙ ap (λ (n : ℕ). header_bytes + n) (left_long s)

  -- nothing is left
  pub none_last : Sized w.numbers → left_by w.numbers ≡ 0 → last_of w (waiting_in w) ≡ []
  none_last s none = rw (eq-eqb (length (waiting_in w).bytes) 0 (left_long s ∙ none)) refl

  some_last : Sized w.numbers → (left_by w.numbers ≡ 0 → ⊥) → last_of w (waiting_in w) ≡ last
  some_last s some = rw (ne_eqb (length (waiting_in w).bytes) 0 (λ e. some (sym (left_long s) ∙ e))) refl

  closing_is : (outers : List (List ℕ)) (n : ℕ) → is_size w.numbers.size ≡ true → last_of w (waiting_in w) ≡ outers → length (line outers) ≡ n → closed w output ≡ check (ltb (length output) n) (unchanged w output ShortOutput) (by_last (Ok (left_by w.numbers)))
  unfolding closed
  closing_is outers n s is long =
      rw s
      (giving_by w output (last_of w (waiting_in w)) (running w.numbers.timestamp []) n (ap (λ (o : List (List ℕ)). length (line o)) is ∙ long))

  pub closed_is : closed w output ≡ by_last (last_in w.numbers (length output))
  unfolding closed last_in line flat_map
  closed_is =
      let left : ℕ = left_by w.numbers in
      either (is_size w.numbers.size)
      (λ s.
      let r = sized_is w.numbers s in
      either (eqb left 0)
      (λ z. closing_is [] 0 s (none_last r (eqb-true left 0 z)) refl ∙ rw (s, z, le-ltb (length output) 0 (omega arith)) refl)
      (λ z.
      closing_is last (header_bytes + left) s (some_last r (eqb-false left 0 z)) (last_long r)
      ∙ rw (s, z) (either (ltb (length output) (header_bytes + left)) (λ l. rw l refl) (λ l. rw l refl))))
      (λ s. rw s refl)

  pub close_says : {r : Result ℕ Refusal} → last_in w.numbers (length output) ≡ r → {a : Result ℕ Refusal} {n : Numbers} {bytes output' : List ℕ} → Leaves (by_last r) a n bytes output' → Leaves (closed w output) a n bytes output'
  close_says e says = rw (closed_is ∙ ap by_last e) says

  -- something is: as the code stores it
  module _ (s : Sized w.numbers) (left : ℕ) (count : left ≡ left_by w.numbers) (some : left ≡ 0 → ⊥) where
    is_last : last_of w (waiting_in w) ≡ last
    is_last = some_last s (λ e. some (count ∙ e))

    pub close-stored : w.numbers.next < 65536 → w.numbers.timestamp < 2 ^ 32 → Bytes w.bytes → (o₁ o₂ : List ℕ) (begin : ℕ) → begin ≡ begin_by w.numbers → o₁ ≡ sets output 0 (head_bytes w.numbers.next w.numbers.timestamp begin left) → o₂ ≡ sets o₁ header_bytes (take left (drop 0 w.bytes)) → o₂ ≡ sets output 0 (line (last_of w (waiting_in w)))
    unfolding line flat_map
    close-stored short stamp bytes o₁ o₂ begin at first second =
        second
        ∙ (λ i. sets ((first ∙ (λ j. sets output 0 (head_bytes w.numbers.next w.numbers.timestamp (at j) ((count ∙ sym (left_long s)) j)))) i) header_bytes (take (count i) w.bytes))
        ∙ outer-stored w.numbers.next (waiting_in w) short stamp (omega (arith, left_long s, s.less, s.most)) (bytes_take (left_by w.numbers) w.bytes bytes) output 0
        ∙ ap (sets output 0) (sym (append-nil (outer_of w.numbers.next (waiting_in w))))
        ∙ ap (λ (o : List (List ℕ)). sets output 0 (line o)) (sym is_last)

    pub close_wrote : header_bytes + left ≡ length (line (last_of w (waiting_in w)))
    close_wrote = ap (λ (n : ℕ). header_bytes + n) count ∙ sym (last_long s) ∙ ap (λ (o : List (List ℕ)). length (line o)) (sym is_last)

    pub close_counts : 1 ≡ length (last_of w (waiting_in w))
    close_counts = ap (λ (o : List (List ℕ)). length o) (sym is_last)

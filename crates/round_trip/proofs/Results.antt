-- What one call leaves, in any state: the numbers exactly when their checks fail, the outer packets and their lengths, what is left. Assumes nothing.
use mathlib.Core.Path.{◌≡◌, refl, sym, ap, ◌∙◌}
use mathlib.Core.Bool.{Bool, true, false, not, cond, ◌&&◌}
use mathlib.Core.List.{List, [], flat_map, append-nil}
use Rattle.std.proofs.Common.{Result, Ok, Err}
use Prim.Native.Nat.{ℕ, zero, suc, ◌+◌, ◌*◌, ◌/◌, ◌≤◌, ◌<◌}
use native.Mathlib.Nat.{div-mul-le_self}
use native.Mathlib.Omega.{arith}
use borrow.Author.Tests.{ltb-false, eqb-false, le-ltb}
use lib.Dec.{ltb, eqb}
use lib.ListN.{length, take, drop, length-append, length-drop}
use Rattle.octets.specs.Checks.{check}
use Rattle.octets.proofs.Laws.{either}
use Rattle.octets.proofs.Stores.{drop-sets}
use Rattle.rtp.specs.Header.{header_bytes}
use Rattle.packets.specs.Packets.{longest_packet, is_carried}
use Rattle.packets.specs.Stored.{line}
use Rattle.packets.proofs.Laws.{is_carried_lem}
use Rattle.tunnel.proofs.Results.{take_put}
use Rattle.wrapper.specs.declared.Numbers.{Numbers}
use Rattle.wrapper.specs.declared.Refusal.{Refusal}
use Rattle.wrapper.specs.declared.Refusal.TheVariants.{ShortOutput, BadSize, NotCarried}
use Rattle.wrapper.specs.Wrap.{most_size, most_wrapped, is_size, Writer, writer, left_by, Waiting, waiting_in, joined, running, outer_of, outers_of, rest_of, wrapped_values, Outcome, unchanged, given, giving, full_in, filled_in, last_in, wrapped, last_of, closed, Leaves}
use Rattle.wrapper.proofs.Laws.{refusal_within, size-within, left_less, begin_most}
use Rattle.wrapper.proofs.Outers.{length-outer_of}
use Rattle.wrapper.proofs.Later.{length-line-outers}
use Rattle.wrapper.proofs.Answers.{wrote_most, by_filled, wrapped_is, by_last, closed_is}
use Rattle.round_trip.specs.Calls.{Same, EndToEnd, Full, Last}
use Rattle.round_trip.proofs.Lengths.{outers_full, none_left, waits_less}

-- ---- by what a call comes to

module _ (w : Writer) (output : List ℕ) where
  abbrev size : ℕ
  size = w.numbers.size

  -- a packet behind what waits, the outer packets that both fill, and what waits behind these
  module _ (packet : List ℕ) (timestamp : ℕ) where
    abbrev pub waiting_with : Waiting
    waiting_with = joined (waiting_in w) packet timestamp

    abbrev pub filled : List (List ℕ)
    filled = outers_of (full_in w waiting_with) size w.numbers.next timestamp waiting_with

    abbrev pub unfilled : Waiting
    unfilled = rest_of (full_in w waiting_with) size timestamp waiting_with

  -- what waits, as an outer packet, and nothing
  abbrev pub last : List (List ℕ)
  last = last_of w (waiting_in w)

  abbrev pub nothing : Waiting
  nothing = running w.numbers.timestamp []

  module _ (P : Outcome → Type 0) (refused : (a : Refusal) → P (unchanged w output a)) where
    giving_cases : (outers : List (List ℕ)) (v : Waiting) → (length (line outers) ≤ length output → P (given w output outers v)) → P (giving w output outers v)
    unfolding giving
    giving_cases outers v gives =
        either (ltb (length output) (length (line outers))) (λ e. rw e (refused ShortOutput))
        (λ e. rw e (gives (ltb-false (length output) (length (line outers)) e)))

    sized_cases : (u : Outcome) → (is_size size ≡ true → P u) → P (check (not (is_size size)) (unchanged w output BadSize) u)
    sized_cases u sized = either (is_size size) (λ t. rw t (sized t)) (λ t. rw t (refused BadSize))

    pub write_cases : (packet : List ℕ) (timestamp : ℕ) → (is_size size ≡ true → is_carried packet ≡ true → length (line (filled packet timestamp)) ≤ length output → P (given w output (filled packet timestamp) (unfilled packet timestamp))) → P (wrapped w output packet timestamp)
    unfolding wrapped
    write_cases packet timestamp gives =
        sized_cases _
        (λ s.
        either (is_carried packet) (λ t. rw t (giving_cases (filled packet timestamp) (unfilled packet timestamp) (gives s t)))
        (λ t. rw t (refused NotCarried)))

    pub close_cases : (is_size size ≡ true → length (line last) ≤ length output → P (given w output last nothing)) → P (closed w output)
    unfolding closed
    close_cases gives = sized_cases (giving w output last nothing) (λ s. giving_cases last nothing (gives s))

  -- ---- a refusal changes nothing; the outer packets stand end to end at the start of the output, and nothing else of it changes

  abbrev Told : Outcome → Type 0
  Told u = (((wrapped_values u.answer).number ≡ 0 → ⊥) → Same w output u) × EndToEnd output u

  told_refused : (a : Refusal) → Told (unchanged w output a)
  unfolding line flat_map
  told_refused a = (λ h. (refl, refl, refl, refl), (refl, refl, refl))

  told_given : (outers : List (List ℕ)) (v : Waiting) → length (line outers) ≤ length output → Told (given w output outers v)
  told_given outers v room = (λ h. absurd (h refl), (refl, take_put (line outers) output room, drop-sets (line outers) output 0 (length (line outers)) (omega arith)))

  module _ (packet : List ℕ) (timestamp : ℕ) where
    write_told : Told (wrapped w output packet timestamp)
    write_told = write_cases Told told_refused packet timestamp (λ s c. told_given (filled packet timestamp) (unfilled packet timestamp))

    pub write_refused_same : ((wrapped_values (wrapped w output packet timestamp).answer).number ≡ 0 → ⊥) → Same w output (wrapped w output packet timestamp)
    write_refused_same = write_told.0

    pub write_end_to_end : EndToEnd output (wrapped w output packet timestamp)
    write_end_to_end = write_told.1

  close_told : Told (closed w output)
  close_told = close_cases Told told_refused (λ s. told_given last nothing)

  pub close_refused_same : ((wrapped_values (closed w output).answer).number ≡ 0 → ⊥) → Same w output (closed w output)
  close_refused_same = close_told.0

  pub close_end_to_end : EndToEnd output (closed w output)
  close_end_to_end = close_told.1

  -- ---- the outer packets' lengths

  filled_full : (packet : List ℕ) (timestamp : ℕ) → Full size (filled packet timestamp)
  filled_full packet timestamp =
      let v : Waiting = waiting_with packet timestamp in
      outers_full size timestamp (full_in w v) w.numbers.next v (div-mul-le_self (length v.bytes) size)

  pub write-outers_full : (packet : List ℕ) (timestamp : ℕ) → Full size (wrapped w output packet timestamp).outers
  write-outers_full packet timestamp =
      write_cases (λ u. Full size u.outers) (λ a. tt) packet timestamp (λ s c room. filled_full packet timestamp)

  last_shorter : (v : Waiting) → length v.bytes < size → Last size (last_of w v)
  last_shorter v less =
      let long = length-outer_of w.numbers.next v in
      either (eqb (length v.bytes) 0) (λ t. rw t (omega arith, tt))
      (λ t. rw t (omega arith, ((omega (arith, long, eqb-false (length v.bytes) 0 t), omega (arith, long)), tt)))

  last_length : (v : Waiting) → length (line (last_of w v)) ≡ cond (eqb (length v.bytes) 0) 0 (header_bytes + length v.bytes)
  unfolding line flat_map
  last_length v =
      either (eqb (length v.bytes) 0) (λ t. rw t refl)
      (λ t. rw t (ap length (append-nil (outer_of w.numbers.next v)) ∙ length-outer_of w.numbers.next v))

  pub close-outers-short : Last size (closed w output).outers
  close-outers-short =
      close_cases (λ u. Last size u.outers) (λ a. (omega arith, tt))
      (λ s room. last_shorter (waiting_in w) (waits_less w (omega (arith, size-within size s))))

  -- ---- what is left

  pub write-leaves_less : (packet : List ℕ) (timestamp : ℕ) → is_size size ≡ true → length (waiting_in (wrapped w output packet timestamp).writer).bytes < size
  write-leaves_less packet timestamp s =
      let some : 0 < size = omega (arith, size-within size s) in
      write_cases (λ u. length (waiting_in u.writer).bytes < size) (λ a. waits_less w some) packet timestamp (λ s c room. waits_less _ some)

  pub close-leaves_none : (wrapped_values (closed w output).answer).number ≡ 0 → (waiting_in (closed w output).writer).bytes ≡ []
  close-leaves_none =
      close_cases (λ u. (wrapped_values u.answer).number ≡ 0 → (waiting_in u.writer).bytes ≡ []) (λ a z. absurd (omega (arith, refusal_within a)))
      (λ s room z. ap (λ (n : ℕ). take n w.bytes) (none_left _ refl))

  -- ---- the numbers, each exactly when its check comes first

  module _ (memory : length w.bytes ≡ most_size) where
    last_number : (a z : Bool) (n left : ℕ) → (wrapped_values (by_last w output memory (check (not a) (Err BadSize) (check (not z && ltb (length output) n) (Err ShortOutput) (Ok left)))).answer).number ≡ check (not a) 18 (check (ltb (length output) (cond z 0 n)) 1 0)
    last_number false z n left = refl
    last_number true true n left = rw (le-ltb (length output) 0 (omega arith)) refl
    last_number true false n left = either (ltb (length output) n) (λ l. rw l refl) (λ l. rw l refl)

    pub close-number_exactly : (wrapped_values (closed w output).answer).number ≡ check (not (is_size size)) 18 (check (ltb (length output) (cond (eqb (left_by w.numbers) 0) 0 (header_bytes + left_by w.numbers))) 1 0)
    unfolding last_in
    close-number_exactly =
        ap (λ (u : Outcome). (wrapped_values u.answer).number) (closed_is w output memory)
        ∙ last_number (is_size size) (eqb (left_by w.numbers) 0) (header_bytes + left_by w.numbers) (left_by w.numbers)

    module _ (packet : List ℕ) (timestamp : ℕ) where
      filled_number : (a b c : Bool) (full : ℕ) → (wrapped_values (by_filled w output packet timestamp memory (check (not a) (Err BadSize) (check (not b) (Err NotCarried) (check c (Err ShortOutput) (Ok full))))).answer).number ≡ check (not a) 18 (check (not b) 19 (check c 1 0))
      filled_number false b c full = refl
      filled_number true false c full = refl
      filled_number true true true full = refl
      filled_number true true false full = refl

      pub write-number_exactly : (wrapped_values (wrapped w output packet timestamp).answer).number ≡ check (not (is_size size)) 18 (check (not (is_carried packet)) 19 (check (ltb (length output) ((left_by w.numbers + length packet) / size * (header_bytes + size))) 1 0))
      unfolding filled_in
      write-number_exactly =
          ap (λ (u : Outcome). (wrapped_values u.answer).number) (wrapped_is w output packet timestamp memory)
          ∙ filled_number (is_size size) (is_carried packet) (ltb (length output) ((left_by w.numbers + length packet) / size * (header_bytes + size))) _

-- ---- how great the numbers are

-- those of a state that fit in two bytes
abbrev pub Small : Numbers → Type 0
Small m = (m.size < 65536) × (m.left < 65536) × (m.begin < 65536)

rest-short : (k size timestamp most : ℕ) (v : Waiting) → length v.bytes ≤ most → v.begin ≤ most → let r = rest_of k size timestamp v in (length r.bytes ≤ most) × (r.begin ≤ most)
unfolding rest_of
rest-short zero size timestamp most v h b = (h, b)
rest-short (suc k) size timestamp most v h b =
    let less : length (drop size v.bytes) ≤ most = omega (arith, length-drop size v.bytes) in
    rest-short k size timestamp most (running timestamp (drop size v.bytes)) less less

module _ (w : Writer) (output : List ℕ) where
  joined-short : is_size w.numbers.size ≡ true → (packet : List ℕ) (timestamp : ℕ) → is_carried packet ≡ true → let v = joined (waiting_in w) packet timestamp in (length v.bytes < w.numbers.size + longest_packet) × (v.begin < w.numbers.size + longest_packet)
  joined-short s packet timestamp c =
      let some : 0 < w.numbers.size = omega (arith, size-within w.numbers.size s) in
      (omega (arith, length-append (waiting_in w).bytes packet, waits_less w some, (is_carried_lem packet c).most), omega (arith, begin_most w.numbers, left_less w.numbers some))

  pub write_most : (packet : List ℕ) (timestamp : ℕ) → (wrapped_values (wrapped w output packet timestamp).answer).wrote ≤ most_wrapped
  write_most packet timestamp =
      write_cases w output (λ u. (wrapped_values u.answer).wrote ≤ most_wrapped) (λ a. omega arith) packet timestamp
      (λ s c room.
      let v : Waiting = joined (waiting_in w) packet timestamp in
      let n : ℕ = length v.bytes in
      let size : ℕ = w.numbers.size in
      let within = size-within size s in
      omega (arith, length-line-outers (full_in w v) size w.numbers.next timestamp v (div-mul-le_self n size), wrote_most (n / size) size n within.0 within.1 (div-mul-le_self n size) (joined-short s packet timestamp c).0))

  pub close_most : (wrapped_values (closed w output).answer).wrote ≤ most_wrapped
  close_most =
      close_cases w output (λ u. (wrapped_values u.answer).wrote ≤ most_wrapped) (λ a. omega arith)
      (λ s room.
      let within = size-within w.numbers.size s in
      let n : ℕ = length (waiting_in w).bytes in
      let less : n < w.numbers.size = waits_less w (omega (arith, within.0)) in
      rw (last_length w output (waiting_in w)) (either (eqb n 0) (λ t. rw t (omega arith)) (λ t. rw t (omega (arith, less, within.1)))))

  pub write_small : Small w.numbers → (packet : List ℕ) (timestamp : ℕ) → Small (wrapped w output packet timestamp).writer.numbers
  write_small small packet timestamp =
      write_cases w output (λ u. Small u.writer.numbers) (λ a. small) packet timestamp
      (λ s c room.
      let v : Waiting = joined (waiting_in w) packet timestamp in
      let j = joined-short s packet timestamp c in
      let within = size-within w.numbers.size s in
      let r = rest-short (full_in w v) w.numbers.size timestamp (most_size + longest_packet) v (omega (arith, j.0, within.1)) (omega (arith, j.1, within.1)) in
      (small.0, omega (arith, r.0), omega (arith, r.1)))

  pub close_small : Small w.numbers → Small (closed w output).writer.numbers
  close_small small = close_cases w output (λ u. Small u.writer.numbers) (λ a. small) (λ s room. (small.0, omega arith, omega arith))

-- two results can't both meet the statement
pub one_result : {u : Outcome} {a b : Result ℕ Refusal} {m n : Numbers} {p p' o o' : List ℕ} → Leaves u a m p o → Leaves u b n p' o' → (a ≡ b) × (writer m p ≡ writer n p') × (o ≡ o')
one_result s t = (s.answers ∙ sym t.answers, s.holds ∙ sym t.holds, s.leaves ∙ sym t.leaves)

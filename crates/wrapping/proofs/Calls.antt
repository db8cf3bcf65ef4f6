-- A call with an output that is long enough: what it gives is at most so much, and does not depend on the output. Assumes nothing.
use mathlib.Core.Path.{◌≡◌, refl}
use mathlib.Core.Bool.{true, not}
use mathlib.Core.List.{List, [], flat_map}
use Prim.Native.Nat.{ℕ, ◌+◌, ◌*◌, ◌-◌, ◌≤◌}
use native.Mathlib.Nat.{mul-le-mul_left, div-mul-le_self}
use native.Mathlib.Omega.{arith}
use borrow.Author.Tests.{le-ltb}
use lib.Dec.{eqb}
use lib.ListN.{length, length-append, length-replicate}
use Rattle.octets.specs.Checks.{check}
use Rattle.octets.proofs.Laws.{either}
use Rattle.rtp.specs.Header.{header_bytes}
use Rattle.packets.specs.Packets.{is_carried}
use Rattle.packets.specs.Stored.{line}
use Rattle.reports.specs.Reports.{longest_report}
use Rattle.wrapper.specs.declared.Refusal.TheVariants.{BadSize}
use Rattle.wrapper.specs.Wrap.{is_size, Writer, Waiting, waiting_in, outer_of, full_in, last_of, Outcome, unchanged, giving, wrapped, closed}
use Rattle.wrapper.proofs.Laws.{size-within}
use Rattle.wrapper.proofs.Outers.{length-outer_of}
use Rattle.wrapper.proofs.Answers.{carried_most}
use Rattle.wrapper.proofs.Later.{length-outers, length-line-outers}
use Rattle.round_trip.proofs.Lengths.{waits_less}
use Rattle.round_trip.proofs.Results.{waiting_with, filled, write_cases, write-outers_full}
use Rattle.wrapping.specs.Wrapping.{record_head_bytes, outer_records, longest_output, long_output}
use Rattle.wrapping.proofs.Outers.{length-records_even}

pub output_long : longest_output ≤ length long_output
unfolding long_output
output_long = omega (arith, length-replicate {A = ℕ} longest_output 0)

-- ---- two results that differ in the output only

pub record Alike (u v : Outcome) : Type 0 where
  pub answer : u.answer ≡ v.answer
  pub writer : u.writer ≡ v.writer
  pub outers : u.outers ≡ v.outers

module _ (w : Writer) (o p : List ℕ) where
  giving_alike : (outers : List (List ℕ)) (v : Waiting) → length (line outers) ≤ length o → length (line outers) ≤ length p → Alike (giving w o outers v) (giving w p outers v)
  unfolding giving
  giving_alike outers v h k = rw (le-ltb (length o) (length (line outers)) h, le-ltb (length p) (length (line outers)) k) (record { answer = refl; writer = refl; outers = refl })

  sized_alike : (u v : Outcome) → (is_size w.numbers.size ≡ true → Alike u v) → Alike (check (not (is_size w.numbers.size)) (unchanged w o BadSize) u) (check (not (is_size w.numbers.size)) (unchanged w p BadSize) v)
  sized_alike u v like = either (is_size w.numbers.size) (λ t. rw t (like t)) (λ t. rw t (record { answer = refl; writer = refl; outers = refl }))

-- ---- a packet

module _ (w : Writer) (packet : List ℕ) (timestamp : ℕ) where
  abbrev size : ℕ
  size = w.numbers.size

  abbrev each : ℕ
  each = header_bytes + size

  abbrev room : ℕ
  room = longest_output - longest_report

  module _ (output : List ℕ) where
    abbrev v : Waiting
    v = waiting_with w output packet timestamp

    -- as records, the outer packets that it fills leave room for a line of the report
    full_room : is_size size ≡ true → is_carried packet ≡ true → full_in w v * (record_head_bytes + each) ≤ room
    full_room s c =
        let within = size-within size s in
        omega (arith, within, mul-le-mul_left (full_in w v) within.0, div-mul-le_self (length v.bytes) size, length-append (waiting_in w).bytes packet, waits_less w (omega (arith, within)), carried_most packet c)

    filled-short : is_size size ≡ true → is_carried packet ≡ true → length (line (filled w output packet timestamp)) ≤ longest_output
    filled-short s c =
        omega (arith, length-line-outers (full_in w v) size w.numbers.next timestamp v (div-mul-le_self (length v.bytes) size), full_room s c)

    write_room : length (wrapped w output packet timestamp).outers * (record_head_bytes + each) ≤ room
    write_room =
        write_cases w output (λ u. length u.outers * (record_head_bytes + each) ≤ room) (λ a. omega arith) packet timestamp
        (λ s c fits. rw (length-outers (full_in w v) size w.numbers.next timestamp v) (full_room s c))

    pub write-records : length (outer_records (wrapped w output packet timestamp).outers) ≤ longest_output - longest_report
    write-records =
        omega (arith, length-records_even each (wrapped w output packet timestamp).outers (write-outers_full w output packet timestamp), write_room)

    pub write-size : (wrapped w output packet timestamp).writer.numbers.size ≡ w.numbers.size
    write-size = write_cases w output (λ u. u.writer.numbers.size ≡ size) (λ a. refl) packet timestamp (λ s c fits. refl)

  pub write_alike : (o p : List ℕ) → longest_output ≤ length o → longest_output ≤ length p → Alike (wrapped w o packet timestamp) (wrapped w p packet timestamp)
  unfolding wrapped
  write_alike o p h k =
      sized_alike w o p _ _
      (λ s.
      either (is_carried packet)
      (λ c. rw c (giving_alike w o p _ _ (omega (arith, filled-short o s c)) (omega (arith, filled-short p s c))))
      (λ c. rw c (record { answer = refl; writer = refl; outers = refl })))

-- ---- the close

module _ (w : Writer) where
  last_short : is_size w.numbers.size ≡ true → length (line (last_of w (waiting_in w))) ≤ longest_output
  unfolding line flat_map
  last_short s =
      let v : Waiting = waiting_in w in
      let within = size-within w.numbers.size s in
      let outer : List ℕ = outer_of w.numbers.next v in
      either (eqb (length v.bytes) 0) (λ t. rw t (omega arith))
      (λ t. rw t (omega (arith, length-append outer [], length-outer_of w.numbers.next v, waits_less w (omega (arith, within)), within)))

  pub close_alike : (o p : List ℕ) → longest_output ≤ length o → longest_output ≤ length p → Alike (closed w o) (closed w p)
  unfolding closed
  close_alike o p h k =
      sized_alike w o p _ _ (λ s. giving_alike w o p _ _ (omega (arith, last_short s)) (omega (arith, last_short s)))

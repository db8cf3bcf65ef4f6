-- Where the writer stands in the line of the packets that it took: between two calls, and after each. Assumes nothing.
use mathlib.Core.Path.{◌≡◌, refl, sym, ap, ◌∙◌}
use mathlib.Core.Bool.{true, cond}
use mathlib.Core.List.{List, [], ◌∷◌, ◌++◌, flat_map, append-nil}
use Prim.Native.Nat.{ℕ, ◌+◌, ◌*◌, ◌%◌, ◌^◌, ◌≤◌, ◌<◌}
use native.Mathlib.Nat.{add-zero, div-mul-le_self, lt-div-mul-add}
use native.Mathlib.Omega.{arith}
use borrow.Author.Tests.{ltb-false, eqb-true, lt-ltb, ne_eqb}
use lib.Dec.{ltb, eqb}
use lib.ListN.{length, take, drop, length-append}
use lib.Seq.{take-length, drop-append-le, sets, length-sets}
use Rattle.octets.specs.Each.{Each}
use Rattle.octets.proofs.Laws.{either, each_append}
use Rattle.rtp.specs.Header.{header_bytes, sequences}
use Rattle.packets.specs.Stored.{line}
use Rattle.packets.proofs.Laws.{is_carried_lem}
use Rattle.tunnel.specs.Outer.{longest_outer}
use Rattle.tunnel.proofs.Found.{line-append}
use Rattle.tunnel.proofs.Results.{take_put}
use Rattle.wrapper.specs.declared.Refusal.{Refusal}
use Rattle.wrapper.specs.Wrap.{most_size, is_size, Writer, left_by, begin_by, Waiting, waiting_in, outer_of, outers_of, refusal_number, Outcome, unchanged, holding, given, full_in}
use Rattle.carriage.specs.Sent.{Sendable, Choice, Fits, taken, sent}
use Rattle.carriage.proofs.Outers.{outer_sent}
use Rattle.round_trip.specs.Trips.{Call, write, close, Fair, called, taken_by}
use Rattle.wrapper.proofs.Laws.{refusal_within, size-within}
use Rattle.round_trip.proofs.Lengths.{waits_less}
use Rattle.round_trip.proofs.Results.{waiting_with, filled, unfilled, last, nothing, write_cases, close_cases}
use Rattle.round_trip.proofs.Parts.{taken_append, sent_count}
use Rattle.round_trip.proofs.Begins.{begin_most, begin_more, begin_end}
use Rattle.round_trip.proofs.Cuts.{chosen, chosen_for, chosen_taken, chosen_fits, all_fit, Waits, waits-length, waits_end, outer-sent, outers-sent, rest-stamp}

-- what waits after a call is what was put there
waits_held : (w : Writer) (k : ℕ) (v : Waiting) → length v.bytes ≤ length w.bytes → length v.bytes < w.numbers.size → v.begin ≤ length v.bytes → waiting_in (holding w k v) ≡ v
unfolding left_by begin_by
waits_held w k v room less inside =
    let left : left_by (holding w k v).numbers ≡ length v.bytes = rw (lt-ltb (length v.bytes) w.numbers.size less) refl in
    let bytes = ap (λ (n : ℕ). take n (sets w.bytes 0 v.bytes)) left ∙ take_put v.bytes w.bytes room in
    let begin : cond (ltb v.begin (length v.bytes)) v.begin (length v.bytes) ≡ v.begin =
    either (ltb v.begin (length v.bytes)) (λ t. rw t refl) (λ t. rw t (omega (arith, ltb-false v.begin (length v.bytes) t))) in
    let begun = ap (λ (n : ℕ). cond (ltb v.begin n) v.begin n) left ∙ begin in
    λ i. record { bytes = bytes i; begin = begun i; timestamp = v.timestamp }

-- ---- between two calls: so many payloads of the line of these packets are given, numbered from the first on, and what is behind them waits

pub record Stands (first : ℕ) (packets : List (List ℕ)) (cs : List Choice) (w : Writer) : Type 0 where
  pub sized : is_size w.numbers.size ≡ true
  pub memory : length w.bytes ≡ most_size
  pub next : w.numbers.next ≡ (first + length cs) % sequences
  pub stamp : w.numbers.timestamp < 2 ^ 32
  pub sendable : Each Sendable packets
  pub fits : Each Fits cs
  pub waits : Waits packets (taken cs) (waiting_in w)

-- ---- after one: more packets, and more payloads

pub record Stepped (first : ℕ) (packets more : List (List ℕ)) (cs : List Choice) (u : Outcome) : Type 0 where
  pub choices : List Choice
  pub are : u.outers ≡ sent (packets ++ more) (first + length cs) (taken cs) choices
  pub stands : Stands first (packets ++ more) (cs ++ choices) u.writer

module _ (first : ℕ) (packets : List (List ℕ)) (cs : List Choice) (w : Writer) (s : Stands first packets cs w) (output : List ℕ) where
  -- the number of the next outer packet, and its place of the line
  abbrev n : ℕ
  n = first + length cs

  abbrev at : ℕ
  at = taken cs

  abbrev size : ℕ
  size = w.numbers.size

  some : 0 < size
  some = omega (arith, size-within size s.sized)

  most : header_bytes + size ≤ longest_outer
  most = omega (arith, size-within size s.sized)

  given-stepped : (more : List (List ℕ)) (ds : List Choice) (outers : List (List ℕ)) (v : Waiting) → Each Sendable (packets ++ more) → Each Fits ds → outers ≡ sent (packets ++ more) n at ds → Waits (packets ++ more) (at + taken ds) v → length v.bytes < size → v.timestamp < 2 ^ 32 → Stepped first packets more cs (given w output outers v)
  given-stepped more ds outers v sendable fits are waits less stamp =
      let inside : v.begin ≤ length v.bytes = omega (arith, waits.begin, waits-length waits, begin_most (packets ++ more) (at + taken ds)) in
      let held = waits_held w (length outers) v (omega (arith, s.memory, size-within size s.sized)) less inside in
      record {
        choices = ds;
        are = are;
        stands =
            record {
              sized = s.sized;
              memory = length-sets w.bytes 0 v.bytes ∙ s.memory;
              next = omega (arith, s.next, ap length are, sent_count (packets ++ more) n at ds, length-append cs ds);
              stamp = stamp;
              sendable = sendable;
              fits = each_append Fits cs ds s.fits fits;
              waits = rw (taken_append cs ds, held) waits;
            };
      }

  refused_stepped : (a : Refusal) → Stepped first packets [] cs (unchanged w output a)
  unfolding sent
  refused_stepped a = record { choices = []; are = refl; stands = rw (append-nil packets, append-nil cs) s }

  -- ---- a packet is taken

  module _ (packet : List ℕ) (timestamp : ℕ) (sendable : Sendable packet) (short : timestamp < 2 ^ 32) where
    abbrev packets' : List (List ℕ)
    packets' = packets ++ (packet ∷ [])

    abbrev v : Waiting
    v = waiting_with w output packet timestamp

    abbrev k : ℕ
    k = full_in w v

    line_next : line packets' ≡ line packets ++ packet
    unfolding line flat_map
    line_next = line-append packets (packet ∷ []) ∙ ap (λ (xs : List ℕ). line packets ++ xs) (append-nil packet)

    waits_with : Waits packets' at v
    waits_with =
        let within = s.waits.within in
        record {
          within = omega (arith, within, ap length line_next, length-append (line packets) packet);
          bytes =
              ap (λ (xs : List ℕ). xs ++ packet) s.waits.bytes
              ∙ sym (ap (drop at) line_next ∙ drop-append-le at (line packets) packet within);
          begin = rw (begin_more packets (packet ∷ []) at within) s.waits.begin;
        }

    early : v.timestamp < 2 ^ 32
    early = either (eqb (length (waiting_in w).bytes) 0) (λ t. rw t short) (λ t. rw t s.stamp)

    abbrev ds : List Choice
    ds = chosen_for k size v.timestamp timestamp

    abbrev rest : Waiting
    rest = unfilled w output packet timestamp

    filled-cut : (outers_of k size (n % sequences) timestamp v ≡ sent packets' n at ds) × Waits packets' (at + k * size) rest
    filled-cut =
        outers-sent packets' size timestamp (length (line packets)) (begin_end packets packet) k n at v waits_with
        (omega (arith, waits-length s.waits, waits_less w some))
        (omega (arith, waits-length waits_with, waits_with.within, div-mul-le_self (length v.bytes) size))

    rest_less : length rest.bytes < size
    rest_less = omega (arith, some, waits-length waits_with, waits-length filled-cut.1, lt-div-mul-add {a = length v.bytes} some)

    written_stepped : Stepped first packets (packet ∷ []) cs (given w output (filled w output packet timestamp) rest)
    written_stepped =
        given-stepped (packet ∷ []) ds (filled w output packet timestamp) rest (each_append Sendable packets (packet ∷ []) s.sendable (sendable, tt))
        (all_fit k size v.timestamp timestamp most early short)
        (ap (λ (q : ℕ). outers_of k size q timestamp v) s.next ∙ filled-cut.0)
        (rw (chosen_taken k size v.timestamp timestamp) filled-cut.1)
        rest_less
        (rest-stamp k size timestamp v early short)

  -- ---- the close

  abbrev left : Waiting
  left = waiting_in w

  last_cut : outer_of w.numbers.next left ≡ outer_sent packets n at (chosen (length left.bytes) left.timestamp)
  last_cut =
      let m : ℕ = length left.bytes in
      (λ i. outer_of (s.next i) (record { bytes = sym (take-length left.bytes) i; begin = left.begin; timestamp = left.timestamp }))
      ∙ outer-sent packets n at m left s.waits (omega (arith, waits-length s.waits, s.waits.within))

  -- with no payload more, or one
  end_stepped : (outers : List (List ℕ)) (ds : List Choice) → Each Fits ds → outers ≡ sent packets n at ds → taken ds ≡ length left.bytes → Stepped first packets [] cs (given w output outers (nothing w output))
  end_stepped outers ds fits are all =
      let end = waits_end packets (at + taken ds) w.numbers.timestamp (omega (arith, waits-length s.waits, s.waits.within)) in
      given-stepped [] ds outers (nothing w output) (rw (append-nil packets) s.sendable) fits (rw (append-nil packets) are) (rw (append-nil packets) end) some
      s.stamp

  closed-stepped : Stepped first packets [] cs (given w output (last w output) (nothing w output))
  unfolding sent
  closed-stepped =
      let m : ℕ = length left.bytes in
      let fits = chosen_fits m left.timestamp (omega (arith, most, waits_less w some)) s.stamp in
      either (eqb m 0) (λ t. rw t (end_stepped [] [] tt refl (sym (eqb-true m 0 t))))
      (λ t. rw t (end_stepped (outer_of w.numbers.next left ∷ []) (chosen m left.timestamp ∷ []) (fits, tt) (ap (λ (o : List ℕ). o ∷ []) last_cut) (add-zero m)))

-- ---- any call

pub stepped : (first : ℕ) (packets : List (List ℕ)) (cs : List Choice) (w : Writer) → Stands first packets cs w → (c : Call) → Fair c → Stepped first packets (taken_by c (called w c)) cs (called w c)
stepped first packets cs w s (write packet timestamp output) fair =
    write_cases w output (λ u. Stepped first packets (taken_by (write packet timestamp output) u) cs u)
    (λ a. rw (ne_eqb (refusal_number a) 0 (λ e. omega (arith, refusal_within a))) (refused_stepped first packets cs w s output a))
    packet timestamp
    (λ sized c room. written_stepped first packets cs w s output packet timestamp (record { carried = is_carried_lem packet c; bytes = fair.0 }) fair.1)
stepped first packets cs w s (close output) fair =
    close_cases w output (Stepped first packets [] cs) (λ a. refused_stepped first packets cs w s output a)
    (λ sized room. closed-stepped first packets cs w s output)

-- A writer's outer packets are a tunnel that is sent; what a fresh reader gives back of them. Assumes nothing.
use mathlib.Core.Path.{◌≡◌, refl, sym, ap, ap₂, ◌∙◌}
use mathlib.Core.Bool.{true}
use mathlib.Core.Logic.{inl}
use mathlib.Core.List.{List, [], ◌∷◌, ◌++◌, map, flat_map, append_assoc, append-nil}
use Prim.Native.Nat.{ℕ, ◌+◌, ◌≤◌, ◌<◌}
use native.Mathlib.Omega.{arith}
use lib.ListN.{length, take, length-append, take-append-drop}
use Rattle.octets.specs.Each.{Each}
use Rattle.rtp.specs.Header.{sequences}
use Rattle.packets.specs.Packets.{longest_packet}
use Rattle.packets.specs.Stored.{line}
use Rattle.tunnel.specs.Outer.{is_outer}
use Rattle.tunnel.specs.Unwrap.{reader, fresh_numbers}
use Rattle.tunnel.proofs.Found.{start-nothing}
use Rattle.wrapper.specs.Wrap.{most_size, is_size, Writer, left_by, begin_by, Outcome}
use Rattle.carriage.specs.Sent.{Sendable, Choice, taken, between, sent}
use Rattle.carriage.specs.Fed.{Call as Read-as-Call, fed, out_of, Read, Long, TakesUp, Feeds}
use Rattle.carriage.proofs.InOrder.{sent-append, in_order_lem}
use Rattle.round_trip.specs.Trips.{Call, Fair, called, given, fresh, after, left_after, outers_in, taken_by, taken_in, payloads_in, apart}
use Rattle.round_trip.proofs.Lengths.{none_left}
use Rattle.round_trip.proofs.Begins.{sent_more}
use Rattle.round_trip.proofs.Cuts.{waits-length}
use Rattle.round_trip.proofs.Stands.{Stands, Stepped, stepped}
use Rattle.round_trip.proofs.Parts.{between_all, taken_append, sent-outers, sent_payloads}
use Rattle.round_trip.proofs.Gaps.{gap-apart}

-- ---- any number of calls

-- what they give is sent, behind the payloads that were given before
record Gone (first : ℕ) (packets : List (List ℕ)) (cs : List Choice) (w : Writer) (calls : List Call) : Type 0 where
  choices : List Choice
  are : outers_in (given w calls) ≡ sent (packets ++ taken_in w calls) (first + length cs) (taken cs) choices
  stands : Stands first (packets ++ taken_in w calls) (cs ++ choices) (after w calls)

gone : (first : ℕ) (packets : List (List ℕ)) (cs : List Choice) (w : Writer) → Stands first packets cs w → (calls : List Call) → Each Fair calls → Gone first packets cs w calls
unfolding given taken_in sent flat_map
gone first packets cs w s [] fair = record { choices = []; are = refl; stands = rw (append-nil packets, append-nil cs) s }
gone first packets cs w s (c ∷ calls) fair =
    let u : Outcome = called w c in
    let one : Stepped first packets (taken_by c u) cs u = stepped first packets cs w s c fair.0 in
    let ps : List (List ℕ) = packets ++ taken_by c u in
    let ds : List Choice = one.choices in
    let rest : Gone first ps (cs ++ ds) u.writer calls = gone first ps (cs ++ ds) u.writer one.stands calls fair.1 in
    let more : List (List ℕ) = taken_in u.writer calls in
    let es : List Choice = rest.choices in
    let all : ps ++ more ≡ packets ++ (taken_by c u ++ more) = append_assoc packets (taken_by c u) more in
    let number : first + length (cs ++ ds) ≡ first + length cs + length ds = omega (arith, length-append cs ds) in
    let place : taken (cs ++ ds) ≡ taken cs + taken ds = taken_append cs ds in
    record {
      choices = ds ++ es;
      are =
          ap₂ ◌++◌ (one.are ∙ sym (sent_more ps more (first + length cs) (taken cs) ds (omega (arith, place, one.stands.waits.within))))
          (rest.are ∙ ap₂ (λ (n at : ℕ). sent (ps ++ more) n at es) number place)
          ∙ sym (sent-append (ps ++ more) (first + length cs) (taken cs) ds es)
          ∙ ap (λ (qs : List (List ℕ)). sent qs (first + length cs) (taken cs) (ds ++ es)) all;
      stands = rw (all, append_assoc cs ds es) at rest.stands;
    }

-- ---- a fresh reader takes up any tunnel

fresh-takes : (part : List ℕ) → length part ≡ longest_packet → (reads : List Read-as-Call) → TakesUp (reader fresh_numbers part) reads
fresh-takes part memory [] = tt
fresh-takes part memory (c ∷ reads) = record { memory = memory; new = refl; apart = inl (rw start-nothing refl) }

fresh_feeds : (outers : List (List ℕ)) (part : List ℕ) → length part ≡ longest_packet → (reads : List Read-as-Call) → map (λ c. c.outer) reads ≡ outers → Each Long reads → Feeds outers (reader fresh_numbers part) reads
fresh_feeds outers part memory reads are long = record { are = are; long = long; takes = fresh-takes part memory reads }

-- ---- all calls to a fresh writer

module _ (size first : ℕ) (sized : is_size size ≡ true) (number : first < sequences) (bytes : List ℕ) (memory : length bytes ≡ most_size) (calls : List Call) (fair : Each Fair calls) where
  abbrev w : Writer
  w = fresh size first bytes

  abbrev outers : List (List ℕ)
  outers = outers_in (given w calls)

  abbrev packets : List (List ℕ)
  packets = taken_in w calls

  fresh-stands : Stands first [] [] w
  unfolding begin_by line flat_map
  fresh-stands =
      let none : left_by w.numbers ≡ 0 = none_left w.numbers refl in
      record {
        sized = sized;
        memory = memory;
        next = omega arith;
        stamp = omega arith;
        sendable = tt;
        fits = tt;
        waits = record { within = omega arith; bytes = ap (λ (n : ℕ). take n bytes) none; begin = rw none refl };
      }

  trip : Gone first [] [] w calls
  trip = gone first [] [] w fresh-stands calls fair

  abbrev cs : List Choice
  cs = trip.choices

  -- all packets that were taken may be sent, and all outer packets that were given are the tunnel's
  pub each_sendable : Each Sendable packets
  each_sendable = trip.stands.sendable

  pub each_outer : Each (λ o. is_outer o ≡ true) outers
  each_outer = rw trip.are (sent-outers packets each_sendable (first + 0) 0 cs trip.stands.fits)

  -- each byte of the packets stands in one payload, in order, or is left
  pub no_byte_twice : payloads_in outers ++ left_after w calls ≡ line packets
  no_byte_twice =
      ap₂ ◌++◌ (ap payloads_in trip.are ∙ sent_payloads packets each_sendable (first + 0) 0 cs trip.stands.fits) trip.stands.waits.bytes
      ∙ take-append-drop (taken cs) (line packets)

  -- ---- where nothing is left

  module _ (none : left_after w calls ≡ []) where
    all_taken : taken cs ≡ length (line packets)
    all_taken = omega (arith, ap length none, waits-length trip.stands.waits, trip.stands.waits.within)

    -- read in order, the outer packets give back the packets; no answer is a refusal or a repeat
    pub round_trip : (part : List ℕ) → length part ≡ longest_packet
        → (reads : List Read-as-Call) → map (λ c. c.outer) reads ≡ outers → Each Long reads
        → let r = reader fresh_numbers part in (out_of (fed r reads) ≡ packets) × Each Read (fed r reads)
    round_trip part room reads are long =
        let end : 0 + taken cs ≡ length (line packets) = omega (arith, all_taken) in
        let t =
        in_order_lem packets each_sendable (first + 0) 0 cs trip.stands.fits (omega arith) (reader fresh_numbers part) reads
        (fresh_feeds _ part room reads (are ∙ trip.are) long) in
        (t.0 ∙ ap (λ (n : ℕ). between 0 n packets) end ∙ between_all packets, t.1)

    -- a run of them is left out: the packets come out that have no byte in it
    pub round_trip_gap : (before run behind : List (List ℕ)) → outers ≡ before ++ (run ++ behind) → 1 ≤ length run → length run ≤ 65534
        → (part : List ℕ) → length part ≡ longest_packet
        → (reads : List Read-as-Call) → map (λ c. c.outer) reads ≡ before ++ behind → Each Long reads
        → let r = reader fresh_numbers part in
        (out_of (fed r reads) ≡ apart (length (payloads_in before)) (length (payloads_in before) + length (payloads_in run)) packets) × Each Read (fed r reads)
    round_trip_gap before run behind cut some few part room reads are long =
        gap-apart packets each_sendable (first + 0) cs trip.stands.fits all_taken before run behind (sym cut ∙ trip.are) some few (reader fresh_numbers part) reads
        (fresh_feeds (before ++ behind) part room reads are long)

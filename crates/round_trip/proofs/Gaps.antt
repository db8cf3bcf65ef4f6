-- A whole tunnel with a run of outer packets left out: the packets come out that have no byte in it. Assumes nothing.
use mathlib.Core.Path.{◌≡◌, ap, ap₂, ◌∙◌}
use mathlib.Core.List.{List, ◌++◌}
use Prim.Native.Nat.{ℕ, ◌+◌, ◌≤◌}
use native.Mathlib.Omega.{arith}
use lib.ListN.{length}
use Rattle.octets.specs.Each.{Each}
use Rattle.octets.proofs.Laws.{each_split}
use Rattle.packets.specs.Stored.{line}
use Rattle.tunnel.specs.Unwrap.{Reader}
use Rattle.carriage.specs.Sent.{Sendable, Choice, Fits, taken, between, sent}
use Rattle.carriage.specs.Fed.{Call, fed, out_of, Read, Feeds}
use Rattle.carriage.proofs.Steps.{each_carried}
use Rattle.carriage.proofs.InOrder.{after_gap}
use Rattle.round_trip.specs.Trips.{payloads_in, apart}
use Rattle.round_trip.proofs.Parts.{between-apart, taken_split, early, late, early_count, early_sent, late_sent, payloads_length}

module _ (packets : List (List ℕ)) (sendable : Each Sendable packets) (n : ℕ) (cs : List Choice) (fits : Each Fits cs) (all : taken cs ≡ length (line packets)) (before run behind : List (List ℕ)) (are : before ++ (run ++ behind) ≡ sent packets n 0 cs) where
  -- the payloads before the run, those of it and those behind it
  abbrev es : List Choice
  es = early packets n 0 cs before (run ++ behind) are

  abbrev more : List Choice
  more = late packets n 0 cs before (run ++ behind) are

  abbrev b : ℕ
  b = 0 + taken es

  others : run ++ behind ≡ sent packets (n + length es) b more
  others = late_sent packets n 0 cs before (run ++ behind) are

  abbrev bs : List Choice
  bs = early packets (n + length es) b more run behind others

  abbrev ds : List Choice
  ds = late packets (n + length es) b more run behind others

  abbrev c : ℕ
  c = b + taken bs

  before_sent : before ≡ sent packets n 0 es
  before_sent = early_sent packets n 0 cs before (run ++ behind) are

  run-sent : run ≡ sent packets (n + length es) b bs
  run-sent = early_sent packets (n + length es) b more run behind others

  behind-sent : behind ≡ sent packets (n + length es + length bs) c ds
  behind-sent = late_sent packets (n + length es) b more run behind others

  run_count : length bs ≡ length run
  run_count = early_count packets (n + length es) b more run behind others

  end : c + taken ds ≡ length (line packets)
  end = omega (arith, all, taken_split (length before) cs, taken_split (length run) more)

  first_fits : Each Fits es × Each Fits more
  first_fits = each_split Fits (length before) cs fits

  then_fits : Each Fits bs × Each Fits ds
  then_fits = each_split Fits (length run) more first_fits.1

  before_bytes : length (payloads_in before) ≡ taken es
  before_bytes = ap (λ (xs : List (List ℕ)). length (payloads_in xs)) before_sent ∙ payloads_length packets sendable n 0 es first_fits.0 (omega (arith, end))

  run-bytes : length (payloads_in run) ≡ taken bs
  run-bytes =
      ap (λ (xs : List (List ℕ)). length (payloads_in xs)) run-sent
      ∙ payloads_length packets sendable (n + length es) b bs then_fits.0 (omega (arith, end))

  pub gap-apart : 1 ≤ length run → length run ≤ 65534 → (r : Reader) (reads : List Call) → Feeds (before ++ behind) r reads → (out_of (fed r reads) ≡ apart (length (payloads_in before)) (length (payloads_in before) + length (payloads_in run)) packets) × Each Read (fed r reads)
  gap-apart some few r reads feeds =
      let t =
      after_gap packets sendable n 0 es bs ds first_fits.0 then_fits.1 (omega (arith, end)) (omega (arith, run_count)) (omega (arith, run_count)) r reads (record { are = feeds.are ∙ ap₂ ◌++◌ before_sent behind-sent; long = feeds.long; takes = feeds.takes }) in
      let from : b ≡ length (payloads_in before) = omega (arith, before_bytes) in
      let to : c ≡ length (payloads_in before) + length (payloads_in run) = omega (arith, before_bytes, run-bytes) in (
        t.0
            ∙ ap (λ (k : ℕ). between 0 b packets ++ between c k packets) end
            ∙ between-apart packets (each_carried packets sendable) b c (omega arith)
            ∙ ap₂ (λ (i j : ℕ). apart i j packets) from to,
        t.1,
      )

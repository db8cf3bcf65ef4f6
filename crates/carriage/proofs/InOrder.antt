-- A tunnel that is read from any place on: in order, and with a run of outer packets left out. Assumes nothing.
use mathlib.Core.Path.{◌≡◌, refl, sym, ap, ap₂, subst, ◌∙◌}
use mathlib.Core.List.{List, [], ◌∷◌, ◌++◌, map, flat_map, append_assoc, append-nil, nil≢cons, cons≢nil}
use Prim.Native.Nat.{ℕ, zero, suc, ◌+◌, ◌≤◌}
use native.Mathlib.Nat.{add-zero}
use native.Mathlib.Omega.{arith}
use lib.ListN.{length, take, drop, take-append-drop}
use lib.Seq.{take-append_seam, drop-append_seam}
use Rattle.octets.specs.Each.{Each}
use Rattle.octets.proofs.Laws.{each_append, each_split}
use Rattle.rtp.specs.Header.{sequence_in}
use Rattle.packets.specs.Stored.{line}
use Rattle.tunnel.specs.Unwrap.{Reader, Result, unwrapped}
use Rattle.carriage.specs.Sent.{Sendable, Choice, Fits, taken, between, sent}
use Rattle.carriage.specs.Fed.{Call, fed, came_out, out_of, Read, Long, Takes, Feeds}
use Rattle.carriage.proofs.Outers.{outer_sent, seen_sent}
use Rattle.carriage.proofs.Lines.{held_at, held_none, between_none}
use Rattle.carriage.proofs.Steps.{Holds, Ready, ready_after, ready_next, ready_first, each_carried, Stepped, stepped}

-- ---- outer packets and calls, some and then others

-- the outer packets of some payloads, and then of others, are those of all
pub sent-append : (packets : List (List ℕ)) (n at : ℕ) (early bs : List Choice) → sent packets n at (early ++ bs) ≡ sent packets n at early ++ sent packets (n + length early) (at + taken early) bs
unfolding sent
sent-append packets n at [] bs = rw (add-zero n, add-zero at)
sent-append packets n at (a ∷ more) bs =
    let number : n + 1 + length more ≡ n + suc (length more) = omega arith in
    let place : at + a.size + taken more ≡ at + (a.size + taken more) = omega arith in
    cc (sent-append packets (n + 1) (at + a.size) more bs)

abbrev outers : List Call → List (List ℕ)
outers calls = map (λ c. c.outer) calls

outers-take : (n : ℕ) (calls : List Call) → outers (take n calls) ≡ take n (outers calls)
outers-take zero calls = refl
outers-take (suc n) [] = refl
outers-take (suc n) (c ∷ calls) = ap (λ (x : List (List ℕ)). c.outer ∷ x) (outers-take n calls)

outers-drop : (n : ℕ) (calls : List Call) → outers (drop n calls) ≡ drop n (outers calls)
outers-drop zero calls = refl
outers-drop (suc n) [] = refl
outers-drop (suc n) (c ∷ calls) = outers-drop n calls

-- the reader after some calls
abbrev after : Reader → List Call → Reader
after r [] = r
after r (c ∷ cs) = after (unwrapped r c.outer c.output).reader cs

fed-append : (r : Reader) (xs ys : List Call) → fed r (xs ++ ys) ≡ fed r xs ++ fed (after r xs) ys
unfolding fed
fed-append r [] ys = refl
fed-append r (x ∷ xs) ys = let u = unwrapped r x.outer x.output in ap (λ (us : List Result). u ∷ us) (fed-append u.reader xs ys)

out_append : (us vs : List Result) → out_of (us ++ vs) ≡ out_of us ++ out_of vs
unfolding flat_map
out_append [] vs = refl
out_append (u ∷ us) vs = ap (λ (x : List (List ℕ)). came_out u ++ x) (out_append us vs) ∙ sym (append_assoc (came_out u) (out_of us) (out_of vs))

-- ---- from place to place of the line

-- what some calls leave, with payloads from a place on, of a tunnel that is read from the place s on; the reader then holds what is held there if there are any,
-- or if it did so before
record Runs (packets : List (List ℕ)) (s n at : ℕ) (cs : List Choice) (r : Reader) (calls : List Call) : Type 0 where
  reads : Each Read (fed r calls)
  out : between s at packets ++ out_of (fed r calls) ≡ between s (at + taken cs) packets
  holds : (cs ≡ [] → Holds r n (held_at s at packets)) → Holds (after r calls) (n + length cs) (held_at s (at + taken cs) packets)

module _ (packets : List (List ℕ)) (sendable : Each Sendable packets) (s : ℕ) where
  runs : (cs : List Choice) (n at : ℕ) → Each Fits cs → s ≤ at → at + taken cs ≤ length (line packets) → (r : Reader) (calls : List Call) → outers calls ≡ sent packets n at cs → Each Long calls → Ready r n (held_at s at packets) → Runs packets s n at cs r calls
  unfolding fed sent flat_map
  runs [] n at fits from within r [] are long ready =
      record {
        reads = tt;
        out = rw (add-zero at) (append-nil (between s at packets));
        holds = λ h. rw (add-zero n, add-zero at) (h refl);
      }
  runs [] n at fits from within r (call ∷ calls) are long ready = absurd (cons≢nil are)
  runs (c ∷ cs) n at fits from within r [] are long ready = absurd (nil≢cons are)
  runs (c ∷ cs) n at fits from within r (call ∷ calls) are long ready =
      let number : n + 1 + length cs ≡ n + suc (length cs) = omega arith in
      let place : at + c.size + taken cs ≡ at + (c.size + taken cs) = omega arith in
      let u : Result = unwrapped r call.outer call.output in
      let one : Stepped packets s n at c.size u =
      stepped packets sendable s n at c fits.0 from (omega arith) r ready call.outer call.output (cc) long.0 in
      let rest : Runs packets s (n + 1) (at + c.size) cs u.reader calls =
      runs cs (n + 1) (at + c.size) fits.1 (omega arith) (omega arith) u.reader calls (cc) long.1 (ready_next one.holds) in
      record {
        reads = (one.reads, rest.reads);
        out =
            sym (append_assoc (between s at packets) (came_out u) (out_of (fed u.reader calls)))
            ∙ ap (λ (x : List (List ℕ)). x ++ out_of (fed u.reader calls)) one.out
            ∙ rest.out
            ∙ ap (λ (b : ℕ). between s b packets) place;
        holds = λ h. rw (number, place) at (rest.holds (λ e. one.holds));
      }

-- ---- from the place on where the reader takes up the tunnel

module _ (packets : List (List ℕ)) (sendable : Each Sendable packets) where
  -- to a reader that is ready
  ready_runs : (n at : ℕ) (cs : List Choice) → Each Fits cs → at + taken cs ≤ length (line packets) → (r : Reader) (calls : List Call) → outers calls ≡ sent packets n at cs → Each Long calls → Ready r n [] → Runs packets at n at cs r calls
  ready_runs n at cs fits within r calls are long ready =
      runs packets sendable at cs n at fits (omega arith) within r calls are long (rw (held_none packets at) ready)

  out_between : {n at : ℕ} {cs : List Choice} {r : Reader} {calls : List Call} → Runs packets at n at cs r calls → out_of (fed r calls) ≡ between at (at + taken cs) packets
  out_between {n} {at} {cs} {r} {calls} t =
      ap (λ (x : List (List ℕ)). x ++ out_of (fed r calls)) (sym (between_none packets (each_carried packets sendable) at)) ∙ t.out

  between-still : (at : ℕ) → between at (at + 0) packets ≡ []
  between-still at = rw (add-zero at) (between_none packets (each_carried packets sendable) at)

  -- a reader that takes up the tunnel at an outer packet is ready for it
  first_ready : (n at : ℕ) (c : Choice) → Fits c → (others : List (List ℕ)) (r : Reader) (calls : List Call) → Feeds (outer_sent packets n at c ∷ others) r calls → Ready r n []
  first_ready n at c fits others r [] feeds = absurd (nil≢cons feeds.are)
  first_ready n at c fits others r (call ∷ calls) feeds =
      let is : call.outer ≡ outer_sent packets n at c = cc in
      ready_first (subst (Takes r) (ap sequence_in is ∙ (seen_sent packets sendable n at c fits).sequence) feeds.takes)

-- the packets come out that begin at or behind the place where the reader takes up the tunnel, and end at or before the one that it has come to; no answer is a
-- refusal
pub in_order_lem : (packets : List (List ℕ)) → Each Sendable packets → (n at : ℕ) (cs : List Choice) → Each Fits cs → at + taken cs ≤ length (line packets)
    → (r : Reader) (calls : List Call) → Feeds (sent packets n at cs) r calls
    → (out_of (fed r calls) ≡ between at (at + taken cs) packets) × Each Read (fed r calls)
unfolding sent fed flat_map
in_order_lem packets sendable n at [] fits within r [] feeds = (sym (between-still packets sendable at), tt)
in_order_lem packets sendable n at [] fits within r (call ∷ calls) feeds = absurd (cons≢nil feeds.are)
in_order_lem packets sendable n at (c ∷ cs) fits within r calls feeds =
    let t = ready_runs packets sendable n at (c ∷ cs) fits within r calls feeds.are feeds.long (first_ready packets sendable n at c fits.0 _ r calls feeds) in
    (out_between packets sendable t, t.reads)

-- a run of outer packets is left out
pub after_gap : (packets : List (List ℕ)) → Each Sendable packets → (n at : ℕ) (early bs cs : List Choice) → Each Fits early → Each Fits cs
    → at + taken early + taken bs + taken cs ≤ length (line packets)
    → 1 ≤ length bs → length bs ≤ 65534
    → (r : Reader) (calls : List Call)
    → let b = at + taken early in let c = b + taken bs in
    Feeds (sent packets n at early ++ sent packets (n + length early + length bs) c cs) r calls
    → (out_of (fed r calls) ≡ between at b packets ++ between c (c + taken cs) packets) × Each Read (fed r calls)
unfolding sent
after_gap packets sendable n at [] bs cs first second within some few r calls feeds =
    let c : ℕ = at + 0 + taken bs in
    let t = in_order_lem packets sendable (n + 0 + length bs) c cs second within r calls feeds in
    (t.0 ∙ ap (λ (x : List (List ℕ)). x ++ between c (c + taken cs) packets) (sym (between-still packets sendable at)), t.1)
after_gap packets sendable n at (a ∷ more) bs cs first second within some few r calls feeds =
    let m : ℕ = n + suc (length more) in
    let b : ℕ = at + taken (a ∷ more) in
    let c : ℕ = b + taken bs in
    let front : List (List ℕ) = sent packets n at (a ∷ more) in
    let back : List (List ℕ) = sent packets (m + length bs) c cs in
    let k : ℕ = length front in
    let q : Reader = after r (take k calls) in
    let long = each_split Long k calls feeds.long in
    let one : Runs packets at n at (a ∷ more) r (take k calls) =
    ready_runs packets sendable n at (a ∷ more) first (omega arith) r (take k calls) (outers-take k calls ∙ ap (take k) feeds.are ∙ take-append_seam front back) long.0 (first_ready packets sendable n at a first.0 _ r calls feeds) in
    let holds : Holds q m (held_at at b packets) = one.holds (λ e. absurd (cons≢nil e)) in
    let two : Runs packets c (m + length bs) c cs q (drop k calls) =
    ready_runs packets sendable (m + length bs) c cs second within q (drop k calls) (outers-drop k calls ∙ ap (drop k) feeds.are ∙ drop-append_seam front back) long.1 (ready_after holds (length bs) (omega arith) some) in
    let all : fed r calls ≡ fed r (take k calls) ++ fed q (drop k calls) = ap (fed r) (sym (take-append-drop k calls)) ∙ fed-append r (take k calls) (drop k calls) in (
      ap out_of all ∙ out_append (fed r (take k calls)) (fed q (drop k calls)) ∙ ap₂ ◌++◌ (out_between packets sendable one) (out_between packets sendable two),
      rw all (each_append Read (fed r (take k calls)) (fed q (drop k calls)) one.reads two.reads),
    )

-- What an accepted segment comes to: a list that the slot's chunk carries, or the count of what is missing. Assumes nothing.
use mathlib.Core.Path.{◌≡◌, refl, sym, ap, ◌∙◌, subst}
use mathlib.Core.Bool.{Bool, true, false, true≢false}
use mathlib.Core.List.{List, [], ◌++◌}
use Prim.Native.Nat.{ℕ, ◌+◌, ◌*◌, ◌%◌, ◌≤◌}
use native.Mathlib.Omega.{arith}
use borrow.Author.Tests.{eqb-true, not-false}
use lib.ListN.{length, get_or, take, drop, length-drop}
use lib.Seq.{sets, sets-eq}
use Rattle.std.proofs.Common.{Result, Ok, Err}
use Rattle.octets.specs.Bits.{Bytes}
use Rattle.octets.proofs.Laws.{bytes_take, bytes_drop, bytes-append}
use Rattle.meaning.specs.declared.Refusal.{Refusal}
use Rattle.meaning.specs.declared.Kind.{Kind}
use Rattle.meaning.specs.declared.Kind.TheVariants.{This, Next}
use Rattle.meaning.specs.declared.Refusal.TheVariants.{KindDiffers}
use Rattle.meaning.specs.Sizes.{longest_chunk}
use Rattle.meaning.specs.Lists.{kind_of, current_of}
use Rattle.meaning.specs.Reading.{checks, minor_in, list_in, Accepts}
use Rattle.meaning.proofs.Checks.{check_passed}
use Rattle.meaning.proofs.Sound.{accepted-carried}
use Rattle.segments.specs.Segment.{segment_header_bytes, payload_bytes, most_segments, segment_kind, segment_checks, number_in, payload_in}
use Rattle.slots.specs.declared.Answer.{Answer}
use Rattle.slots.specs.declared.Answer.TheVariants.{Missing, NewList}
use Rattle.slots.specs.Slots.{missing_in}
use Rattle.slots.specs.Gathering.{Side, hold, chunk_in, kind_checks}
use Rattle.slots.proofs.Keeps.{segment-passes, number_small, slot-numbers}
use Rattle.slots.proofs.Laws.{gathered_cases}
use Rattle.notes.specs.Notes.{slot_for}
use Rattle.desk.specs.declared.Desk.{Desk}
use Rattle.desk.specs.Desks.{well_formed, bytes_for, After, side_of, taken_by, segment_after}
use Rattle.desk.proofs.Parts.{kind_fits}
use Rattle.desk.proofs.Ready.{Ready}
use Rattle.effects.specs.Effects.{Lists, Waits}
use Rattle.effects.proofs.Ways.{own, Takes, takes, unlisted_becomes, segment_cases}
use Rattle.effects.proofs.Keeps.{segment-fits}

abbrev refused : Result Answer Refusal → Bool
refused (Err f) = true
refused (Ok (Missing n)) = false
refused (Ok (NewList k n)) = false

-- ---- bytes

bytes-sets : (l vs : List ℕ) (i : ℕ) → i + length vs ≤ length l → Bytes l → Bytes vs → Bytes (sets l i vs)
bytes-sets l vs i h b v =
    let end : ℕ = i + length vs in
    rw (sets-eq vs l i h) (bytes-append (take i l ++ vs) (drop end l) (bytes-append (take i l) vs (bytes_take i l b) v) (bytes_drop end l b))

bytes-kind : (k : Kind) (d : Desk) → Bytes d.bytes → Bytes (bytes_for k d)
bytes-kind This d b = bytes_take longest_chunk d.bytes b
bytes-kind Next d b = bytes_drop longest_chunk d.bytes b

-- ---- a chunk that passed, with its kind

kind-current : (k : Kind) → kind_of (current_of k) ≡ k
kind-current This = refl
kind-current Next = refl

kind_accepts : (k : Kind) (xs : List ℕ) → kind_checks (checks xs) k xs ≡ Ok tt → Accepts xs k (minor_in xs) (list_in xs)
kind_accepts k xs = go (checks xs) refl
  where
    go : (v : Result Unit Refusal) → checks xs ≡ v → kind_checks v k xs ≡ Ok tt → Accepts xs k (minor_in xs) (list_in xs)
    go (Err f) is e = let z : ◌≡◌ {A = ℕ} 0 1 = cc in absurd (omega arith)
    go (Ok _) is e =
        let current : get_or xs 1 0 % 2 ≡ current_of k = eqb-true _ _ (not-false _ (check_passed _ KindDiffers (Ok tt) e).0) in
        record { passes = is; kind = ap kind_of current ∙ kind-current k; minor = refl; list = refl }

-- ---- a segment

module _ (d : Desk) (xs first second : List ℕ) where
  abbrev k : Kind
  k = segment_kind xs

  abbrev before : Side
  before = own k d first second

  -- what an answer comes to
  abbrev Comes : After → Result Answer Refusal → Type 0
  Comes r (Ok (Missing n)) = Waits d xs first second n r
  Comes r (Ok (NewList j n)) = Bytes d.bytes → Bytes xs → Lists d xs first second j n r
  Comes r (Err f) = Unit {0}

  pub bytes-chunk : Ready d first second → segment_checks xs ≡ Ok tt → Bytes d.bytes → Bytes xs → Bytes (chunk_in (hold xs before))
  bytes-chunk y fine b v =
      let room : payload_bytes * number_in xs + length (payload_in xs) ≤ length (bytes_for k d) =
      omega (arith, number_small xs fine, segment-passes xs fine, length-drop segment_header_bytes xs, (slot-numbers _ _ (kind_fits k d y.formed).1).0) in
      bytes_take (payload_bytes * ((hold xs before).slot.last + 1)) (hold xs before).bytes
      (bytes-sets (bytes_for k d) (payload_in xs) (payload_bytes * number_in xs) room (bytes-kind k d b) (bytes_drop segment_header_bytes xs v))

  module _ {r : After} {n : ℕ} {s : Side} (t : Takes k d first second (record { answer = Ok (Missing n); side = s }) r) where
    waits : n ≡ missing_in s.slot → s.buffer ≡ before.buffer → Waits d xs first second n r
    waits e same =
        let b = unlisted_becomes t (λ m. refl) same in
        record { count = e ∙ ap missing_in (sym t.slot); kept = b.2; buffers = (b.3, b.4) }

  taken_comes : Ready d first second → segment_checks xs ≡ Ok tt → let r = taken_by k d xs first second in Comes r r.answer
  taken_comes y fine =
      let r = taken_by k d xs first second in
      let h = takes k d xs first second y.formed fine in
      let chunk : List ℕ = chunk_in (hold xs before) in
      subst (Comes r) (sym h.answer)
      (gathered_cases (λ o. Takes k d first second o r → Comes r o.answer) k xs before
      (λ c t. tt)
      (λ c b t. waits t refl refl)
      (λ p some t. waits t refl refl)
      (λ p z f e t. tt)
      (λ p z e t b v.
      let same : chunk_in (side_of k r.desk []) ≡ chunk = λ i. take (payload_bytes * ((t.slot i).last + 1)) (t.bytes i) in
      record {
        kind = refl;
        whole = ap missing_in t.slot ∙ z;
        minor = minor_in chunk;
        list = list_in chunk;
        carried = rw same (accepted-carried (bytes-chunk y fine b v) (kind_accepts k chunk e));
        size = refl;
        kept = t.size;
        buffer = t.buffer;
      })
      h)

  segment_comes : let r = segment_after d xs first second in Comes r r.answer
  segment_comes = segment_cases d xs first second (λ r. Comes r r.answer) (λ f e. tt) taken_comes

  pub listed_lists : Bytes d.bytes → Bytes xs → (j : Kind) (n : ℕ) → let r = segment_after d xs first second in r.answer ≡ Ok (NewList j n) → Lists d xs first second j n r
  listed_lists b v j n e = subst (Comes (segment_after d xs first second)) e segment_comes b v

  pub missing_waits : (n : ℕ) → let r = segment_after d xs first second in r.answer ≡ Ok (Missing n) → Waits d xs first second n r
  missing_waits n e = subst (Comes (segment_after d xs first second)) e segment_comes

-- no more than 16 are missing
module _ (d : Desk) (xs first second : List ℕ) (n : ℕ) (is : (segment_after d xs first second).answer ≡ Ok (Missing n)) where
  missing_formed : well_formed d ≡ true
  missing_formed =
      segment_cases d xs first second (λ r. r.answer ≡ Ok (Missing n) → well_formed d ≡ true)
      (λ f e l. absurd (true≢false (ap refused l))) (λ y fine l. y.formed) is

  pub missing_few : n ≤ most_segments
  missing_few =
      let k : Kind = segment_kind xs in
      let e : Desk = (segment_after d xs first second).desk in
      let fits = (kind_fits k e (segment-fits d xs first second missing_formed)).1 in
      omega (arith, (missing_waits d xs first second n is).count, (slot-numbers (slot_for k e.notes) (bytes_for k e) fits).1)

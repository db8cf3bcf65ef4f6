-- Reserved bits of a segment's header make no difference. Assumes nothing.
use mathlib.Core.Path.{◌≡◌, refl, sym, ◌∙◌}
use mathlib.Core.List.{List}
use Prim.Native.Nat.{ℕ, ◌<◌}
use lib.ListN.{length}
use Rattle.std.proofs.Common.{Result, Ok, Err}
use Rattle.octets.specs.Bits.{Held, Bytes}
use Rattle.meaning.specs.declared.Refusal.{Refusal}
use Rattle.meaning.specs.declared.Kind.{Kind}
use Rattle.segments.specs.Segment.{Head, head_fields, segment, sort_in, segment_major, segment_kind, error_in, number_in, last_in, payload_in, segment_checks}
use Rattle.slots.specs.Slots.{clashing}
use Rattle.slots.specs.Gathering.{Side, gathered}
use Rattle.desk.specs.declared.Desk.{Desk}
use Rattle.desk.specs.Desks.{taken_by, call_checks, answered_by, segment_after}
use Rattle.segments.proofs.Heads.{head_read}

-- ---- segments that the desk takes for the same

-- all that the desk reads of a segment is equal
pub record Alike (xs ys : List ℕ) : Type 0 where
  pub size : length xs ≡ length ys
  pub sort : sort_in xs ≡ sort_in ys
  pub error : error_in xs ≡ error_in ys
  pub major : segment_major xs ≡ segment_major ys
  pub number : number_in xs ≡ number_in ys
  pub last : last_in xs ≡ last_in ys
  pub kind : segment_kind xs ≡ segment_kind ys
  pub payload : payload_in xs ≡ payload_in ys

module _ {xs ys : List ℕ} (a : Alike xs ys) where
  checks_alike : segment_checks xs ≡ segment_checks ys
  unfolding segment_checks
  checks_alike = simp (a.size, a.sort, a.error, a.major, a.number, a.last)

  gathered_alike : (k : Kind) (s : Side) → gathered k xs s ≡ gathered k ys s
  unfolding gathered clashing
  gathered_alike k s = simp (a.number, a.last, a.payload)

pub alike_same : (d : Desk) (xs ys first second : List ℕ) → Alike xs ys → segment_after d xs first second ≡ segment_after d ys first second
unfolding segment_after taken_by
alike_same d xs ys first second a = rw (checks_alike a) (go (call_checks d ys first second))
  where
    go : (v : Result Unit Refusal) → answered_by v d xs first second ≡ answered_by v d ys first second
    go (Err f) = refl
    go (Ok _) = rw a.kind (simp (gathered_alike a))

-- reserved and wake_up_indicator
pub reserved_ignored : (h : Head) (reserved wake : ℕ) (payload : List ℕ) → Held (head_fields h) → reserved < 2 → wake < 2 → Bytes payload → (d : Desk) (first second : List ℕ) → segment_after d (segment (record { sort = h.sort; reserved = reserved; wake = wake; major = h.major; current = h.current; error = h.error; number = h.number; last = h.last }) payload) first second ≡ segment_after d (segment h payload) first second
unfolding head_fields
reserved_ignored h reserved wake payload held r w bytes d first second =
    let other : Head =
    record { sort = h.sort; reserved = reserved; wake = wake; major = h.major; current = h.current; error = h.error; number = h.number; last = h.last } in
    let a = head_read other payload (held.0, (r, (w, held.1.1.1))) bytes in
    let b = head_read h payload held bytes in
    alike_same d (segment other payload) (segment h payload) first second
    (record {
      size = a.7 ∙ sym b.7;
      sort = a.0 ∙ sym b.0;
      error = a.3 ∙ sym b.3;
      major = a.1 ∙ sym b.1;
      number = a.4 ∙ sym b.4;
      last = a.5 ∙ sym b.5;
      kind = a.2 ∙ sym b.2;
      payload = a.6 ∙ sym b.6;
    })

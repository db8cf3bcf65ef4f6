-- Laws of the log that is put for the segments that stand in an output xs. Assumes nothing.
use mathlib.Core.Path.{◌≡◌, refl, sym, ap, ap₂, ◌∙◌}
use mathlib.Core.List.{List, [], ◌∷◌, ◌++◌, flat_map, append_assoc}
use Prim.Native.Nat.{ℕ, suc, ◌+◌, ◌-◌, ◌*◌, ◌≤◌, ◌<◌}
use native.Mathlib.Omega.{arith}
use lib.ListN.{length, take, drop, length-append, length-drop}
use lib.Seq.{take_at, drop_at, drop-drop, length-take-le, sets}
use Rattle.octets.specs.Each.{Each}
use Rattle.octets.proofs.Stores.{sets-append}
use Rattle.text.specs.Text.{text}
use Rattle.records.specs.Records.{mark_bytes}
use Rattle.segments.specs.Segment.{segment_bytes}
use Rattle.segments.specs.Cut.{joined}
use Rattle.typed.specs.Typed.{log_of, log_put}

-- the segment at a place
abbrev pub segment_at : List ℕ → ℕ → List ℕ
segment_at xs from = take segment_bytes (drop from xs)

module _ (xs : List ℕ) (from : ℕ) (room : from + segment_bytes ≤ length xs) where
  pub length_segment_at : length (segment_at xs from) ≡ segment_bytes
  length_segment_at = length-take-le segment_bytes (drop from xs) (omega (arith, length-drop from xs))

-- ---- one record after the other: what is left of the log of count segments after i of them, put where the next one belongs

abbrev pub log_left : List ℕ → ℕ → ℕ → List ℕ → List ℕ
log_left xs count i l = sets l ((mark_bytes + segment_bytes) * i) (log_put (count - i) (drop (segment_bytes * i) xs))

pub log_next : (xs l m : List ℕ) (count i : ℕ) → i < count → segment_bytes * count ≤ length xs → m ≡ sets l ((mark_bytes + segment_bytes) * i) (text "SG" ++ segment_at xs (segment_bytes * i)) → log_left xs count (i + 1) m ≡ log_left xs count i l
unfolding log_put
log_next xs l m count i more room put =
    let from : ℕ = segment_bytes * i in
    let to : ℕ = (mark_bytes + segment_bytes) * i in
    let n : ℕ = count - (i + 1) in
    let first : List ℕ = text "SG" ++ segment_at xs from in
    let rest : List ℕ = log_put n (drop (segment_bytes * (i + 1)) xs) in
    let left : count - i ≡ suc n = omega arith in
    let on : from + segment_bytes ≡ segment_bytes * (i + 1) = omega arith in
    let behind : (mark_bytes + segment_bytes) * (i + 1) ≡ to + length first = omega (arith, length_segment_at xs from (omega arith)) in
    let own : log_put (count - i) (drop from xs) ≡ first ++ rest =
    ap (λ (k : ℕ). log_put k (drop from xs)) left
    ∙ ap (λ (ys : List ℕ). first ++ log_put n ys) (drop-drop segment_bytes from xs ∙ ap (λ (k : ℕ). drop k xs) on) in
    ap₂ (λ (k : ℕ) (o : List ℕ). sets o k rest) behind put ∙ sym (sets-append first rest l to) ∙ ap (sets l to) (sym own)

pub log_none : (xs l : List ℕ) (count i : ℕ) → count ≤ i → log_left xs count i l ≡ l
unfolding log_put
log_none xs l count i past =
    let none : count - i ≡ 0 = omega arith in
    rw none refl

-- ---- the log of whole segments

-- of those that stand at the start of an output
pub log_put-joined : (segments : List (List ℕ)) (rest : List ℕ) → Each (λ s. length s ≡ segment_bytes) segments → log_put (length segments) (joined segments ++ rest) ≡ log_of segments
unfolding log_put flat_map
log_put-joined [] rest h = refl
log_put-joined (s ∷ more) rest h =
    let others : List ℕ = joined more ++ rest in
    ap (λ (t : List ℕ). (text "SG" ++ take segment_bytes t) ++ log_put (length more) (drop segment_bytes t)) (append_assoc s (joined more) rest)
    ∙ ap₂ (λ (a b : List ℕ). (text "SG" ++ a) ++ log_put (length more) b) (take_at s others segment_bytes h.0) (drop_at s others segment_bytes h.0)
    ∙ ap (λ (t : List ℕ). (text "SG" ++ s) ++ t) (log_put-joined more rest h.1)

pub length-log_of : (segments : List (List ℕ)) → Each (λ s. length s ≡ segment_bytes) segments → length (log_of segments) ≡ (mark_bytes + segment_bytes) * length segments
unfolding flat_map
length-log_of [] h = refl
length-log_of (s ∷ more) h = omega (arith, length-append (text "SG" ++ s) (log_of more), h.0, length-log_of more h.1)

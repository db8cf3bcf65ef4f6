-- Laws of the segments that are put for a chunk, moved in place. Assumes nothing.
use mathlib.Core.Path.{◌≡◌, refl, sym, ap, ap₂, ◌∙◌, subst}
use mathlib.Core.List.{List, [], ◌∷◌, ◌++◌, flat_map, append_assoc}
use Prim.Native.Nat.{ℕ, zero, suc, ◌+◌, ◌-◌, ◌*◌, ◌≤◌, ◌<◌}
use native.Mathlib.Nat.{zero-add, sub-zero}
use native.Mathlib.Omega.{arith}
use lib.ListN.{length, take, drop, set, length-append, length-drop}
use lib.Seq.{set_comm, take-take, sets, length-sets, sets-eq}
use Rattle.octets.proofs.Stores.{stored, sets-append, take-sets, drop-stored}
use Rattle.meaning.specs.declared.Kind.{Kind}
use Rattle.meaning.specs.Lists.{current_of}
use Rattle.segments.specs.Segment.{segment_bytes, segment_header_bytes, payload_bytes, place_of}
use Rattle.segments.specs.Cut.{up_from}
use Rattle.segments.proofs.Places.{length_part, place_taken}
use Rattle.segment_puts.specs.Laid.{segment_laid, segments_laid}

-- a store below a run of stores may as well come first
set_sets : (vs l : List ℕ) (i j v : ℕ) → j < i → set (sets l i vs) j v ≡ sets (set l j v) i vs
set_sets [] l i j v h = refl
set_sets (w ∷ vs) l i j v h =
    set_sets vs (set l i w) (suc i) j v (omega arith)
    ∙ ap (λ (o : List ℕ). sets o (suc i) vs) (set_comm l i j w v (λ e. absurd (omega (arith, e))))

pub segment-stored : (k : Kind) (last : ℕ) (l m p : List ℕ) (i at b : ℕ) → b ≡ current_of k → p ≡ place_of l i → m ≡ sets l (at + segment_header_bytes) p → set (set m at (48 + b * 2)) (at + 1) (i * 16 + last) ≡ sets l at (segment_laid k last l i)
segment-stored k last l m p i at b is piece put =
    let first : ℕ = 48 + b * 2 in
    let more : List ℕ = (i * 16 + last) ∷ [] in
    ap (λ (o : List ℕ). set (set o at first) (at + 1) (i * 16 + last)) put
    ∙ ap (λ (o : List ℕ). set o (at + 1) (i * 16 + last)) (set_sets p l (at + segment_header_bytes) at first (omega arith))
    ∙ set_sets p (set l at first) (at + segment_header_bytes) (at + 1) (i * 16 + last) (omega arith)
    ∙ ap (λ (o : List ℕ). sets o (at + segment_header_bytes) p) (stored first more l at)
    ∙ sym (sets-append (first ∷ more) p l at)
    ∙ ap₂ (λ (n : ℕ) (q : List ℕ). sets l at ((48 + n * 2) ∷ more ++ q)) is piece

-- the pieces of the output o are moved to their segments in it, the last one first; of the output x, where n are left: they stand as they stood,
-- and the segments of the others stand where they belong
module _ (k : Kind) (last : ℕ) (o : List ℕ) where
  pub record Moving (x : List ℕ) (n : ℕ) : Type 0 where
    pub some : n ≤ last + 1
    pub size : length x ≡ length o
    pub pieces : take (payload_bytes * n) x ≡ take (payload_bytes * n) o
    pub done : drop (segment_bytes * n) x ≡ segments_laid k last o n (last + 1 - n) ++ drop (segment_bytes * (last + 1)) o

  pub moving_starts : Moving o (last + 1)
  unfolding flat_map up_from
  moving_starts =
      let none : last + 1 - (last + 1) ≡ 0 = omega arith in
      record { some = omega arith; size = refl; pieces = refl; done = rw none refl }

  module _ (room : segment_bytes * (last + 1) ≤ length o) where
    moving_next : (x m : List ℕ) (n : ℕ) → 0 < n → Moving x n → m ≡ sets x (segment_bytes * (n - 1)) (segment_laid k last x (n - 1)) → Moving m (n - 1)
    unfolding flat_map up_from
    moving_next x m n more h put =
        let i : ℕ = n - 1 in
        let before : ℕ = payload_bytes * i in
        let at : ℕ = segment_bytes * i in
        let own : List ℕ = segment_laid k last x i in
        let rest : List ℕ = drop (segment_bytes * (last + 1)) o in
        let others : List ℕ = segments_laid k last o n (last + 1 - n) in
        let next : n ≡ suc i = omega arith in
        let count : last + 1 - i ≡ suc (last + 1 - n) = omega (arith, h.some) in
        let upto : payload_bytes * n ≡ before + payload_bytes = omega arith in
        let piece : place_of x i ≡ place_of o i = place_taken x o i (subst (λ (j : ℕ). take j x ≡ take j o) upto h.pieces) in
        let width : length own ≡ segment_bytes = omega (arith, length_part x before (omega (arith, h.some, h.size))) in
        record {
          some = omega (arith, h.some);
          size = ap length put ∙ length-sets x at own ∙ h.size;
          pieces =
              ap (take before) put
              ∙ take-sets own x at before (omega arith)
              ∙ sym (take-take before (payload_bytes * n) x (omega arith))
              ∙ ap (take before) h.pieces
              ∙ take-take before (payload_bytes * n) o (omega arith);
          done =
              ap (drop at) put
              ∙ drop-stored own x at (segment_bytes * n) (omega arith) (omega (arith, h.some, h.size))
              ∙ ap₂ (λ (p t : List ℕ). (48 + current_of k * 2) ∷ (i * 16 + last) ∷ p ++ t) piece h.done
              ∙ sym (append_assoc (segment_laid k last o i) others rest)
              ∙ ap (λ (j : ℕ). (segment_laid k last o i ++ segments_laid k last o j (last + 1 - n)) ++ rest) next
              ∙ ap (λ (j : ℕ). segments_laid k last o i j ++ rest) (sym count);
        }

    -- as the code counts them: i were moved
    pub moving_on : (x m : List ℕ) (i : ℕ) → i < last + 1 → Moving x (last + 1 - i) → m ≡ sets x (segment_bytes * (last - i)) (segment_laid k last x (last - i)) → Moving m (last + 1 - (i + 1))
    moving_on x m i more h put =
        let this : last - i ≡ last + 1 - i - 1 = omega arith in
        let next : last + 1 - (i + 1) ≡ last + 1 - i - 1 = omega arith in
        subst (Moving m) (sym next)
        (moving_next x m (last + 1 - i) (omega arith) h (put ∙ ap (λ (j : ℕ). sets x (segment_bytes * j) (segment_laid k last x j)) this))

    pub moving_ends : (x : List ℕ) (n : ℕ) → n ≤ 0 → Moving x n → x ≡ sets o 0 (segments_laid k last o 0 (last + 1))
    moving_ends x zero z h =
        let segs : List ℕ = segments_laid k last o 0 (last + 1) in
        let rest : List ℕ = drop (segment_bytes * (last + 1)) o in
        let whole : x ≡ segs ++ rest = h.done ∙ ap (λ (j : ℕ). segments_laid k last o 0 j ++ rest) (sub-zero (last + 1)) in
        let long : length segs ≡ segment_bytes * (last + 1) = omega (arith, ap length whole, length-append segs rest, length-drop (segment_bytes * (last + 1)) o, h.size) in
        whole ∙ sym (sets-eq segs o 0 (omega arith) ∙ ap (λ (j : ℕ). segs ++ drop j o) (zero-add (length segs) ∙ long))
    moving_ends x (suc n) z h = absurd (omega arith)

-- Laws of copies: a part of one list, stored at a place of another. Assumes nothing.
use mathlib.Core.Path.{◌≡◌, sym, ap, ap₂, ◌∙◌}
use mathlib.Core.List.{List, ◌++◌}
use Prim.Native.Nat.{ℕ, ◌+◌, ◌-◌, ◌≤◌}
use native.Mathlib.Omega.{arith}
use lib.ListN.{length, get_or, take, drop, set, length-drop}
use lib.Seq.{length-take-le, take-add, take_at, drop-drop, drop-cons, sets, sets-eq, length-sets}
use Rattle.octets.proofs.Stores.{sets-append, take-sets, drop-sets, drop-stored}

-- n elements from a place on
abbrev pub part : List ℕ → ℕ → ℕ → List ℕ
part xs from n = take n (drop from xs)

length_part : (xs : List ℕ) (from n : ℕ) → from + n ≤ length xs → length (part xs from n) ≡ n
length_part xs from n h = length-take-le n (drop from xs) (omega (arith, length-drop from xs))

-- a part that is held at the start of another list, and put from there
pub sets_held : (l h₀ h q xs : List ℕ) (to from n : ℕ) → n ≤ length h₀ → from + n ≤ length xs → h ≡ sets h₀ 0 (part xs from n) → q ≡ sets l to (part h 0 n) → q ≡ sets l to (part xs from n)
sets_held l h₀ h q xs to from n room enough e f =
    let vs = part xs from n in
    let long = length_part xs from n enough in
    let same : part h 0 n ≡ vs = rw e (ap (take n) (drop-stored vs h₀ 0 n (omega arith) room) ∙ take_at vs (drop n h₀) n long) in
    f ∙ ap (sets l to) same

-- a part is put in two runs, one behind the other
sets_runs : (l xs : List ℕ) (to from a b n : ℕ) → (n ≡ a + b) × (from + a ≤ length xs) → sets l to (part xs from n) ≡ sets (sets l to (part xs from a)) (to + a) (part xs (from + a) b)
sets_runs l xs to from a b n h = rw (h.0, take-add, drop-drop, sets-append, length_part xs from a h.1)

-- a run covers one at its place that is no longer
sets_over : (vs ws l : List ℕ) (i : ℕ) → length vs ≤ length ws → i + length ws ≤ length l → sets (sets l i vs) i ws ≡ sets l i ws
sets_over vs ws l i h room =
    sets-eq ws (sets l i vs) i (omega (arith, length-sets l i vs))
    ∙ ap₂ (λ (s t : List ℕ). s ++ ws ++ t) (take-sets vs l i i (omega arith)) (drop-sets vs l i (i + length ws) (omega arith))
    ∙ sym (sets-eq ws l i room)

-- the first m of n elements are put, and then the last w, which may overlap them
pub sets_more : (l p q xs : List ℕ) (to from m k w n : ℕ) → (n ≡ k + w) × (k ≤ m) × (m ≤ n) × (to + n ≤ length l) × (from + n ≤ length xs) → p ≡ sets l to (part xs from m) → q ≡ sets p (to + k) (part xs (from + k) w) → q ≡ sets l to (part xs from n)
sets_more l p q xs to from m k w n h e f =
    let first = sets l to (part xs from k) in
    let vs = part xs (from + k) (m - k) in
    let ws = part xs (from + k) w in
    let short : length vs ≡ m - k = length_part xs (from + k) (m - k) (omega arith) in
    let long : length ws ≡ w = length_part xs (from + k) w (omega arith) in
    f
    ∙ ap (λ (t : List ℕ). sets t (to + k) ws) (e ∙ sets_runs l xs to from k (m - k) m (omega arith))
    ∙ sets_over vs ws first (to + k) (omega arith) (omega (arith, length-sets l to (part xs from k)))
    ∙ sym (sets_runs l xs to from k w n (omega arith))

-- one element more
pub set_more : (l p xs : List ℕ) (to from i : ℕ) → (to + (i + 1) ≤ length l) × (from + (i + 1) ≤ length xs) → p ≡ sets l to (part xs from i) → set p (to + i) (get_or xs (from + i) 0) ≡ sets l to (part xs from (i + 1))
set_more l p xs to from i h e =
    sets_more l p (set p (to + i) (get_or xs (from + i) 0)) xs to from i i 1 (i + 1) (omega arith) e (rw (drop-cons xs (from + i) 0 (omega arith)))

-- A run of stores at to, to + 1, to + 2 and so on, as code writes it, is `sets` there. Assumes nothing.
use mathlib.Core.Path.{◌≡◌, refl, sym, ap, ◌∙◌}
use mathlib.Core.List.{List, [], ◌∷◌, ◌++◌, append_assoc}
use Prim.Native.Nat.{ℕ, suc, ◌+◌, ◌≤◌, ◌<◌}
use native.Mathlib.Nat.{add-zero, add-suc, suc-add}
use native.Mathlib.Numerals.{add-one}
use native.Mathlib.Omega.{arith}
use lib.ListN.{length, get_or, take, drop, set, drop_of_length-le}
use borrow.Rule.Slice.PartMut.{put_mid}
use lib.Seq.{drop-drop, drop-cons, drop_at, length-take-le, take-set-le, drop-set-lt, sets, sets-eq}

-- the elements of vs stored at to + k, to + (k + 1), ..
abbrev pub stores : List ℕ → ℕ → ℕ → List ℕ → List ℕ
stores l to k [] = l
stores l to k (v ∷ vs) = stores (set l (to + k) v) to (suc k) vs

stores-sets : (vs l : List ℕ) (to k : ℕ) → stores l to k vs ≡ sets l (to + k) vs
stores-sets [] l to k = refl
stores-sets (v ∷ vs) l to k =
    stores-sets vs (set l (to + k) v) to (suc k) ∙ ap (λ (n : ℕ). sets (set l (to + k) v) n vs) (add-suc to k)

pub stored : (v : ℕ) (vs l : List ℕ) (to : ℕ) → stores (set l to v) to 1 vs ≡ sets l to (v ∷ vs)
stored v vs l to = stores-sets vs (set l to v) to 1 ∙ ap (λ (n : ℕ). sets (set l to v) n vs) (add-one to)

-- one run of stores after the other
pub sets-append : (vs ws l : List ℕ) (i : ℕ) → sets l i (vs ++ ws) ≡ sets (sets l i vs) (i + length vs) ws
sets-append [] ws l i = ap (λ (n : ℕ). sets l n ws) (sym (add-zero i))
sets-append (v ∷ vs) ws l i =
    sets-append vs ws (set l i v) (suc i)
    ∙ ap (λ (n : ℕ). sets (sets l i (v ∷ vs)) n ws) (suc-add i (length vs) ∙ sym (add-suc i (length vs)))

pub sets_behind : (vs ws l m : List ℕ) (i : ℕ) → m ≡ sets l i vs → sets m (i + length vs) ws ≡ sets l i (vs ++ ws)
sets_behind vs ws l m i put = ap (λ (k : List ℕ). sets k (i + length vs) ws) put ∙ sym (sets-append vs ws l i)

-- a mark put, and a run of stores behind it
pub behind-mark : (mark vs l m : List ℕ) (to : ℕ) → m ≡ sets l to mark → stores m to (length mark) vs ≡ sets l to (mark ++ vs)
behind-mark mark vs l m to put = stores-sets vs m to (length mark) ∙ sets_behind mark vs l m to put

-- two bytes, one by one
pub two_bytes : (xs : List ℕ) → length xs ≡ 2 → xs ≡ get_or xs 0 0 ∷ get_or xs 1 0 ∷ []
two_bytes [] h = absurd (omega arith)
two_bytes (x ∷ []) h = absurd (omega arith)
two_bytes (x ∷ y ∷ []) h = refl
two_bytes (x ∷ y ∷ z ∷ xs) h = absurd (omega arith)

-- it leaves what is before it and what is after it, and stands where it was put
pub take-sets : (vs l : List ℕ) (i n : ℕ) → n ≤ i → take n (sets l i vs) ≡ take n l
take-sets [] l i n h = refl
take-sets (v ∷ vs) l i n h = take-sets vs (set l i v) (suc i) n (omega arith) ∙ take-set-le n l i v h

pub drop-sets : (vs l : List ℕ) (i n : ℕ) → i + length vs ≤ n → drop n (sets l i vs) ≡ drop n l
drop-sets [] l i n h = refl
drop-sets (v ∷ vs) l i n h = drop-sets vs (set l i v) (suc i) n (omega arith) ∙ drop-set-lt n l i v (omega arith)

pub drop-stored : (vs l : List ℕ) (i n : ℕ) → n ≡ i + length vs → n ≤ length l → drop i (sets l i vs) ≡ vs ++ drop n l
drop-stored vs l i n e room =
    ap (drop i) (sets-eq vs l i (omega arith) ∙ append_assoc (take i l) vs (drop (i + length vs) l))
    ∙ drop_at (take i l) (vs ++ drop (i + length vs) l) i (length-take-le i l (omega arith))
    ∙ ap (λ (k : ℕ). vs ++ drop k l) (sym e)

-- ---- a copy, element by element: what is left of xs, put at the place that the code has come to

pub copy_next : (xs l : List ℕ) (to i : ℕ) → i < length xs → sets (set l (to + i) (get_or xs i 0)) (to + (i + 1)) (drop (i + 1) xs) ≡ sets l (to + i) (drop i xs)
copy_next xs l to i h = rw (add-one i, add-suc to i, drop-cons xs i 0 h)

pub copy_done : (xs l : List ℕ) (k i : ℕ) → length xs ≤ i → sets l k (drop i xs) ≡ l
copy_done xs l k i h = ap (sets l k) (drop_of_length-le xs h)

-- ---- a part of a slice written as a whole, as code writes it

pub put_mid-sets : (a k : ℕ) (xs ys vs : List ℕ) → ys ≡ vs → k ≡ length vs → a + length vs ≤ length xs → put_mid a k xs ys ≡ sets xs a vs
put_mid-sets a k xs ys vs e h room =
    rw (e, sets-eq vs xs a room, append_assoc, drop-drop k a xs, h) refl

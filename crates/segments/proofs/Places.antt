-- Laws of 35 bytes at a place. Assumes nothing.
use mathlib.Core.Path.{◌≡◌, refl, sym, ap, ap₂, ◌∙◌}
use mathlib.Core.List.{List, [], ◌∷◌, ◌++◌}
use Prim.Native.Nat.{ℕ, zero, suc, ◌+◌, ◌*◌, ◌≤◌, ◌<◌}
use native.Mathlib.Nat.{zero-add, suc-add, mul-suc}
use native.Mathlib.Omega.{arith}
use lib.ListN.{length, get_or, take, drop, length-drop}
use lib.Seq.{get_or-take, get_or-drop, length-take-le, take-nil, take-add, take_all, take-append-le, drop-append-le}
use Rattle.segments.specs.Segment.{segment_bytes, segment_header_bytes, payload_bytes, place_of, payload_in}

-- the 35 bytes from the place at on
abbrev pub part : List ℕ → ℕ → List ℕ
part xs at = take payload_bytes (drop at xs)

pub get_d_part : (xs : List ℕ) (at i : ℕ) → i < payload_bytes → get_or (part xs at) i 0 ≡ get_or xs (at + i) 0
get_d_part xs at i h = get_or-take payload_bytes (drop at xs) i 0 h ∙ get_or-drop at xs i 0

pub length_part : (xs : List ℕ) (at : ℕ) → at + payload_bytes ≤ length xs → length (part xs at) ≡ payload_bytes
length_part xs at room = length-take-le payload_bytes (drop at xs) (omega (arith, length-drop at xs))

-- a segment's payload is all that follows its header
pub part_payload : (xs : List ℕ) → length xs ≡ segment_bytes → part xs segment_header_bytes ≡ payload_in xs
part_payload xs whole = take_all payload_bytes (payload_in xs) (omega (arith, length-drop segment_header_bytes xs))

-- a place within a byte string is the same with more behind it
pub place-within : (xs more : List ℕ) (i : ℕ) → payload_bytes * i + payload_bytes ≤ length xs → place_of (xs ++ more) i ≡ place_of xs i
place-within xs more i h =
    let at : ℕ = payload_bytes * i in
    let room : payload_bytes ≤ length (drop at xs) = omega (arith, length-drop at xs) in
    ap (take payload_bytes) (drop-append-le at xs more (omega arith)) ∙ take-append-le payload_bytes (drop at xs) more room

-- byte strings that are equal as far as a place goes have the same there
take-drop : (n m : ℕ) (l : List ℕ) → take m (drop n l) ≡ drop n (take (n + m) l)
take-drop zero m l = ap (λ (k : ℕ). take k l) (sym (zero-add m))
take-drop (suc n) m [] = rw (suc-add n m) (take-nil m)
take-drop (suc n) m (x ∷ l) = rw (suc-add n m) (take-drop n m l)

pub place_taken : (xs ys : List ℕ) (i : ℕ) → take (payload_bytes * i + payload_bytes) xs ≡ take (payload_bytes * i + payload_bytes) ys → place_of xs i ≡ place_of ys i
place_taken xs ys i e =
    let at : ℕ = payload_bytes * i in
    take-drop at payload_bytes xs ∙ ap (drop at) e ∙ sym (take-drop at payload_bytes ys)

-- byte strings with equal places are equal, as far as the places go
pub take_places : (n : ℕ) (xs ys : List ℕ) → ((i : ℕ) → i < n → place_of xs i ≡ place_of ys i) → take (payload_bytes * n) xs ≡ take (payload_bytes * n) ys
take_places zero xs ys e = refl
take_places (suc n) xs ys e =
    rw (mul-suc payload_bytes n)
    (take-add (payload_bytes * n) payload_bytes xs
    ∙ ap₂ (λ (s t : List ℕ). s ++ t) (take_places n xs ys (λ i h. e i (omega arith))) (e n (omega arith))
    ∙ sym (take-add (payload_bytes * n) payload_bytes ys))

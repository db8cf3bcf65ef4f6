-- Laws of fields and bytes, each over the widths. Assumes nothing.
use mathlib.Core.Path.{◌≡◌, refl, sym, ap, ap₂, ◌∙◌}
use mathlib.Core.Bool.{Bool, true, false, cond, ◌||◌, and-eq-true_iff}
use mathlib.Core.List.{List, [], ◌∷◌, ◌++◌, map, flat_map, append_assoc, append-nil}
use Prim.Native.Nat.{ℕ, zero, suc, ◌+◌, ◌*◌, ◌/◌, ◌%◌, ◌^◌, ◌≤◌, ◌<◌}
use native.Mathlib.Nat.{mod-eq_of_lt, mod-one, add-zero, zero-add, suc-add, add_comm, add_assoc, zero-mul, suc-mul, mul-le-mul_right, lt_of_lt_of_le, pow-suc}
use native.Mathlib.Numerals.{one-add}
use native.Mathlib.Omega.{arith}
use borrow.Author.Tests.{eq-eqb, eqb-true}
use lib.Dec.{eqb}
use lib.ListN.{length, get_or, take, drop, length-append, length-take, length-drop, take-append-drop}
use lib.Seq.{take-append-le, drop-append-le, take_at, drop_at, get_or-drop}
use lib.Pow.{pow_mono, pow-add, mod-pow-add, shr-shr}
use Rattle.octets.specs.Bits.{Field, field, bits, laid, number, octets, bytes_of, InWidth, Held, run, Bytes}
use Rattle.octets.specs.Checks.{check}
use Rattle.octets.specs.Each.{Each}
use Rattle.octets.specs.Same.{same}
use Rattle.octets.specs.Word.{word, high, low, word_bytes}

-- ---- a test goes one way or the other

pub either : {P : Type 0} (t : Bool) → (t ≡ true → P) → (t ≡ false → P) → P
either true a b = a refl
either false a b = b refl

-- what holds of both holds of the one that a test chooses
pub cond_both : {A : Type 0} (P : A → Type 0) (t : Bool) {a b : A} → P a → P b → P (cond t a b)
cond_both P true p q = p
cond_both P false p q = q

-- a test that passes n passes it still where n is added
pub test_again : (test : ℕ → Bool) (n m : ℕ) → test n ≡ true → test m ≡ eqb m n || test m
test_again test n m t = either (eqb m n) (λ e. ap test (eqb-true m n e) ∙ t ∙ sym (simp e refl)) (λ e. sym (simp e refl))

-- a rule that is not broken, by an answer that is not the one for it: what follows gives that answer
pub check_follows : {A : Type 0} (broken : Bool) {answer rest v : A} → (answer ≡ v → ⊥) → check broken answer rest ≡ v → (broken ≡ false) × (rest ≡ v)
check_follows true other e = absurd (other e)
check_follows false other e = (refl, e)

-- ---- equal byte strings

pub same_refl : (xs : List ℕ) → same xs xs ≡ true
same_refl [] = refl
same_refl (x ∷ xs) = simp (eq-eqb x x refl) (same_refl xs)

pub same_eq : (xs ys : List ℕ) → same xs ys ≡ true → xs ≡ ys
same_eq [] [] e = refl
same_eq [] (y ∷ ys) e = cc
same_eq (x ∷ xs) [] e = cc
same_eq (x ∷ xs) (y ∷ ys) e =
    let p = (and-eq-true_iff (eqb x y) (same xs ys)).0 e in
    ap₂ ◌∷◌ (eqb-true x y p.0) (same_eq xs ys p.1)

-- ---- every element of a joined list

module _ {A : Type 0} (P : A → Type 0) where
  pub each_append : (s t : List A) → Each P s → Each P t → Each P (s ++ t)
  each_append [] t p q = q
  each_append (x ∷ s) t p q = (p.0, each_append s t p.1 q)

  pub each_join : (n : ℕ) (s : List A) → Each P (take n s) → Each P (drop n s) → Each P s
  each_join zero s p q = q
  each_join (suc n) [] p q = tt
  each_join (suc n) (x ∷ s) p q = (p.0, each_join n s p.1 q)

  pub each_split : (n : ℕ) (s : List A) → Each P s → Each P (take n s) × Each P (drop n s)
  each_split zero s h = (tt, h)
  each_split (suc n) [] h = (tt, tt)
  each_split (suc n) (x ∷ s) h = let r = each_split n s h.1 in ((h.0, r.0), r.1)

  pub each_left : (s t : List A) → Each P (s ++ t) → Each P s
  each_left [] t h = tt
  each_left (x ∷ s) t h = (h.0, each_left s t h.1)

  pub each_right : (s t : List A) → Each P (s ++ t) → Each P t
  each_right [] t h = h
  each_right (x ∷ s) t h = each_right s t h.1

pub each_map : {A B : Type 0} (P : B → Type 0) (f : A → B) → ((a : A) → P (f a)) → (rs : List A) → Each P (map f rs)
each_map P f h [] = tt
each_map P f h (a ∷ rs) = (h a, each_map P f h rs)

-- ---- two-byte numbers

pub high_word : (a b : ℕ) → b < 256 → high (word a b) ≡ a
high_word a b h = omega arith

pub low_word : (a b : ℕ) → b < 256 → low (word a b) ≡ b
low_word a b h = omega arith

pub word-high-low : (w : ℕ) → word (high w) (low w) ≡ w
word-high-low w = omega arith

-- at a place of a list
pub get_d_there : (xs : List ℕ) (at : ℕ) → get_or (drop at xs) 0 0 ≡ get_or xs at 0
get_d_there xs at = get_or-drop at xs 0 0 ∙ ap (λ (k : ℕ). get_or xs k 0) (add-zero at)

pub word_there : (xs : List ℕ) (at : ℕ) → word (get_or (drop at xs) 0 0) (get_or (drop at xs) 1 0) ≡ word (get_or xs at 0) (get_or xs (at + 1) 0)
word_there xs at = ap₂ word (get_d_there xs at) (get_or-drop at xs 1 0)

-- ---- bits

pub length-bits : (w v : ℕ) → length (bits w v) ≡ w
unfolding bits
length-bits zero v = refl
length-bits (suc w) v = ap suc (length-bits w v)

-- a string of w bits says the number back, less what w bits don't hold
pub number-bits : (w v : ℕ) → number (bits w v) ≡ v % 2 ^ w
unfolding bits number
number-bits zero v = sym (mod-one v)
number-bits (suc w) v =
    ap₂ (λ (k m : ℕ). v / 2 ^ w % 2 * 2 ^ k + m) (length-bits w v) (number-bits w v)
    ∙ sym (ap (λ (k : ℕ). v % 2 ^ k) (sym (one-add w)) ∙ mod-pow-add v 1 w)

pub number_append : (s t : List ℕ) → number (s ++ t) ≡ number s * 2 ^ length t + number t
unfolding number
number_append [] t = omega arith
number_append (b ∷ s) t =
    ap₂ (λ (k m : ℕ). b * 2 ^ k + m) (length-append s t) (number_append s t)
    ∙ rw (pow-add 2 (length s) (length t)) (omega arith)

-- ---- fields

-- how many bits some fields have
abbrev pub width : List Field → ℕ
width [] = 0
width (field w v ∷ fs) = w + width fs

-- the number that some fields make together
abbrev pub packed : List Field → ℕ
packed [] = 0
packed (field w v ∷ fs) = v * 2 ^ width fs + packed fs

pub length-laid : (fs : List Field) → length (laid fs) ≡ width fs
unfolding laid
length-laid [] = refl
length-laid (field w v ∷ fs) = length-append (bits w v) (laid fs) ∙ ap₂ ◌+◌ (length-bits w v) (length-laid fs)

pub number-laid : (fs : List Field) → Held fs → number (laid fs) ≡ packed fs
unfolding laid number
number-laid [] h = refl
number-laid (field w v ∷ fs) h =
    number_append (bits w v) (laid fs)
    ∙ ap₂ (λ (k m : ℕ). k * 2 ^ length (laid fs) + m) (number-bits w v ∙ mod-eq_of_lt h.0) (number-laid fs h.1)
    ∙ ap (λ (k : ℕ). v * 2 ^ k + packed fs) (length-laid fs)

pub laid-append : (gs fs : List Field) → laid (gs ++ fs) ≡ laid gs ++ laid fs
unfolding laid
laid-append [] fs = refl
laid-append (field w v ∷ gs) fs = ap (λ (t : List ℕ). bits w v ++ t) (laid-append gs fs) ∙ sym (append_assoc (bits w v) (laid gs) (laid fs))

-- ---- every bit is 0 or 1

abbrev Bit : ℕ → Type 0
Bit b = b < 2

each_bits : (w v : ℕ) → Each Bit (bits w v)
unfolding bits
each_bits zero v = tt
each_bits (suc w) v = (omega arith, each_bits w v)

each_laid : (fs : List Field) → Each Bit (laid fs)
unfolding laid
each_laid [] = tt
each_laid (field w v ∷ fs) = each_append Bit (bits w v) (laid fs) (each_bits w v) (each_laid fs)

number_lt : (bs : List ℕ) → Each Bit bs → number bs < 2 ^ length bs
unfolding number
number_lt [] h = omega arith
number_lt (b ∷ bs) h =
    let one : b ≤ 1 = omega arith in
    omega (arith, number_lt bs h.1, mul-le-mul_right (2 ^ length bs) one, pow-suc 2 (length bs))

-- ---- lists of bytes

pub bytes_take : (n : ℕ) (xs : List ℕ) → Bytes xs → Bytes (take n xs)
bytes_take zero xs h = tt
bytes_take (suc n) [] h = tt
bytes_take (suc n) (x ∷ xs) h = (h.0, bytes_take n xs h.1)

pub bytes_drop : (n : ℕ) (xs : List ℕ) → Bytes xs → Bytes (drop n xs)
bytes_drop zero xs h = h
bytes_drop (suc n) [] h = tt
bytes_drop (suc n) (x ∷ xs) h = bytes_drop n xs h.1

pub bytes-append : (xs ys : List ℕ) → Bytes xs → Bytes ys → Bytes (xs ++ ys)
bytes-append [] ys g h = h
bytes-append (x ∷ xs) ys g h = (g.0, bytes-append xs ys g.1 h)

pub get_d_byte : (xs : List ℕ) (i : ℕ) → Bytes xs → get_or xs i 0 < 256
get_d_byte [] i h = omega arith
get_d_byte (x ∷ xs) zero h = h.0
get_d_byte (x ∷ xs) (suc i) h = get_d_byte xs i h.1

pub bytes_all : (xs : List ℕ) → ((i : ℕ) → get_or xs i 0 < 256) → Bytes xs
bytes_all [] h = tt
bytes_all (x ∷ xs) h = (h 0, bytes_all xs (λ i. h (suc i)))

-- a wide field's bits are those of its parts
pub bits_split : (j k v : ℕ) → bits (j + k) v ≡ bits j (v / 2 ^ k) ++ bits k v
unfolding bits
bits_split zero k v = ap (λ (n : ℕ). bits n v) (zero-add k)
bits_split (suc j) k v =
    ap (λ (n : ℕ). bits n v) (suc-add j k)
    ∙ ap₂ (λ (a : ℕ) (t : List ℕ). a % 2 ∷ t)
    (ap (λ (n : ℕ). v / 2 ^ n) (add_comm j k) ∙ sym (shr-shr v k j))
    (bits_split j k v)

-- ---- bytes that fields make

octets_cons : (s t : List ℕ) → length s ≡ 8 → octets (length (s ++ t) / 8) (s ++ t) ≡ number s ∷ octets (length t / 8) t
unfolding octets
octets_cons s t e =
    let n : length (s ++ t) / 8 ≡ suc (length t / 8) = omega (arith, length-append s t) in
    ap (λ (k : ℕ). octets k (s ++ t)) n
    ∙ ap₂ (λ (a b : List ℕ). number a ∷ octets (length t / 8) b) (take_at s t 8 e) (drop_at s t 8 e)

-- the fields gs, whatever comes after them, make the bytes xs
pub record Makes (gs : List Field) (xs : List ℕ) : Type 0 where
  pub made : Held gs → (fs : List Field) → bytes_of (gs ++ fs) ≡ xs ++ bytes_of fs

pub bytes_made : {gs : List Field} {xs : List ℕ} → Makes gs xs → Held gs → bytes_of gs ≡ xs
unfolding bytes_of laid octets
bytes_made {gs} {xs} m h = ap bytes_of (sym (append-nil gs)) ∙ m.made h [] ∙ append-nil xs

-- nothing makes nothing, and what some fields make comes before what the fields after them make
pub makes_nil : Makes [] []
makes_nil = record { made = λ h fs. refl }

pub makes_append : {gs hs : List Field} {xs ys : List ℕ} → Makes gs xs → Makes hs ys → Makes (gs ++ hs) (xs ++ ys)
makes_append {gs} {hs} {xs} {ys} m n =
    record {
      made = λ h fs.
          ap bytes_of (append_assoc gs hs fs)
          ∙ m.made (each_left InWidth gs hs h) (hs ++ fs)
          ∙ ap (λ (t : List ℕ). xs ++ t) (n.made (each_right InWidth gs hs h) fs)
          ∙ sym (append_assoc xs ys (bytes_of fs));
    }

-- fields that fill a byte
pub makes_byte : (gs : List Field) → width gs ≡ 8 → Makes gs (packed gs ∷ [])
unfolding bytes_of
makes_byte gs e =
    record {
      made = λ h fs.
          ap (λ (t : List ℕ). octets (length t / 8) t) (laid-append gs fs)
          ∙ octets_cons (laid gs) (laid fs) (length-laid gs ∙ e)
          ∙ ap (λ (k : ℕ). k ∷ bytes_of fs) (number-laid gs h);
    }

pub makes_octet : (x : ℕ) → Makes (field 8 x ∷ []) (x ∷ [])
makes_octet x =
    record { made = λ h fs. (makes_byte (field 8 x ∷ []) refl).made h fs ∙ ap (λ (k : ℕ). k ∷ bytes_of fs) (omega arith) }

-- the bits of a two-byte number, whatever it is cut from
octets-word : (v : ℕ) (t : List ℕ) → octets (length (bits 16 v ++ t) / 8) (bits 16 v ++ t) ≡ v / 256 % 256 ∷ v % 256 ∷ octets (length t / 8) t
octets-word v t =
    ap (λ (s : List ℕ). octets (length s / 8) s)
    (ap (λ (s : List ℕ). s ++ t) (bits_split 8 8 v) ∙ append_assoc (bits 8 (v / 256)) (bits 8 v) t)
    ∙ octets_cons (bits 8 (v / 256)) (bits 8 v ++ t) (length-bits 8 (v / 256))
    ∙ ap₂ ◌∷◌ (number-bits 8 (v / 256))
    (octets_cons (bits 8 v) t (length-bits 8 v) ∙ ap (λ (k : ℕ). k ∷ octets (length t / 8) t) (number-bits 8 v))

-- fields that fill two bytes
pub makes_two : (gs : List Field) → width gs ≡ 16 → Makes gs (word_bytes (packed gs))
unfolding bytes_of
makes_two gs e =
    record {
      made = λ h fs.
          let bs : List ℕ = laid gs in
          let long : length bs ≡ 16 = length-laid gs ∙ e in
          let first : length (take 8 bs) ≡ 8 = omega (arith, length-take 8 bs) in
          let second : length (drop 8 bs) ≡ 8 = omega (arith, length-drop 8 bs) in
          let whole : number (take 8 bs) * 256 + number (drop 8 bs) ≡ packed gs =
          ap (λ (k : ℕ). number (take 8 bs) * 2 ^ k + number (drop 8 bs)) (sym second)
          ∙ sym (number_append (take 8 bs) (drop 8 bs)) ∙ ap number (take-append-drop 8 bs) ∙ number-laid gs h in
          let low-lt : number (drop 8 bs) < 256 = omega (arith, number_lt (drop 8 bs) (each_split Bit 8 bs (each_laid gs)).1, ap (λ (k : ℕ). 2 ^ k) second) in
          let high_is : number (take 8 bs) ≡ high (packed gs) = omega arith in
          let low-is : number (drop 8 bs) ≡ low (packed gs) = omega arith in
          ap (λ (t : List ℕ). octets (length t / 8) t)
          (laid-append gs fs ∙ ap (λ (t : List ℕ). t ++ laid fs) (sym (take-append-drop 8 bs)) ∙ append_assoc (take 8 bs) (drop 8 bs) (laid fs))
          ∙ octets_cons (take 8 bs) (drop 8 bs ++ laid fs) first
          ∙ ap₂ ◌∷◌ high_is (octets_cons (drop 8 bs) (laid fs) second ∙ ap (λ (k : ℕ). k ∷ bytes_of fs) low-is);
    }

-- a two-byte number, and one of four bytes
pub makes_word : (v : ℕ) → Makes (field 16 v ∷ []) (word_bytes v)
makes_word v = record { made = λ h fs. (makes_two (field 16 v ∷ []) refl).made h fs ∙ ap (λ (k : ℕ). word_bytes k ++ bytes_of fs) (omega arith) }

pub makes_long : (v : ℕ) → Makes (field 32 v ∷ []) (word_bytes (v / 65536) ++ word_bytes (v % 65536))
unfolding bytes_of laid
makes_long v =
    record {
      made = λ h fs.
          let third : v / 256 % 256 ≡ high (v % 65536) = omega arith in
          let fourth : v % 256 ≡ low (v % 65536) = omega arith in
          ap (λ (s : List ℕ). octets (length s / 8) s)
          (ap (λ (s : List ℕ). s ++ laid fs) (bits_split 16 16 v) ∙ append_assoc (bits 16 (v / 65536)) (bits 16 v) (laid fs))
          ∙ octets-word (v / 65536) (bits 16 v ++ laid fs)
          ∙ ap₂ (λ (k : ℕ) (t : List ℕ). k ∷ low (v / 65536) ∷ t) (omega (arith, h.0)) (octets-word v (laid fs))
          ∙ ap₂ (λ (j k : ℕ). high (v / 65536) ∷ low (v / 65536) ∷ j ∷ k ∷ bytes_of fs) third fourth;
    }

-- fields that fill some bytes, whatever stands in them
octets-append : (n m : ℕ) (s t : List ℕ) → length s ≡ n * 8 → octets (n + m) (s ++ t) ≡ octets n s ++ octets m t
unfolding octets
octets-append zero m [] t e = ap (λ (k : ℕ). octets k t) (zero-add m)
octets-append zero m (b ∷ s) t e = absurd (omega arith)
octets-append (suc n) m s t e =
    let eight : 8 ≤ length s = omega arith in
    ap (λ (k : ℕ). octets k (s ++ t)) (suc-add n m)
    ∙ ap₂ (λ (a b : List ℕ). number a ∷ octets (n + m) b) (take-append-le 8 s t eight) (drop-append-le 8 s t eight)
    ∙ ap (λ (k : List ℕ). number (take 8 s) ∷ k) (octets-append n m (drop 8 s) t (omega (arith, length-drop 8 s)))

pub makes_bytes : (n : ℕ) (gs : List Field) → width gs ≡ n * 8 → Makes gs (octets n (laid gs))
unfolding bytes_of
makes_bytes n gs e =
    record {
      made = λ h fs.
          let count : length (laid gs ++ laid fs) / 8 ≡ n + length (laid fs) / 8 = omega (arith, length-append (laid gs) (laid fs), length-laid gs) in
          ap (λ (t : List ℕ). octets (length t / 8) t) (laid-append gs fs)
          ∙ ap (λ (k : ℕ). octets k (laid gs ++ laid fs)) count
          ∙ octets-append n (length (laid fs) / 8) (laid gs) (laid fs) (length-laid gs ∙ e);
    }

-- a run of bytes, and a run of rows
pub makes_run : (xs : List ℕ) → Makes (run xs) xs
makes_run [] = makes_nil
makes_run (x ∷ xs) = makes_append (makes_octet x) (makes_run xs)

pub makes_rows : {A : Type 0} (fields : A → List Field) (bytes : A → List ℕ) → ((a : A) → Makes (fields a) (bytes a)) → (rs : List A) → Makes (flat_map fields rs) (flat_map bytes rs)
unfolding flat_map
makes_rows fields bytes one [] = makes_nil
makes_rows fields bytes one (a ∷ rs) = makes_append (one a) (makes_rows fields bytes one rs)

-- rows that are made anew fit their fields where each of them does
pub held_rows : {A B : Type 0} (fields : A → List Field) (f : B → A) (g : A → B) → ((a : A) → Held (fields a) → Held (fields (f (g a)))) → (rs : List A) → Held (flat_map fields rs) → Held (flat_map fields (map f (map g rs)))
unfolding flat_map
held_rows fields f g one [] h = tt
held_rows fields f g one (a ∷ rs) h =
    each_append InWidth (fields (f (g a))) (flat_map fields (map f (map g rs)))
    (one a (each_left InWidth (fields a) (flat_map fields rs) h))
    (held_rows fields f g one rs (each_right InWidth (fields a) (flat_map fields rs) h))

-- ---- how many bytes fields make

pub length-octets : (n : ℕ) (bs : List ℕ) → length (octets n bs) ≡ n
unfolding octets
length-octets zero bs = refl
length-octets (suc n) bs = ap suc (length-octets n (drop 8 bs))

pub length-bytes_of : (fs : List Field) → length (bytes_of fs) ≡ width fs / 8
unfolding bytes_of
length-bytes_of fs = length-octets (length (laid fs) / 8) (laid fs) ∙ ap (λ (n : ℕ). n / 8) (length-laid fs)

pub width_append : (gs fs : List Field) → width (gs ++ fs) ≡ width gs + width fs
width_append [] fs = sym (zero-add (width fs))
width_append (field w v ∷ gs) fs = ap (λ (n : ℕ). w + n) (width_append gs fs) ∙ sym (add_assoc w (width gs) (width fs))

pub width_each : (w : ℕ) (xs : List ℕ) → width (map (field w) xs) ≡ length xs * w
width_each w [] = sym (zero-mul w)
width_each w (x ∷ xs) = ap (λ (n : ℕ). w + n) (width_each w xs) ∙ add_comm w (length xs * w) ∙ sym (suc-mul (length xs) w)

pub width_run : (xs : List ℕ) → width (run xs) ≡ length xs * 8
width_run xs = width_each 8 xs

-- ---- what fields make are bytes: at most eight bits make one

octets-bytes : (n : ℕ) (bs : List ℕ) → Each Bit bs → Bytes (octets n bs)
unfolding octets
octets-bytes zero bs h = tt
octets-bytes (suc n) bs h =
    let p = each_split Bit 8 bs h in
    let eight : length (take 8 bs) ≤ 8 = omega (arith, length-take 8 bs) in
    (lt_of_lt_of_le (number_lt (take 8 bs) p.0) (pow_mono eight), octets-bytes n (drop 8 bs) p.1)

pub bytes-bytes_of : (fs : List Field) → Bytes (bytes_of fs)
unfolding bytes_of
bytes-bytes_of fs = octets-bytes (length (laid fs) / 8) (laid fs) (each_laid fs)

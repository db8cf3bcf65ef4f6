-- Laws of the slots' definitions in the code's own terms. Assumes nothing.
use mathlib.Core.Path.{◌≡◌, refl, sym, ap, ap₂, ◌∙◌}
use mathlib.Core.Bool.{Bool, true, false, ◌&&◌, true≢false}
use mathlib.Core.List.{List}
use Prim.Native.Nat.{ℕ, zero, suc, ◌+◌, ◌-◌, ◌*◌, ◌/◌, ◌^◌, ◌≤◌, ◌<◌}
use native.Mathlib.Nat.{add-zero, add_assoc, div-lt_iff_lt-mul}
use native.Mathlib.Numerals.{add-one}
use native.Mathlib.Omega.{arith}
use borrow.Author.Tests.{lt-ltb, le-ltb, ltb-true, ltb-false, eq-eqb, ne_eqb, eqb-true}
use lib.Dec.{lit≤, eqb, ltb}
use lib.ListN.{length, get_or, take, drop}
use lib.Seq.{ext_get_or}
use lib.Pow.{pow_pos}
use Rattle.meaning.specs.Sizes.{longest_chunk}
use Rattle.slots.specs.declared.Slot.{Slot}
use Rattle.octets.specs.Same.{same}
use Rattle.octets.proofs.Laws.{either, same_refl, same_eq}
use Rattle.segments.specs.Segment.{payload_bytes, most_segments, place_of}
use Rattle.octets.specs.Sets.{holds}
use Rattle.segments.proofs.Places.{get_d_part, length_part}
use Rattle.slots.specs.Words.{eight}
use Rattle.slots.specs.Slots.{zeros, numbers_fit, bytes_fit, slot_fits}
use Rattle.slots.proofs.Keeps.{clean, below_all}

-- two tests that pass together are equal
both : (s t : Bool) → (s ≡ true → t ≡ true) → (t ≡ true → s ≡ true) → s ≡ t
both true t f g = sym (f refl)
both false true f g = g refl
both false false f g = refl

-- ---- the set of held places

none_above : (held last : ℕ) → ltb (held / 2 ^ last) 2 ≡ ltb held (2 ^ (last + 1))
none_above held last =
    let half = div-lt_iff_lt-mul {x = held} {y = 2} (pow_pos last) in
    rw (add-one last)
    (both (ltb (held / 2 ^ last) 2) (ltb held (2 ^ suc last))
    (λ t. lt-ltb held (2 ^ suc last) (omega (arith, half.0 (ltb-true _ _ t))))
    (λ t. lt-ltb _ _ (half.1 (omega (arith, ltb-true held (2 ^ suc last) t)))))

module _ (s : Slot) where
  pub none_fits : s.held ≡ 0 → eqb s.last 0 ≡ numbers_fit s
  none_fits z = simp (eq-eqb _ _ z)

  module _ (some : s.held ≡ 0 → ⊥) where
    pub spoiled_unfit : s.spoiled ≡ true → false ≡ numbers_fit s
    spoiled_unfit e = simp (ne_eqb _ _ some, e)

    pub high_unfit : s.spoiled ≡ false → most_segments ≤ s.last → false ≡ numbers_fit s
    high_unfit e h = simp (ne_eqb _ _ some, e, le-ltb _ _ h)

    pub low_fits : (b : ℕ) → s.spoiled ≡ false → s.last < most_segments → b ≡ 2 ^ s.last → ltb (s.held / b) 2 ≡ numbers_fit s
    low_fits b e h is = simp (ne_eqb _ _ some, e, lt-ltb _ _ h, is) (none_above s.held s.last)

-- ---- equal bytes

-- the number that n bytes make, the lowest first
abbrev word : ℕ → (ℕ → ℕ) → ℕ
word zero f = 0
word (suc n) f = f zero + word n (λ i. f (suc i)) * 256

word_equal : (n : ℕ) (f g : ℕ → ℕ) → ((i : ℕ) → i < n → f i ≡ g i) → word n f ≡ word n g
word_equal zero f g e = refl
word_equal (suc n) f g e =
    ap₂ (λ (a b : ℕ). a + b * 256) (e 0 (omega arith)) (word_equal n (λ i. f (suc i)) (λ i. g (suc i)) (λ i h. e (suc i) (omega arith)))

word_says : (n : ℕ) (f g : ℕ → ℕ) → ((i : ℕ) → f i < 256) → ((i : ℕ) → g i < 256) → word n f ≡ word n g → (i : ℕ) → i < n → f i ≡ g i
word_says zero f g p q e i h = absurd (omega arith)
word_says (suc n) f g p q e zero h = omega (arith, p 0, q 0)
word_says (suc n) f g p q e (suc i) h =
    word_says n (λ i. f (suc i)) (λ i. g (suc i)) (λ i. p (suc i)) (λ i. q (suc i)) (omega (arith, p 0, q 0)) i (omega arith)

eight-word : (xs : List ℕ) (a : ℕ) → eight xs a ≡ word 8 (λ i. get_or xs (a + i) 0)
eight-word xs a = omega (arith, ap (λ (k : ℕ). get_or xs k 0) (add-zero a))

-- a list of bytes; n bytes of xs from a on are those of ys from b on
abbrev pub Octets : List ℕ → Type 0
Octets xs = (i : ℕ) → get_or xs i 0 < 256

abbrev Agree : List ℕ → List ℕ → ℕ → ℕ → ℕ → Type 0
Agree xs ys a b n = (i : ℕ) → i < n → get_or xs (a + i) 0 ≡ get_or ys (b + i) 0

module _ (xs ys : List ℕ) (a b n k : ℕ) where
  agree_more : Octets xs → Octets ys → Agree xs ys a b n → k ≤ n → eight xs (a + k) ≡ eight ys (b + k) → Agree xs ys a b (k + 8)
  agree_more p q before h e i less = go (ltb i n) refl
    where
      go : (t : Bool) → ltb i n ≡ t → get_or xs (a + i) 0 ≡ get_or ys (b + i) 0
      go true t = before i (ltb-true i n t)
      go false t =
          let past = ltb-false i n t in
          let here : a + i ≡ a + k + (i - k) = omega arith in
          let there : b + i ≡ b + k + (i - k) = omega arith in
          let equal = sym (eight-word xs (a + k)) ∙ e ∙ eight-word ys (b + k) in
          rw (here, there)
          (word_says 8 (λ j. get_or xs (a + k + j) 0) (λ j. get_or ys (b + k + j) 0) (λ j. p (a + k + j)) (λ j. q (b + k + j)) equal (i - k) (omega arith))

  eight_agree : k + 8 ≤ n → Agree xs ys a b n → eight xs (a + k) ≡ eight ys (b + k)
  eight_agree h all =
      eight-word xs (a + k)
      ∙ word_equal 8 (λ i. get_or xs (a + k + i) 0) (λ i. get_or ys (b + k + i) 0) (λ i l. rw (add_assoc a k i, add_assoc b k i) (all (k + i) (omega arith)))
      ∙ sym (eight-word ys (b + k))

-- what a test t on bytes tells: n of them are equal if it passes, and it passes if the whole payload is
pub record Tells (xs ys : List ℕ) (a b : ℕ) (t : Bool) (n : ℕ) : Type 0 where
  pub left : Octets xs
  pub right : Octets ys
  pub passed : t ≡ true → Agree xs ys a b n
  pub whole : Agree xs ys a b payload_bytes → t ≡ true

module _ {xs ys : List ℕ} {a b : ℕ} {f g : Bool} {n : ℕ} (h : Tells xs ys a b f n) where
  -- one word more
  pub tells_more : (k x y : ℕ) → k ≤ n → k + 8 ≤ payload_bytes → f ≡ true → x ≡ eight xs (a + k) → y ≡ eight ys (b + k) → g ≡ eqb x y → Tells xs ys a b g (k + 8)
  tells_more k x y l m e p q is =
      record {
        left = h.left;
        right = h.right;
        passed = λ t. agree_more xs ys a b n k h.left h.right (h.passed e) l (sym p ∙ eqb-true x y (sym is ∙ t) ∙ q);
        whole = λ all. is ∙ eq-eqb x y (p ∙ eight_agree xs ys a b payload_bytes k m all ∙ sym q);
      }

  -- none more, after a word that differs
  pub tells_less : (m : ℕ) → f ≡ false → g ≡ f → Tells xs ys a b g m
  tells_less m e is =
      record {
        left = h.left;
        right = h.right;
        passed = λ t. absurd (true≢false (sym t ∙ is ∙ e));
        whole = λ all. is ∙ h.whole all;
      }

pub tells_first : (xs ys : List ℕ) (a b x y : ℕ) → Octets xs → Octets ys → x ≡ eight xs a → y ≡ eight ys b → Tells xs ys a b (eqb x y) 8
tells_first xs ys a b x y p q e d =
    let none : Tells xs ys a b true 0 = record { left = p; right = q; passed = λ t i h. absurd (omega arith); whole = λ all. refl } in
    tells_more none 0 x y (lit≤ tt) (lit≤ tt) refl (e ∙ ap (eight xs) (sym (add-zero a))) (d ∙ ap (eight ys) (sym (add-zero b))) refl

pub tells_same : {xs ys : List ℕ} {a b : ℕ} {f : Bool} → Tells xs ys a b f payload_bytes → a + payload_bytes ≤ length xs → b + payload_bytes ≤ length ys → f ≡ same (take payload_bytes (drop a xs)) (take payload_bytes (drop b ys))
tells_same {xs} {ys} {a} {b} {f} h l m =
    let part : List ℕ = take payload_bytes (drop a xs) in
    let other : List ℕ = take payload_bytes (drop b ys) in
    let long : length part ≡ payload_bytes = length_part xs a l in
    let equal : Agree xs ys a b payload_bytes → part ≡ other =
    λ all. ext_get_or 0 part other (long ∙ sym (length_part ys b m))
    (λ i less. let inside : i < payload_bytes = omega arith in get_d_part xs a i inside ∙ all i inside ∙ sym (get_d_part ys b i inside)) in
    both f (same part other)
    (λ t. ap (same part) (sym (equal (h.passed t))) ∙ same_refl part)
    (λ t. h.whole (λ i less. sym (get_d_part xs a i less) ∙ ap (λ (s : List ℕ). get_or s i 0) (same_eq part other t) ∙ get_d_part ys b i less))

-- ---- a place that is neither held nor all zeros

pub unclean : (held : ℕ) (bytes : List ℕ) (n : ℕ) {h s : Bool} → n < most_segments → h ≡ holds held n → h ≡ false → s ≡ same (place_of bytes n) (zeros payload_bytes) → s ≡ false → false ≡ bytes_fit held bytes
unclean held bytes n l is free so other =
    let fails : clean held bytes n ≡ false = simp (sym is ∙ free) (sym so ∙ other) in
    either (bytes_fit held bytes)
    (λ e. absurd (true≢false (sym (below_all most_segments (clean held bytes) e n l) ∙ fails)))
    (λ e. sym e)

-- ---- a slot of the right length

module _ (s : Slot) (bytes : List ℕ) {n : Bool} (long : length bytes ≡ longest_chunk) (is : n ≡ numbers_fit s) where
  fits_both : (t : Bool) → n ≡ t → t && bytes_fit s.held bytes ≡ slot_fits s bytes
  unfolding slot_fits
  fits_both t e = sym (ap₂ (λ (l m : Bool). l && (m && bytes_fit s.held bytes)) (eq-eqb (length bytes) longest_chunk long) (sym is ∙ e))

  pub slot-fits : {b : Bool} → n ≡ true → b ≡ bytes_fit s.held bytes → b ≡ slot_fits s bytes
  slot-fits e b = b ∙ fits_both true e

  pub slot_unfit : n ≡ false → n ≡ slot_fits s bytes
  slot_unfit e = e ∙ fits_both false e

pub slot_long : (s : Slot) (bytes : List ℕ) → (length bytes ≡ longest_chunk → ⊥) → false ≡ slot_fits s bytes
unfolding slot_fits
slot_long s bytes h = simp (ne_eqb _ _ h)

-- Laws of walks over things, and of the bytes that they go over. Assumes nothing.
use mathlib.Core.Path.{◌≡◌, refl, sym, ap, ◌∙◌}
use mathlib.Core.Bool.{Bool, true, false}
use mathlib.Core.List.{List, [], ◌∷◌, ◌++◌, flat_map, append_assoc, append-nil}
use Prim.Native.Nat.{ℕ, zero, suc, ◌+◌, ◌-◌, ◌≤◌, ◌<◌}
use native.Mathlib.Nat.{add-zero}
use native.Mathlib.Numerals.{add-one}
use native.Mathlib.Omega.{arith}
use borrow.Author.Tests.{ltb-true, ltb-false, lt-ltb, le-ltb}
use lib.Dec.{ltb}
use lib.ListN.{length, get_or, take, drop, length-append, length-drop, take-append-drop}
use lib.Seq.{drop-drop, drop-cons, drop-append_seam, take-append_seam, drop-length, length-take-le}
use Rattle.std.specs.Prelude.{Ok, Err}
use Rattle.octets.specs.Checks.{check}
use Rattle.octets.proofs.Laws.{either, cond_both, check_follows, get_d_there}
use Rattle.sections.specs.declared.Refusal.{Refusal}
use Rattle.sections.specs.declared.Refusal.TheVariants.{RunsOver}
use Rattle.sections.specs.Walks.{Walk, and_then, offset_of, place_of, name_bytes, thing, name_at}

-- ---- walks

err≢ok : {f : Refusal} {b : ℕ} → ◌≡◌ {A = Walk} (Err f) (Ok b) → ⊥
err≢ok e = cc

-- where a walk reaches its end, what it begins with is there
pub thing_goes : (xs : List ℕ) (at bytes : ℕ) (more : ℕ → Walk) {b : ℕ} → thing xs at bytes more ≡ Ok b → (at + bytes ≤ length xs) × (more (at + bytes) ≡ Ok b)
thing_goes xs at bytes more e = let p = check_follows _ err≢ok e in (ltb-false _ _ p.0, p.1)

pub thing_there : (xs : List ℕ) (at bytes : ℕ) (more : ℕ → Walk) → at + bytes ≤ length xs → thing xs at bytes more ≡ more (at + bytes)
thing_there xs at bytes more h = simp (le-ltb _ _ h)

pub then_goes : (w : Walk) (more : ℕ → Walk) {b : ℕ} → and_then w more ≡ Ok b → (w ≡ Ok (place_of w)) × (more (place_of w) ≡ Ok b)
then_goes (Ok at) more e = (refl, e)
then_goes (Err f) more e = cc

pub then_there : {w : Walk} (more : ℕ → Walk) {at : ℕ} → w ≡ Ok at → and_then w more ≡ more at
then_there more e = ap (λ (t : Walk). and_then t more) e

then_to : (w : Walk) {more : ℕ → Walk} → ((at : ℕ) → more at ≡ Ok at) → and_then w more ≡ w
then_to (Ok at) e = e at
then_to (Err f) e = refl

-- a walk and what follows it, in two parts
pub then_then : (w : Walk) {f : ℕ → Walk} (g h : ℕ → Walk) → ((at : ℕ) → f at ≡ and_then (g at) h) → and_then w f ≡ and_then (and_then w g) h
then_then (Ok at) g h e = e at
then_then (Err f) g h e = refl

pub thing_then : (xs : List ℕ) (at bytes : ℕ) (more : ℕ → Walk) → thing xs at bytes more ≡ and_then (thing xs at bytes Ok) more
thing_then xs at bytes more = go (ltb (length xs) (at + bytes)) where
  go : (t : Bool) → check t (Err (RunsOver at)) (more (at + bytes)) ≡ and_then (check t (Err (RunsOver at)) (Ok (at + bytes))) more
  go true = refl
  go false = refl

-- ---- a walk is cut by nothing but a thing that runs past the end

abbrev pub Cuts : Walk → Type 0
Cuts (Ok at) = Unit {0}
Cuts (Err f) = f ≡ RunsOver (offset_of f)

pub thing_cuts : (xs : List ℕ) (at bytes : ℕ) (more : ℕ → Walk) → ((b : ℕ) → Cuts (more b)) → Cuts (thing xs at bytes more)
thing_cuts xs at bytes more one = cond_both Cuts (ltb (length xs) (at + bytes)) refl (one (at + bytes))

pub then_cuts : (w : Walk) (more : ℕ → Walk) → Cuts w → ((b : ℕ) → Cuts (more b)) → Cuts (and_then w more)
then_cuts (Ok at) more c one = one at
then_cuts (Err f) more c one = c

-- ---- a step over some bytes

module _ (xs : List ℕ) (at bytes : ℕ) where
  -- that goes on
  pub step_goes : {b : ℕ} → Ok b ≡ thing xs at bytes Ok → (b ≡ at + bytes) × (b ≤ length xs)
  step_goes {b} e =
      let g = thing_goes xs at bytes Ok (sym e) in
      let end : b ≡ at + bytes = cc in
      (end, omega (arith, g.0))

  -- and what follows it
  pub step_then : (more : ℕ → Walk) {w : Walk} → w ≡ thing xs at bytes Ok → thing xs at bytes more ≡ and_then w more
  step_then more e = thing_then xs at bytes more ∙ ap (λ (t : Walk). and_then t more) (sym e)

  -- that is cut: so are more bytes
  pub step_cut : (longer : ℕ) {f : Refusal} → bytes ≤ longer → Err f ≡ thing xs at bytes Ok → (more : ℕ → Walk) → Err f ≡ thing xs at longer more
  step_cut longer {f} h e more = go (ltb (length xs) (at + bytes)) refl e
    where
      go : (t : Bool) → ltb (length xs) (at + bytes) ≡ t → Err f ≡ check t (Err (RunsOver at)) (Ok (at + bytes)) → Err f ≡ thing xs at longer more
      go true t e = let over = ltb-true (length xs) (at + bytes) t in simp (lt-ltb (length xs) (at + longer) (omega arith)) e
      go false t e = cc

-- ---- a walk from a place goes no way back, and ends or is cut inside of the bytes

pub record Inside (xs : List ℕ) (at : ℕ) (w : Walk) : Type 0 where
  pub forth : at ≤ place_of w
  pub short : place_of w ≤ length xs

pub walk_within : {xs : List ℕ} {at b : ℕ} {w : Walk} → Inside xs at w → w ≡ Ok b → (at ≤ b) × (b ≤ length xs)
walk_within h e = let end = ap place_of e in (omega (arith, h.forth), omega (arith, h.short))

module _ (xs : List ℕ) where
  pub thing-inside : (at bytes : ℕ) (more : ℕ → Walk) → at ≤ length xs → ((b : ℕ) → b ≤ length xs → Inside xs b (more b)) → Inside xs at (thing xs at bytes more)
  thing-inside at bytes more h one =
      either (ltb (length xs) (at + bytes)) (λ t. rw t (record { forth = omega arith; short = h }))
      (λ f. let m = one (at + bytes) (ltb-false _ _ f) in rw f (record { forth = omega (arith, m.forth); short = m.short }))

  pub then_inside : {at : ℕ} (w : Walk) (more : ℕ → Walk) → Inside xs at w → ((b : ℕ) → b ≤ length xs → Inside xs b (more b)) → Inside xs at (and_then w more)
  then_inside (Ok b) more h one = let m = one b h.short in record { forth = omega (arith, h.forth, m.forth); short = m.short }
  then_inside (Err f) more h one = h

-- ---- the bytes of xs from a place up to another are ys

pub record Over (xs : List ℕ) (at : ℕ) (ys : List ℕ) (b : ℕ) : Type 0 where
  pub ends : at + length ys ≡ b
  pub within : b ≤ length xs
  pub bytes : drop at xs ≡ ys ++ drop b xs

module _ (xs : List ℕ) where
  over_nil : (at : ℕ) → at ≤ length xs → Over xs at [] at
  over_nil at h = record { ends = omega arith; within = h; bytes = refl }

  pub over_append : {at b c : ℕ} {ys zs : List ℕ} → Over xs at ys b → Over xs b zs c → Over xs at (ys ++ zs) c
  over_append {at} {b} {c} {ys} {zs} o p =
      record {
        ends = omega (arith, length-append ys zs, o.ends, p.ends);
        within = p.within;
        bytes = o.bytes ∙ ap (λ (t : List ℕ). ys ++ t) p.bytes ∙ sym (append_assoc ys zs (drop c xs));
      }

  pub over_byte : (at : ℕ) → at < length xs → Over xs at (get_or xs at 0 ∷ []) (at + 1)
  over_byte at h = record { ends = refl; within = omega arith; bytes = drop-cons xs at 0 h ∙ rw add-one }

  -- n bytes, one by one
  abbrev pub bytes_from : ℕ → ℕ → List ℕ
  bytes_from zero at = []
  bytes_from (suc n) at = get_or xs at 0 ∷ bytes_from n (at + 1)

  pub over_bytes : (n at : ℕ) → at + n ≤ length xs → Over xs at (bytes_from n at) (at + n)
  over_bytes zero at h = rw add-zero (over_nil at (omega arith))
  over_bytes (suc n) at h =
      let end : at + 1 + n ≡ at + suc n = omega arith in
      rw (← end) (over_append (over_byte at (omega arith)) (over_bytes n (at + 1) (omega arith)))

  over_take : (at n : ℕ) → at + n ≤ length xs → Over xs at (take n (drop at xs)) (at + n)
  over_take at n h =
      record {
        ends = ap (λ (k : ℕ). at + k) (length-take-le n (drop at xs) (omega (arith, length-drop at xs)));
        within = h;
        bytes = sym (take-append-drop n (drop at xs)) ∙ ap (λ (t : List ℕ). take n (drop at xs) ++ t) (drop-drop n at xs);
      }

  pub over_split : {at c : ℕ} (ys zs : List ℕ) → Over xs at (ys ++ zs) c → Over xs at ys (at + length ys) × Over xs (at + length ys) zs c
  over_split {at} {c} ys zs o =
      let whole : drop at xs ≡ ys ++ (zs ++ drop c xs) = o.bytes ∙ append_assoc ys zs (drop c xs) in
      let behind : drop (at + length ys) xs ≡ zs ++ drop c xs = sym (drop-drop (length ys) at xs) ∙ ap (drop (length ys)) whole ∙ drop-append_seam ys (zs ++ drop c xs) in
      let long = length-append ys zs in (
        record { ends = refl; within = omega (arith, o.ends, o.within); bytes = whole ∙ ap (λ (t : List ℕ). ys ++ t) (sym behind) },
        record { ends = omega (arith, o.ends); within = o.within; bytes = behind },
      )

  pub over_first : {at b y : ℕ} {ys : List ℕ} → Over xs at (y ∷ ys) b → get_or xs at 0 ≡ y
  over_first {at} o = sym (get_d_there xs at) ∙ ap (λ (t : List ℕ). get_or t 0 0) o.bytes

  over_read : {at b : ℕ} {ys : List ℕ} → Over xs at ys b → take (length ys) (drop at xs) ≡ ys
  over_read {at} {b} {ys} o = ap (take (length ys)) o.bytes ∙ take-append_seam ys (drop b xs)

  -- all of them
  none_left : (ys : List ℕ) → ys ≡ ys ++ drop (length xs) xs
  none_left ys = rw (drop-length, append-nil)

  pub over_whole : {ys : List ℕ} → Over xs 0 ys (length xs) → ys ≡ xs
  over_whole {ys} o = none_left ys ∙ sym o.bytes

  pub whole_over : Over xs 0 xs (length xs)
  whole_over = record { ends = omega arith; within = omega arith; bytes = none_left xs }

  -- a length byte, and that many bytes
  pub text_over : (at : ℕ) → at + name_bytes xs at ≤ length xs → Over xs at (length (name_at xs at) ∷ name_at xs at) (at + name_bytes xs at)
  text_over at h =
      let n : ℕ = get_or xs at 0 in
      let o = over_take (at + 1) n (omega arith) in
      let long : n ≡ length (name_at xs at) = omega (arith, o.ends) in
      let end : at + 1 + n ≡ at + name_bytes xs at = omega arith in
      rw (← end, ← long) (over_append (over_byte at (omega arith)) o)

  pub text-read : {at b : ℕ} (t : List ℕ) → Over xs at (length t ∷ t) b → (at + name_bytes xs at ≡ b) × (name_at xs at ≡ t)
  text-read {at} {b} t o =
      let n = over_first o in
      let p = (over_split (length t ∷ []) t o).1 in
      (omega (arith, p.ends), ap (λ (k : ℕ). take k (drop (at + 1) xs)) n ∙ over_read p)

-- ---- things of one kind, one after the other

-- the walk over n of them
pub record Repeats (one : ℕ → Walk) (all : ℕ → ℕ → Walk) : Type 0 where
  pub none : (at : ℕ) → all 0 at ≡ Ok at
  pub more : (n at : ℕ) → all (suc n) at ≡ and_then (one at) (all n)

-- with k of n behind
module _ {one : ℕ → Walk} {all : ℕ → ℕ → Walk} (r : Repeats one all) (n k at : ℕ) {w : Walk} (whole : all (n - k) at ≡ w) where
  repeats_next : k < n → w ≡ and_then (one at) (all (n - (k + 1)))
  repeats_next h = let left : n - k ≡ suc (n - (k + 1)) = omega arith in sym whole ∙ ap (λ (m : ℕ). all m at) left ∙ r.more (n - (k + 1)) at

  pub repeats_goes : k < n → {b : ℕ} → Ok b ≡ one at → all (n - (k + 1)) b ≡ w
  repeats_goes h e = sym (repeats_next h ∙ then_there (all (n - (k + 1))) (sym e))

  pub repeats_cut : k < n → {f : Refusal} → Err f ≡ one at → Err f ≡ w
  repeats_cut h e = sym (repeats_next h ∙ ap (λ (t : Walk). and_then t (all (n - (k + 1)))) (sym e))

  pub repeats_end : n ≤ k → Ok at ≡ w
  repeats_end h = let none : n - k ≡ 0 = omega arith in sym (r.none at) ∙ ap (λ (m : ℕ). all m at) (sym none) ∙ whole

-- by the last of them
pub repeats_snoc : {one : ℕ → Walk} {all : ℕ → ℕ → Walk} → Repeats one all → (n at : ℕ) → all (suc n) at ≡ and_then (all n at) one
repeats_snoc {one} {all} r zero at = r.more 0 at ∙ then_to (one at) r.none ∙ sym (then_there one (r.none at))
repeats_snoc {one} {all} r (suc n) at =
    r.more (suc n) at ∙ then_then (one at) (all n) one (repeats_snoc r n) ∙ ap (λ (w : Walk). and_then w one) (sym (r.more n at))

pub repeats-inside : {xs : List ℕ} {one : ℕ → Walk} {all : ℕ → ℕ → Walk} → Repeats one all → ((at : ℕ) → at ≤ length xs → Inside xs at (one at)) → (n at : ℕ) → at ≤ length xs → Inside xs at (all n at)
repeats-inside {xs} {one} {all} r once zero at h = rw (r.none at) (record { forth = omega arith; short = h })
repeats-inside {xs} {one} {all} r once (suc n) at h =
    rw (r.more n at) (then_inside xs (one at) (all n) (once at h) (repeats-inside r once n))

pub repeats_cuts : {one : ℕ → Walk} {all : ℕ → ℕ → Walk} → Repeats one all → ((at : ℕ) → Cuts (one at)) → (n at : ℕ) → Cuts (all n at)
repeats_cuts r once zero at = rw (r.none at) tt
repeats_cuts {one} {all} r once (suc n) at = rw (r.more n at) (then_cuts (one at) (all n) (once at) (repeats_cuts r once n))

-- and what they are
unfoldable pub things : {A : Type 0} → (ℕ → Walk) → (ℕ → A) → ℕ → ℕ → List A
things one read zero at = []
things one read (suc n) at = read at ∷ things one read n (place_of (one at))

pub length_things : {A : Type 0} (one : ℕ → Walk) (read : ℕ → A) (n at : ℕ) → length (things one read n at) ≡ n
unfolding things
length_things one read zero at = refl
length_things one read (suc n) at = ap suc (length_things one read n (place_of (one at)))

-- a kind of thing is read as the layout has it: a walk over one goes over its row, and a row is gone over, and read
pub record Reads {A : Type 0} (xs : List ℕ) (one : ℕ → Walk) (read : ℕ → A) (row : A → List ℕ) : Type 0 where
  pub over : (at : ℕ) {b : ℕ} → at ≤ length xs → one at ≡ Ok b → Over xs at (row (read at)) b
  pub back : (a : A) {at b : ℕ} → Over xs at (row a) b → (one at ≡ Ok b) × (read at ≡ a)

module _ {A : Type 0} {xs : List ℕ} {one : ℕ → Walk} {all : ℕ → ℕ → Walk} {read : ℕ → A} {row : A → List ℕ} (reads : Reads xs one read row) (repeats : Repeats one all) where
  pub things_over : (n at : ℕ) {b : ℕ} → at ≤ length xs → all n at ≡ Ok b → Over xs at (flat_map row (things one read n at)) b
  unfolding things flat_map
  things_over zero at {b} h e = let stay : at ≡ b = cc (repeats.none at) in rw (← stay) (over_nil xs at h)
  things_over (suc n) at {b} h e =
      let g = then_goes (one at) (all n) (sym (repeats.more n at) ∙ e) in
      let o = reads.over at h g.0 in
      over_append xs o (things_over n (place_of (one at)) o.within g.1)

  pub things_back : (rs : List A) {at b : ℕ} → Over xs at (flat_map row rs) b → (all (length rs) at ≡ Ok b) × (things one read (length rs) at ≡ rs)
  unfolding things flat_map
  things_back [] {at} {b} o = let stay : at ≡ b = omega (arith, o.ends) in (repeats.none at ∙ ap Ok stay, refl)
  things_back (a ∷ rs) {at} {b} o =
      let p = over_split xs (row a) (flat_map row rs) o in
      let first = reads.back a p.0 in
      let rest = things_back rs p.1 in (
        repeats.more (length rs) at ∙ then_there (all (length rs)) first.0 ∙ rest.0,
        (λ i. first.1 i ∷ things one read (length rs) (place_of (first.0 i))) ∙ ap (λ (t : List A). a ∷ t) rest.1,
      )

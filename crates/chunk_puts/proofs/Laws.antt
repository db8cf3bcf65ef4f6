-- Laws of the bytes that are put for a chunk. Assumes nothing.
use mathlib.Core.Path.{◌≡◌, refl, sym, ap, ◌∙◌}
use mathlib.Core.Bool.{true, and-eq-true_iff}
use mathlib.Core.List.{List, [], ◌∷◌, ◌++◌}
use Prim.Native.Nat.{ℕ, zero, suc, ◌+◌, ◌-◌, ◌*◌, ◌≤◌, ◌<◌}
use native.Mathlib.Omega.{arith}
use borrow.Author.Tests.{leb-true}
use lib.Dec.{eqb}
use lib.ListN.{length, get_or, drop, length-append}
use lib.Seq.{drop-drop, sets, length-sets}
use Rattle.octets.proofs.Stores.{sets_behind}
use Rattle.meaning.specs.declared.Kind.{Kind}
use Rattle.meaning.specs.Sizes.{chunk_header_bytes, ensemble_bytes, service_bytes, ts_bytes, en_bytes, sv_bytes, most_flags, most_multi, most_status}
use Rattle.meaning.specs.Lists.{current_of}
use Rattle.meaning.specs.Listing.{mark_ts, mark_en, mark_sv}
use Rattle.meaning.proofs.Counts.{leb_and, stands_and}
use Rattle.meaning.specs.Said.{sv_fits, services_fit, en_fits, ensembles_fit, listing_fits, id_said, count_said, after_en, after_services}
use Rattle.listing_checks.proofs.Checks.{records_said, next, next_is, records_there, ensembles_next}
use Rattle.chunk_puts.specs.Laid.{ServiceSaid, service_laid, services_laid, EnsembleSaid, ensemble_laid, ensembles_laid, chunk_laid}

-- ---- the services of an ensemble, one after the other

service_said : (e : ℕ) (zs : List ℕ) → sv_fits e zs ≡ true → ServiceSaid zs
unfolding sv_fits
service_said e zs fits =
    let head = stands_and mark_sv sv_bytes zs fits in
    let own = (and-eq-true_iff (eqb (get_or zs 2 0) e) _).0 head.1 in
    let most = leb_and (get_or zs 5 0) most_multi own.1 in
    let more = leb_and (get_or zs 6 0) most_status most.1 in
    record { there = head.0; multi = most.0; status = more.0; sp = leb-true _ _ more.1 }

pub services_said : (e n : ℕ) (xs : List ℕ) (i : ℕ) → i < n → services_fit e n xs ≡ true → ServiceSaid (drop (sv_bytes * i) xs)
unfolding services_fit
services_said e zero xs i more fit = absurd (omega arith)
services_said e (suc n) xs zero more fit = service_said e xs ((and-eq-true_iff _ _).0 fit).0
services_said e (suc n) xs (suc i) more fit =
    let on : sv_bytes + sv_bytes * i ≡ sv_bytes * suc i = omega arith in
    rw (← on, ← (drop-drop (sv_bytes * i) sv_bytes xs)) (services_said e n (drop sv_bytes xs) i (omega arith) ((and-eq-true_iff _ _).0 fit).1)

-- those that are left of n after i of them, put where the next one belongs
abbrev pub services_left : ℕ → ℕ → List ℕ → ℕ → List ℕ → List ℕ
services_left n i xs start l = sets l (start + service_bytes * i) (services_laid (n - i) (drop (sv_bytes * i) xs))

module _ (n i : ℕ) (xs : List ℕ) (start : ℕ) where
  pub services_next : (zs l m : List ℕ) → i < n → zs ≡ drop (sv_bytes * i) xs → m ≡ sets l (start + service_bytes * i) (service_laid zs) → services_left n (i + 1) xs start m ≡ services_left n i xs start l
  unfolding services_laid
  services_next zs l m more is put =
      let to : ℕ = start + service_bytes * i in
      let own : List ℕ = drop (sv_bytes * i) xs in
      let rest : List ℕ = services_laid (n - (i + 1)) (drop (sv_bytes * (i + 1)) xs) in
      let left : n - i ≡ suc (n - (i + 1)) = omega arith in
      let on : sv_bytes * i + sv_bytes ≡ sv_bytes * (i + 1) = omega arith in
      let behind : start + service_bytes * (i + 1) ≡ to + service_bytes = omega arith in
      let all : services_laid (n - i) own ≡ service_laid own ++ rest =
      ap (λ (k : ℕ). services_laid k own) left
      ∙ ap (λ (ys : List ℕ). service_laid own ++ services_laid (n - (i + 1)) ys) (drop-drop sv_bytes (sv_bytes * i) xs ∙ ap (λ (k : ℕ). drop k xs) on) in
      ap (λ (k : ℕ). sets m k rest) behind ∙ sets_behind (service_laid own) rest l m to (put ∙ ap (λ (t : List ℕ). sets l to (service_laid t)) is) ∙ ap (sets l to) (sym all)

  pub services_none : (l : List ℕ) → n ≤ i → services_left n i xs start l ≡ l
  unfolding services_laid
  services_none l past =
      let none : n - i ≡ 0 = omega arith in
      rw none refl

-- ---- the ensembles, one after the other: those that are left of n after i of them

pub ensemble-stored : (ys zs l m o : List ℕ) (to : ℕ) → m ≡ sets l to (get_or ys 2 0 ∷ 224 ∷ (get_or ys 3 0 * 32 + get_or ys 4 0) ∷ count_said ys ∷ []) → zs ≡ after_en ys → o ≡ sets m (to + ensemble_bytes) (services_laid (count_said ys) zs) → o ≡ sets l to (ensemble_laid ys)
unfolding ensemble_laid
ensemble-stored ys zs l m o to head is put =
    let own : List ℕ = get_or ys 2 0 ∷ 224 ∷ (get_or ys 3 0 * 32 + get_or ys 4 0) ∷ count_said ys ∷ [] in
    put
    ∙ ap (λ (t : List ℕ). sets m (to + ensemble_bytes) (services_laid (count_said ys) t)) is
    ∙ sets_behind own (services_laid (count_said ys) (after_en ys)) l m to head

length-services : (n : ℕ) (zs : List ℕ) → length (services_laid n zs) ≡ service_bytes * n
unfolding services_laid
length-services zero zs = refl
length-services (suc n) zs = omega (arith, length-services n (drop sv_bytes zs))

length-ensemble : (ys : List ℕ) → length (ensemble_laid ys) ≡ ensemble_bytes + service_bytes * count_said ys
unfolding ensemble_laid
length-ensemble ys = omega (arith, length-services (count_said ys) (after_en ys))

module _ (n i : ℕ) (ys : List ℕ) where
  module _ (more : i < n) where
    module _ (fit : ensembles_fit (n - i) ys ≡ true) where
      tests : (en_fits ys ≡ true) × (services_fit (id_said ys) (count_said ys) (after_en ys) ≡ true) × (ensembles_fit (n - (i + 1)) (after_services ys) ≡ true)
      tests =
          let a = (and-eq-true_iff (en_fits ys) _).0 (sym (ensembles_next n i ys more) ∙ fit) in
          let b = (and-eq-true_iff (services_fit (id_said ys) (count_said ys) (after_en ys)) _).0 a.1 in
          (a.0, b.0, b.1)

      pub ensemble_there : EnsembleSaid ys
      unfolding en_fits
      ensemble_there =
          let head = stands_and mark_en en_bytes ys tests.0 in
          let most = leb_and (get_or ys 3 0) most_flags head.1 in
          record { there = head.0; flags = most.0; channel = leb-true _ _ most.1 }

      pub ensemble_services : services_fit (id_said ys) (count_said ys) (after_en ys) ≡ true
      ensemble_services = tests.1

      pub ensemble_inside : records_said ys ≤ length ys
      ensemble_inside = records_there ys tests.0 tests.1

      pub ensembles_rest : ensembles_fit (n - (i + 1)) (next ys) ≡ true
      ensembles_rest = ap (ensembles_fit (n - (i + 1))) (next_is ys) ∙ tests.2

    ensembles_more : ensembles_laid (n - i) ys ≡ ensemble_laid ys ++ ensembles_laid (n - (i + 1)) (next ys)
    unfolding ensembles_laid
    ensembles_more =
        let left : n - i ≡ suc (n - (i + 1)) = omega arith in
        ap (λ (k : ℕ). ensembles_laid k ys) left ∙ ap (λ (zs : List ℕ). ensemble_laid ys ++ ensembles_laid (n - (i + 1)) zs) (sym (next_is ys))

    pub length-ensembles : length (ensembles_laid (n - i) ys) ≡ ensemble_bytes + service_bytes * count_said ys + length (ensembles_laid (n - (i + 1)) (next ys))
    length-ensembles = omega (arith, ap length ensembles_more, length-append (ensemble_laid ys) (ensembles_laid (n - (i + 1)) (next ys)), length-ensemble ys)

    pub ensembles_room : (l m : List ℕ) (to : ℕ) → to + length (ensembles_laid (n - i) ys) ≤ length l → m ≡ sets l to (ensemble_laid ys) → to + (ensemble_bytes + service_bytes * count_said ys) + length (ensembles_laid (n - (i + 1)) (next ys)) ≤ length m
    ensembles_room l m to room put = omega (arith, room, length-ensembles, ap length put, length-sets l to (ensemble_laid ys))

    pub ensembles-stored : (l m : List ℕ) (to : ℕ) → m ≡ sets l to (ensemble_laid ys) → sets m (to + (ensemble_bytes + service_bytes * count_said ys)) (ensembles_laid (n - (i + 1)) (next ys)) ≡ sets l to (ensembles_laid (n - i) ys)
    ensembles-stored l m to put =
        let rest : List ℕ = ensembles_laid (n - (i + 1)) (next ys) in
        ap (λ (k : ℕ). sets m (to + k) rest) (sym (length-ensemble ys)) ∙ sets_behind (ensemble_laid ys) rest l m to put ∙ ap (sets l to) (sym ensembles_more)

  pub ensembles_none : (l : List ℕ) (to : ℕ) → n ≤ i → sets l to (ensembles_laid (n - i) ys) ≡ l
  unfolding ensembles_laid
  ensembles_none l to past =
      let none : n - i ≡ 0 = omega arith in
      rw none refl

-- ---- the chunk

pub listing-passes : (xs : List ℕ) → listing_fits xs ≡ true → (ts_bytes ≤ length xs) × (ensembles_fit (get_or xs 4 0) (drop ts_bytes xs) ≡ true)
unfolding listing_fits
listing-passes xs fits = stands_and mark_ts ts_bytes xs fits

pub length-chunk : (k : Kind) (xs : List ℕ) → length (chunk_laid k xs) ≡ chunk_header_bytes + length (ensembles_laid (get_or xs 4 0) (drop ts_bytes xs))
unfolding chunk_laid
length-chunk k xs = omega arith

pub chunk_room : (k : Kind) (xs zs l m : List ℕ) (b : ℕ) → length (chunk_laid k xs) ≤ length l → m ≡ sets l 0 (0 ∷ (2 + b) ∷ get_or xs 2 0 ∷ get_or xs 3 0 ∷ get_or xs 4 0 ∷ []) → zs ≡ drop ts_bytes xs → chunk_header_bytes + length (ensembles_laid (get_or xs 4 0) zs) ≤ length m
chunk_room k xs zs l m b room put is =
    omega (arith, room, length-chunk k xs, ap length put, length-sets l 0 (0 ∷ (2 + b) ∷ get_or xs 2 0 ∷ get_or xs 3 0 ∷ get_or xs 4 0 ∷ []), ap (λ (t : List ℕ). length (ensembles_laid (get_or xs 4 0) t)) is)

pub chunk-stored : (k : Kind) (xs zs l m o : List ℕ) (b : ℕ) → b ≡ current_of k → m ≡ sets l 0 (0 ∷ (2 + b) ∷ get_or xs 2 0 ∷ get_or xs 3 0 ∷ get_or xs 4 0 ∷ []) → zs ≡ drop ts_bytes xs → o ≡ sets m chunk_header_bytes (ensembles_laid (get_or xs 4 0) zs) → o ≡ sets l 0 (chunk_laid k xs)
unfolding chunk_laid
chunk-stored k xs zs l m o b is head own put =
    let header : List ℕ = 0 ∷ (2 + b) ∷ get_or xs 2 0 ∷ get_or xs 3 0 ∷ get_or xs 4 0 ∷ [] in
    put
    ∙ ap (λ (t : List ℕ). sets m chunk_header_bytes (ensembles_laid (get_or xs 4 0) t)) own
    ∙ sets_behind header (ensembles_laid (get_or xs 4 0) (drop ts_bytes xs)) l m 0 head
    ∙ rw is refl

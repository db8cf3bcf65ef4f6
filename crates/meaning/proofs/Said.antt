-- The listings that are well formed for the writer are those of the lists whose fields fit and whose ensembles are all known; and any listing is
-- of one list only. Assumes nothing.
use mathlib.Core.Path.{◌≡◌, refl, sym, ap, ap₂, ◌∙◌, subst}
use mathlib.Core.Bool.{true, false, cond, and-eq-true_iff, false≢true}
use mathlib.Core.List.{List, [], ◌∷◌, ◌++◌, map, flat_map, append_assoc}
use Prim.Native.Nat.{ℕ, zero, suc, ◌+◌, ◌*◌, ◌/◌, ◌%◌, ◌-◌, ◌≤◌, ◌<◌}
use native.Mathlib.Nat.{add-zero}
use native.Mathlib.Omega.{arith}
use borrow.Author.Tests.{leb-true, le-leb, eqb-true, eq-eqb}
use lib.Dec.{eqb}
use lib.ListN.{length, get_or, take, drop, length-map, take-append-drop}
use lib.Seq.{drop_at, drop-cons, drop-drop}
use Rattle.octets.specs.Bits.{InWidth, Held, Bytes}
use Rattle.octets.specs.Each.{Each}
use Rattle.octets.specs.Word.{word, word_bytes}
use Rattle.octets.proofs.Laws.{either, same_eq, each_append, each_join, each_left, each_right, high_word, low_word, word-high-low, bytes-append, bytes_drop, get_d_byte}
use Rattle.meaning.specs.declared.Kind.TheVariants.{This}
use Rattle.records.specs.Records.{mark_bytes}
use Rattle.meaning.specs.Sizes.{ts_bytes, en_bytes, eu_bytes, sv_bytes, most_flags, most_channel, most_multi, most_status, most_sp}
use Rattle.meaning.specs.Lists.{Service, Known, Ensemble, known, unknown, is_known, FicList, AllKnown}
use Rattle.meaning.specs.Layout.{service_fields, ensemble_head, ensemble_fields, chunk_head, chunk_fields}
use Rattle.meaning.specs.Plain.{plain_service, plain_ensemble, plain, OfItsSort, Fits}
use Rattle.meaning.specs.Listing.{mark_ts, mark_en, mark_eu, mark_sv, flags, sv_record, en_record, eu_record, ts_record, ensemble_listing, listing}
use Rattle.meaning.specs.Said.{marked, stands, sv_fits, service_said, services_fit, services_said, en_fits, id_said, count_said, after_en, after_services, ensemble_said, ensembles_fit, ensembles_said, listing_fits, list_said}
use Rattle.meaning.proofs.Lengths.{length-records}
use Rattle.meaning.proofs.Counts.{length-services_said, length-ensembles_said, leb_and}

-- ---- services, listed

-- every number of the services fits its field
abbrev ServicesHeld : List Service → Type 0
ServicesHeld vs = Held (flat_map service_fields (map plain_service vs))

services_fit_lem : (e : ℕ) (vs : List Service) (rest : List ℕ) → ServicesHeld vs → services_fit e (length vs) (flat_map (sv_record e) vs ++ rest) ≡ true
unfolding flat_map service_fields services_fit sv_fits
services_fit_lem e [] rest h = refl
services_fit_lem e (v ∷ vs) rest h =
    let room : sv_bytes ≤ length (flat_map (sv_record e) (v ∷ vs) ++ rest) = omega arith in
    let most : (v.multi ≤ most_multi) × (v.status ≤ most_status) × (v.sp ≤ most_sp) = omega arith in
    simp (le-leb _ _ room, eq-eqb e e refl, le-leb _ _ most.0, le-leb _ _ most.1, le-leb _ _ most.2)
    (services_fit_lem e vs rest h.1.1.1.1.1)

services-said : (e : ℕ) (vs : List Service) (rest : List ℕ) → services_said (length vs) (flat_map (sv_record e) vs ++ rest) ≡ vs
unfolding flat_map services_said
services-said e [] rest = refl
services-said e (v ∷ vs) rest =
    let id = word-high-low v.id in
    let more = services-said e vs rest in
    λ i. record { id = id i; multi = v.multi; status = v.status; sp = v.sp } ∷ more i

services-bytes : (e : ℕ) → e < 256 → (vs : List Service) → ServicesHeld vs → Bytes (flat_map (sv_record e) vs)
unfolding flat_map service_fields
services-bytes e b [] h = tt
services-bytes e b (v ∷ vs) h =
    bytes-append (sv_record e v) (flat_map (sv_record e) vs) (omega arith) (services-bytes e b vs h.1.1.1.1.1)

-- ---- ensembles, listed

-- every number of the ensembles and of their services fits its field
abbrev EnsemblesHeld : List Ensemble → Type 0
EnsemblesHeld es = Held (flat_map ensemble_fields (map plain_ensemble es))

-- the fields of an ensemble's services, and of the ensembles after it
ensembles_held : (e : Known) (es : List Ensemble) → EnsemblesHeld (known e ∷ es) → ServicesHeld e.services × EnsemblesHeld es
unfolding flat_map ensemble_fields ensemble_head
ensembles_held e es h =
    let own = flat_map service_fields (map plain_service e.services) in
    let others = flat_map ensemble_fields (map plain_ensemble es) in
    let both = h.1.1.1.1.1.1.1.1 in
    (each_left InWidth own others both, each_right InWidth own others both)

after_services_lem : (e : Known) (rest : List ℕ) → after_services (ensemble_listing (known e) ++ rest) ≡ rest
unfolding ensemble_listing
after_services_lem e rest = drop_at (flat_map (sv_record e.id) e.services) rest (sv_bytes * length e.services) (length-records e.id e.services)

ensembles_fit_lem : (es : List Ensemble) → EnsemblesHeld es → Each (λ e. is_known e ≡ true) es → ensembles_fit (length es) (flat_map ensemble_listing es) ≡ true
unfolding flat_map ensemble_fields ensemble_head ensemble_listing ensembles_fit en_fits
ensembles_fit_lem [] h k = refl
ensembles_fit_lem (unknown u ∷ es) h k = absurd (false≢true k.0)
ensembles_fit_lem (known e ∷ es) h k =
    let held = ensembles_held e es h in
    let more : List ℕ = flat_map ensemble_listing es in
    let room : en_bytes ≤ length (ensemble_listing (known e) ++ more) = omega arith in
    let most : (flags e ≤ most_flags) × (e.channel ≤ most_channel) = omega arith in
    simp (le-leb _ _ room, le-leb _ _ most.0, le-leb _ _ most.1, services_fit_lem e.id e.services more held.0, after_services_lem e more)
    (ensembles_fit_lem es held.1 k.1)

ensembles-bytes : (es : List Ensemble) → EnsemblesHeld es → Bytes (flat_map ensemble_listing es)
unfolding flat_map ensemble_fields ensemble_head ensemble_listing
ensembles-bytes [] h = tt
ensembles-bytes (unknown u ∷ es) h =
    bytes-append (eu_record u) (flat_map ensemble_listing es) (omega arith) (ensembles-bytes es h.1.1.1.1.1.1.1.1)
ensembles-bytes (known e ∷ es) h =
    let held = ensembles_held e es h in
    let records : List ℕ = flat_map (sv_record e.id) e.services in
    bytes-append (en_record e) (records ++ flat_map ensemble_listing es) (omega (arith, length-map e.services plain_service))
    (bytes-append records (flat_map ensemble_listing es) (services-bytes e.id (omega arith) e.services held.0) (ensembles-bytes es held.1))

-- ---- lists, listed

list_held : (l : FicList) → Fits l → EnsemblesHeld l.ensembles
unfolding chunk_fields chunk_head
list_held l h = each_left InWidth (flat_map ensemble_fields (map plain_ensemble l.ensembles)) [] h.0.1.1.1.1.1.1.1.1.1

-- the listing of a list without unknown ensembles is well formed for the writer
pub listing_fitting : (l : FicList) → Fits l → AllKnown l → listing_fits (listing l) ≡ true
unfolding listing listing_fits
listing_fitting l h k =
    let room : ts_bytes ≤ length (listing l) = omega arith in
    simp (le-leb _ _ room) (ensembles_fit_lem l.ensembles (list_held l h) k)

pub bytes-listing : (l : FicList) → Fits l → Bytes (listing l)
unfolding chunk_fields chunk_head listing
bytes-listing l h =
    let held = h.0 in
    bytes-append (ts_record l) (flat_map ensemble_listing l.ensembles) (omega (arith, length-map l.ensembles plain_ensemble))
    (ensembles-bytes l.ensembles (list_held l h))

-- ---- a listing is of one list only: it can be told which, of both sorts of ensembles

known-said : (e : Known) (es : List Ensemble) → EnsemblesHeld (known e ∷ es) → (more : List ℕ) → ensemble_said (ensemble_listing (known e) ++ more) ≡ e
unfolding flat_map ensemble_fields ensemble_head ensemble_listing
known-said e es h more =
    let slt : flags e / 4 ≡ e.slt = omega arith in
    let gat : flags e / 2 % 2 ≡ e.gat = omega arith in
    let eat : flags e % 2 ≡ e.eat = omega arith in
    let services = services-said e.id e.services more in
    λ i. record { id = e.id; slt = slt i; gat = gat i; eat = eat i; channel = e.channel; services = services i }

-- n ensembles, by their marks
ensembles_told : ℕ → List ℕ → List Ensemble
ensembles_told zero ys = []
ensembles_told (suc n) ys =
    cond (marked mark_eu ys)
    (unknown (record { id = get_or ys 2 0; version = get_or ys 3 0 }) ∷ ensembles_told n (drop eu_bytes ys))
    (known (ensemble_said ys) ∷ ensembles_told n (after_services ys))

ensembles_told_lem : (es : List Ensemble) → EnsemblesHeld es → ensembles_told (length es) (flat_map ensemble_listing es) ≡ es
unfolding flat_map ensemble_fields ensemble_head ensemble_listing ensembles_told
ensembles_told_lem [] h = refl
ensembles_told_lem (unknown u ∷ es) h = ap (λ (t : List Ensemble). unknown u ∷ t) (ensembles_told_lem es h.1.1.1.1.1.1.1.1)
ensembles_told_lem (known e ∷ es) h =
    let more : List ℕ = flat_map ensemble_listing es in
    ap₂ ◌∷◌ (ap known (known-said e es h more))
    (ap (ensembles_told (length es)) (after_services_lem e more) ∙ ensembles_told_lem es (ensembles_held e es h).1)

list_told : List ℕ → FicList
list_told xs = record { stream = word (get_or xs 2 0) (get_or xs 3 0); ensembles = ensembles_told (get_or xs 4 0) (drop ts_bytes xs) }

list_told_lem : (l : FicList) → Fits l → list_told (listing l) ≡ l
unfolding listing list_told
list_told_lem l h =
    let ensembles = ensembles_told_lem l.ensembles (list_held l h) in
    λ i. record { stream = word-high-low l.stream i; ensembles = ensembles i }

pub listing-once : (l m : FicList) → Fits l → Fits m → listing l ≡ listing m → l ≡ m
listing-once l m f g e = sym (list_told_lem l f) ∙ ap list_told e ∙ list_told_lem m g

-- ---- a record at the start of a byte string

-- n elements from place k on
abbrev cells : ℕ → ℕ → List ℕ → List ℕ
cells k zero xs = []
cells k (suc n) xs = get_or xs k 0 ∷ cells (suc k) n xs

cells_drop : (k n : ℕ) (xs : List ℕ) → k + n ≤ length xs → cells k n xs ++ drop (k + n) xs ≡ drop k xs
cells_drop k zero xs h = ap (λ (j : ℕ). drop j xs) (add-zero k)
cells_drop k (suc n) xs h =
    let next : k + suc n ≡ suc k + n = omega arith in
    (λ i. get_or xs k 0 ∷ (cells (suc k) n xs ++ drop (next i) xs))
    ∙ ap (λ (t : List ℕ). get_or xs k 0 ∷ t) (cells_drop (suc k) n xs (omega arith))
    ∙ sym (drop-cons xs k 0 (omega arith))

record_cells : (mark xs : List ℕ) (n : ℕ) → stands mark (mark_bytes + n) xs ≡ true → mark ++ (cells mark_bytes n xs ++ drop (mark_bytes + n) xs) ≡ xs
record_cells mark xs n h =
    let p = leb_and (mark_bytes + n) (length xs) h in
    ap₂ ◌++◌ (sym (same_eq (take mark_bytes xs) mark p.1)) (cells_drop mark_bytes n xs p.0) ∙ take-append-drop mark_bytes xs

-- ---- services, said

-- a record that fits has the ensemble's id
own_id : (e : ℕ) (zs : List ℕ) → sv_fits e zs ≡ true → get_or zs 2 0 ≡ e
unfolding sv_fits
own_id e zs f =
    let head = (and-eq-true_iff (stands mark_sv sv_bytes zs) _).0 f in
    eqb-true (get_or zs 2 0) e ((and-eq-true_iff (eqb (get_or zs 2 0) e) _).0 head.1).0

service_listed : (e : ℕ) (zs : List ℕ) → Bytes zs → sv_fits e zs ≡ true → (sv_record e (service_said zs) ++ drop sv_bytes zs ≡ zs) × Held (service_fields (plain_service (service_said zs)))
unfolding service_fields sv_fits
service_listed e zs b f =
    let head = (and-eq-true_iff (stands mark_sv sv_bytes zs) _).0 f in
    let own = (and-eq-true_iff (eqb (get_or zs 2 0) e) _).0 head.1 in
    let ensemble = sym (own_id e zs f) in
    let multi = leb_and (get_or zs 5 0) most_multi own.1 in
    let status = leb_and (get_or zs 6 0) most_status multi.1 in
    let sp = leb-true (get_or zs 7 0) most_sp status.1 in
    let b4 = get_d_byte zs 4 b in
    let first = high_word (get_or zs 3 0) (get_or zs 4 0) b4 in
    let second = low_word (get_or zs 3 0) (get_or zs 4 0) b4 in (
      (λ i. mark_sv ++ (ensemble i ∷ first i ∷ second i ∷ get_or zs 5 0 ∷ get_or zs 6 0 ∷ get_or zs 7 0 ∷ drop sv_bytes zs))
          ∙ record_cells mark_sv zs (sv_bytes - mark_bytes) head.0,
      omega (arith, get_d_byte zs 3 b),
    )

services_listed : (e n : ℕ) (zs : List ℕ) → Bytes zs → services_fit e n zs ≡ true → (flat_map (sv_record e) (services_said n zs) ++ drop (sv_bytes * n) zs ≡ zs) × ServicesHeld (services_said n zs)
unfolding flat_map services_fit services_said
services_listed e zero zs b f = (refl, tt)
services_listed e (suc n) zs b f =
    let fit = (and-eq-true_iff (sv_fits e zs) _).0 f in
    let rest : List ℕ = drop sv_bytes zs in
    let own = service_listed e zs b fit.0 in
    let more = services_listed e n rest (bytes_drop sv_bytes zs b) fit.1 in
    let further : sv_bytes * suc n ≡ sv_bytes + sv_bytes * n = omega arith in
    let place : drop (sv_bytes * suc n) zs ≡ drop (sv_bytes * n) rest =
    ap (λ (k : ℕ). drop k zs) further ∙ sym (drop-drop (sv_bytes * n) sv_bytes zs) in (
      ap (λ (t : List ℕ). sv_record e (service_said zs) ++ (flat_map (sv_record e) (services_said n rest) ++ t)) place
          ∙ ap (λ (t : List ℕ). sv_record e (service_said zs) ++ t) more.0
          ∙ own.0,
      each_append InWidth (service_fields (plain_service (service_said zs))) (flat_map service_fields (map plain_service (services_said n rest))) own.1 more.1,
    )

-- ---- ensembles, said

ensemble_listed : (ys : List ℕ) → Bytes ys → en_fits ys ≡ true → services_fit (id_said ys) (count_said ys) (after_en ys) ≡ true → (ensemble_listing (known (ensemble_said ys)) ++ after_services ys ≡ ys) × Held (ensemble_fields (plain_ensemble (known (ensemble_said ys))))
unfolding ensemble_fields ensemble_head ensemble_listing en_fits
ensemble_listed ys b f g =
    let head = (and-eq-true_iff (stands mark_en en_bytes ys) _).0 f in
    let flag = leb_and (get_or ys 3 0) most_flags head.1 in
    let channel = leb-true (get_or ys 4 0) most_channel flag.1 in
    let count = length-services_said (count_said ys) (after_en ys) in
    let sum : flags (ensemble_said ys) ≡ get_or ys 3 0 = omega arith in
    let services = services_listed (id_said ys) (count_said ys) (after_en ys) (bytes_drop en_bytes ys b) g in (
      (λ i. mark_en ++ (id_said ys ∷ sum i ∷ get_or ys 4 0 ∷ count i ∷ services.0 i))
          ∙ record_cells mark_en ys (en_bytes - mark_bytes) head.0,
      each_join InWidth 8 (ensemble_fields (plain_ensemble (known (ensemble_said ys))))
          (omega (arith, get_d_byte ys 2 b, get_d_byte ys 5 b, length-map (services_said (count_said ys) (after_en ys)) plain_service))
          services.1,
    )

ensembles_listed : (n : ℕ) (ys : List ℕ) → Bytes ys → ensembles_fit n ys ≡ true → (flat_map ensemble_listing (ensembles_said n ys) ≡ ys) × EnsemblesHeld (ensembles_said n ys)
unfolding flat_map ensembles_fit ensembles_said
ensembles_listed zero [] b f = (refl, tt)
ensembles_listed zero (y ∷ ys) b f = absurd (omega (arith, eqb-true (length (y ∷ ys)) 0 f))
ensembles_listed (suc n) ys b f =
    let head = (and-eq-true_iff (en_fits ys) _).0 f in
    let tail = (and-eq-true_iff (services_fit (id_said ys) (count_said ys) (after_en ys)) _).0 head.1 in
    let own = ensemble_listed ys b head.0 tail.0 in
    let bytes = bytes_drop (sv_bytes * count_said ys) (after_en ys) (bytes_drop en_bytes ys b) in
    let more = ensembles_listed n (after_services ys) bytes tail.1 in (
      ap (λ (t : List ℕ). ensemble_listing (known (ensemble_said ys)) ++ t) more.0 ∙ own.0,
      each_append InWidth (ensemble_fields (plain_ensemble (known (ensemble_said ys)))) (flat_map ensemble_fields (map plain_ensemble (ensembles_said n (after_services ys)))) own.1 more.1,
    )

-- ---- lists, said

ensembles-known : (n : ℕ) (ys : List ℕ) → Each (λ e. is_known e ≡ true) (ensembles_said n ys)
unfolding ensembles_said
ensembles-known zero ys = tt
ensembles-known (suc n) ys = (refl, ensembles-known n (after_services ys))

-- what the writer is told has no unknown ensemble
pub said-known : (xs : List ℕ) → AllKnown (list_said xs)
unfolding list_said
said-known xs = ensembles-known (get_or xs 4 0) (drop ts_bytes xs)

each_sorted : (es : List Ensemble) → Each (λ e. is_known e ≡ true) es → Each OfItsSort es
each_sorted [] k = tt
each_sorted (known e ∷ es) k = (tt, each_sorted es k.1)
each_sorted (unknown u ∷ es) k = absurd (false≢true k.0)

list_listed : (xs : List ℕ) → Bytes xs → listing_fits xs ≡ true → (listing (list_said xs) ≡ xs) × Fits (list_said xs)
unfolding chunk_fields chunk_head listing listing_fits list_said
list_listed xs b f =
    let head = (and-eq-true_iff (stands mark_ts ts_bytes xs) _).0 f in
    let b3 = get_d_byte xs 3 b in
    let first = high_word (get_or xs 2 0) (get_or xs 3 0) b3 in
    let second = low_word (get_or xs 2 0) (get_or xs 3 0) b3 in
    let es : List Ensemble = ensembles_said (get_or xs 4 0) (drop ts_bytes xs) in
    let count : length es ≡ get_or xs 4 0 = length-ensembles_said (get_or xs 4 0) (drop ts_bytes xs) in
    let ensembles = ensembles_listed (get_or xs 4 0) (drop ts_bytes xs) (bytes_drop ts_bytes xs b) head.1 in (
      (λ i. mark_ts ++ (first i ∷ second i ∷ count i ∷ ensembles.0 i))
          ∙ record_cells mark_ts xs (ts_bytes - mark_bytes) head.0,
      (
        each_join InWidth 9 (chunk_fields (plain This (list_said xs))) (omega (arith, get_d_byte xs 2 b, get_d_byte xs 4 b, length-map es plain_ensemble))
            (each_append InWidth (flat_map ensemble_fields (map plain_ensemble es)) [] ensembles.1 tt),
        each_sorted es (said-known xs),
      ),
    )

pub listing-said : (xs : List ℕ) → Bytes xs → listing_fits xs ≡ true → listing (list_said xs) ≡ xs
listing-said xs b f = (list_listed xs b f).0

pub said_fitting : (xs : List ℕ) → Bytes xs → listing_fits xs ≡ true → Fits (list_said xs)
said_fitting xs b f = (list_listed xs b f).1

pub said-listing : (l : FicList) → Fits l → listing_fits (listing l) ≡ true → list_said (listing l) ≡ l
said-listing l h f =
    let b = bytes-listing l h in
    listing-once (list_said (listing l)) l (said_fitting (listing l) b f) h (listing-said (listing l) b f)

-- and no listing with an unknown ensemble is well formed for the writer
pub fitting_known : (l : FicList) → Fits l → listing_fits (listing l) ≡ true → AllKnown l
fitting_known l h f = subst (λ (t : FicList). AllKnown t) (said-listing l h f) (said-known (listing l))

-- ---- a service of another ensemble than that of the record above it

-- where n services fit, the one behind the first few of them fits
services-behind : (e : ℕ) (vs : List Service) (n : ℕ) (zs : List ℕ) → length vs < n → services_fit e n (flat_map (sv_record e) vs ++ zs) ≡ true → sv_fits e zs ≡ true
unfolding flat_map services_fit
services-behind e vs zero zs more f = absurd (omega arith)
services-behind e [] (suc n) zs more f = ((and-eq-true_iff (sv_fits e zs) _).0 f).0
services-behind e (v ∷ vs) (suc n) zs more f =
    services-behind e vs n zs (omega arith) ((and-eq-true_iff (sv_fits e (flat_map (sv_record e) (v ∷ vs) ++ zs)) _).0 f).1

-- where n ensembles fit with their services, the services of the one behind the first few of them fit
ensembles-behind : (es : List Known) (n : ℕ) (ys : List ℕ) → length es < n → ensembles_fit n (flat_map ensemble_listing (map known es) ++ ys) ≡ true → services_fit (id_said ys) (count_said ys) (after_en ys) ≡ true
unfolding flat_map ensembles_fit
ensembles-behind es zero ys more f = absurd (omega arith)
ensembles-behind [] (suc n) ys more f = ((and-eq-true_iff _ _).0 ((and-eq-true_iff (en_fits ys) _).0 f).1).0
ensembles-behind (e ∷ es) (suc n) ys more f =
    let whole : List ℕ = flat_map ensemble_listing (map known (e ∷ es)) ++ ys in
    let rest : List ℕ = flat_map ensemble_listing (map known es) ++ ys in
    let first = append_assoc (ensemble_listing (known e)) (flat_map ensemble_listing (map known es)) ys in
    let own = ((and-eq-true_iff (en_fits whole) _).0 f).1 in
    let fit = ((and-eq-true_iff (services_fit (id_said whole) (count_said whole) (after_en whole)) _).0 own).1 in
    ensembles-behind es n ys (omega arith) (sym (ap (ensembles_fit n) (ap after_services first ∙ after_services_lem e rest)) ∙ fit)

module _ (stream n : ℕ) (es : List Known) (further : length es < n) (e : Known) (k : ℕ) (more : length e.services < k) (other : ℕ) (differs : other ≡ e.id → ⊥) (v : Service) (behind : List ℕ) where
  -- from the ensemble on, and the whole
  abbrev there : List ℕ
  there = mark_en ++ (e.id ∷ flags e ∷ e.channel ∷ k ∷ []) ++ (flat_map (sv_record e.id) e.services ++ (sv_record other v ++ behind))

  abbrev all : List ℕ
  all = mark_ts ++ word_bytes stream ++ (n ∷ []) ++ (flat_map ensemble_listing (map known es) ++ there)

  pub other_unfit : listing_fits all ≡ false
  unfolding listing_fits
  other_unfit =
      either (listing_fits all)
      (λ f.
      let fit = ensembles-behind es n there further ((and-eq-true_iff (stands mark_ts ts_bytes all) _).0 f).1 in
      absurd (differs (own_id e.id (sv_record other v ++ behind) (services-behind e.id e.services k (sv_record other v ++ behind) more fit))))
      (λ f. f)

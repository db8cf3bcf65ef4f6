-- How long a listing is: from the counts, and at the most 1,475 bytes for a chunk that is accepted. Assumes nothing.
use mathlib.Core.Path.{◌≡◌, refl, ap}
use mathlib.Core.Logic.{⊎_elim}
use mathlib.Core.List.{List, [], ◌∷◌, flat_map}
use Prim.Native.Nat.{ℕ, zero, suc, ◌+◌, ◌*◌, ◌≤◌}
use native.Mathlib.Nat.{mul-le-mul_left, eq-zero-or-pos, le-add_right}
use native.Mathlib.Omega.{arith}
use lib.Dec.{eqb}
use lib.ListN.{length, length-append, length-drop}
use Rattle.std.proofs.Common.{Ok}
use Rattle.octets.proofs.Laws.{either}
use Rattle.meaning.specs.Sizes.{chunk_header_bytes, ensemble_bytes, service_bytes, ts_bytes, en_bytes, eu_bytes, sv_bytes, longest_chunk, longest_listing}
use Rattle.meaning.specs.Lists.{Service, Ensemble, known, unknown, ensemble_services, FicList, services_of, known_count, unknown_count}
use Rattle.meaning.specs.Listing.{sv_record, ensemble_listing, listing}
use Rattle.meaning.specs.Plain.{plain_length}
use Rattle.meaning.specs.Reading.{services_at, ensemble_at, ensembles_at, ensembles_checks, checks, version_in, services_in, services_room, inside, past, e_in, s_in, h_in, count_in, after_header, list_in}
use Rattle.meaning.proofs.Checks.{ensemble-passes, header-passes}

-- ---- from the counts

pub length-records : (e : ℕ) (vs : List Service) → length (flat_map (sv_record e) vs) ≡ sv_bytes * length vs
unfolding flat_map
length-records e [] = refl
length-records e (v ∷ vs) = omega (arith, length-append (sv_record e v) (flat_map (sv_record e) vs), length-records e vs)

length-ensembles : (es : List Ensemble) → length (flat_map ensemble_listing es) ≡ en_bytes * known_count es + eu_bytes * unknown_count es + sv_bytes * length (flat_map ensemble_services es)
unfolding flat_map known_count unknown_count ensemble_listing
length-ensembles [] = refl
length-ensembles (known e ∷ es) =
    omega (
      arith,
      length-append (flat_map (sv_record e.id) e.services) (flat_map ensemble_listing es),
      length-append e.services (flat_map ensemble_services es),
      length-records e.id e.services,
      length-ensembles es,
    )
length-ensembles (unknown u ∷ es) = omega (arith, length-ensembles es)

pub length-listing : (l : FicList) → length (listing l) ≡ ts_bytes + en_bytes * known_count l.ensembles + eu_bytes * unknown_count l.ensembles + sv_bytes * length (services_of l)
unfolding listing services_of
length-listing l = omega (arith, length-ensembles l.ensembles)

both-counted : (es : List Ensemble) → known_count es + unknown_count es ≡ length es
unfolding known_count unknown_count
both-counted [] = refl
both-counted (known e ∷ es) = omega (arith, both-counted es)
both-counted (unknown u ∷ es) = omega (arith, both-counted es)

-- ---- at the most

pub length-services_at : (s n : ℕ) (zs : List ℕ) → length (services_at s n zs) ≡ n
unfolding services_at
length-services_at s zero zs = refl
length-services_at s (suc n) zs = ap suc (length-services_at s n _)

pub length-ensembles_at : (e s n : ℕ) (ys : List ℕ) → length (ensembles_at e s n ys) ≡ n
unfolding ensembles_at
length-ensembles_at e s zero ys = refl
length-ensembles_at e s (suc n) ys = ap suc (length-ensembles_at e s n _)

-- of the services that an ensemble counts, all are listed or none
services_most : (e s : ℕ) (ys : List ℕ) → length (ensemble_services (ensemble_at e s ys)) ≤ services_in e ys
services_most e s ys =
    either (eqb (version_in ys) 0)
    (λ q. simp q (omega (arith, length-services_at s (services_in e ys) (inside e ys))))
    (λ q. simp q (omega arith))

-- each ensemble and each service has taken its bytes of the chunk
ensembles_room : (e s n at : ℕ) (ys : List ℕ) → ensembles_checks e s n at ys ≡ Ok tt → ensemble_bytes * n + service_bytes * length (flat_map ensemble_services (ensembles_at e s n ys)) ≤ length ys
unfolding flat_map ensembles_at
ensembles_room e s zero at ys p = omega arith
ensembles_room e s (suc n) at ys p =
    let h = ensemble-passes e s n at ys p in
    let own : List Service = ensemble_services (ensemble_at e s ys) in
    let more : List Service = flat_map ensemble_services (ensembles_at e s n (past e s ys)) in
    omega (
      arith,
      h.0.fields,
      h.0.services,
      ensembles_room e s n _ (past e s ys) h.1,
      length-append own more,
      services_most e s ys,
      length-drop (ensemble_bytes + e) ys,
      length-drop (services_room e s ys) (inside e ys),
      mul-le-mul_left (services_in e ys) (le-add_right service_bytes s),
    )

-- and so the list needs no more bytes than the chunk has
pub list_room : (xs : List ℕ) → checks xs ≡ Ok tt → plain_length (list_in xs) ≤ length xs
unfolding list_in services_of
list_room xs p =
    let h = header-passes xs p in
    omega (
      arith,
      h.0.fields,
      ensembles_room (e_in xs) (s_in xs) (count_in xs) _ (after_header xs) h.1,
      length-ensembles_at (e_in xs) (s_in xs) (count_in xs) (after_header xs),
      length-drop (chunk_header_bytes + h_in xs) xs,
    )

-- what the chunk has room for, the longest listing has room for; a service needs an ensemble
counts_fit : (E S : ℕ) → chunk_header_bytes + ensemble_bytes * E + service_bytes * S ≤ longest_chunk → (E ≡ 0 → S ≡ 0) → ts_bytes + en_bytes * E + sv_bytes * S ≤ longest_listing
counts_fit E S h k =
    ⊎_elim
    (λ none. let no-service = k none in omega arith)
    (λ some. let both : E + S ≤ 184 = omega arith in omega arith)
    (eq-zero-or-pos E)

services_none : (es : List Ensemble) → length es ≡ 0 → length (flat_map ensemble_services es) ≡ 0
unfolding flat_map
services_none [] z = refl
services_none (e ∷ es) z = absurd (omega arith)

pub listing-fits : (xs : List ℕ) → checks xs ≡ Ok tt → length (listing (list_in xs)) ≤ longest_listing
unfolding services_of
listing-fits xs p =
    let l : FicList = list_in xs in
    omega (
      arith,
      length-listing l,
      both-counted l.ensembles,
      counts_fit (length l.ensembles) (length (services_of l))
          (omega (arith, list_room xs p, (header-passes xs p).0.longest))
          (services_none l.ensembles),
    )

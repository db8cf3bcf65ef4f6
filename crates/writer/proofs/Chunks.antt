-- The bytes that are put for a listing are those of the chunk of its list. Assumes nothing.
use mathlib.Core.Path.{◌≡◌, refl, sym, ap, ap₂, ◌∙◌}
use mathlib.Core.Bool.{true}
use mathlib.Core.List.{List, [], ◌∷◌, ◌++◌, map, flat_map, append-nil}
use Prim.Native.Nat.{ℕ, zero, suc, ◌+◌, ◌*◌}
use native.Mathlib.Nat.{div-div-eq-div-mul}
use native.Mathlib.Omega.{arith}
use lib.ListN.{length, get_or, drop, length-map}
use Rattle.octets.specs.Bits.{Bytes}
use Rattle.octets.proofs.Laws.{high_word, low_word, get_d_byte, bytes_drop}
use Rattle.meaning.specs.declared.Kind.{Kind}
use Rattle.meaning.specs.Sizes.{ts_bytes, en_bytes, sv_bytes}
use Rattle.meaning.specs.Lists.{known, current_of}
use Rattle.meaning.specs.Layout.{wire}
use Rattle.meaning.specs.Said.{service_said, services_said, id_said, count_said, after_en, after_services, ensemble_said, ensembles_said, listing_fits, list_said}
use Rattle.meaning.specs.Plain.{plain_service, plain_ensemble, plain, plain_length}
use Rattle.meaning.proofs.Counts.{length-services_said, length-ensembles_said}
use Rattle.meaning.proofs.Rows.{service_third, ensemble_third, chunk_second, service_row, ensemble_front, ensemble_row, chunk_front, chunk_row, wire-row}
use Rattle.meaning.proofs.Said.{said_fitting}
use Rattle.meaning.proofs.Plain.{plain_held, length-plain}
use Rattle.chunk_puts.specs.Laid.{service_laid, services_laid, ensemble_laid, ensembles_laid, chunk_laid}

service-laid : (zs : List ℕ) → Bytes zs → service_laid zs ≡ service_row (plain_service (service_said zs))
unfolding service_row
service-laid zs b =
    let a : ℕ = get_or zs 3 0 in
    let d : ℕ = get_or zs 4 0 in
    let first = sym (high_word a d (get_d_byte zs 4 b)) in
    let second = sym (low_word a d (get_d_byte zs 4 b)) in
    let third : 224 + get_or zs 5 0 * 8 + get_or zs 6 0 * 2 + get_or zs 7 0 ≡ service_third (plain_service (service_said zs)) = omega arith in
    λ i. first i ∷ second i ∷ third i ∷ []

services-laid : (n : ℕ) (zs : List ℕ) → Bytes zs → services_laid n zs ≡ flat_map service_row (map plain_service (services_said n zs))
unfolding services_laid services_said flat_map
services-laid zero zs b = refl
services-laid (suc n) zs b = ap₂ ◌++◌ (service-laid zs b) (services-laid n (drop sv_bytes zs) (bytes_drop sv_bytes zs b))

ensemble-laid : (ys : List ℕ) → Bytes ys → ensemble_laid ys ≡ ensemble_row (plain_ensemble (known (ensemble_said ys)))
unfolding ensemble_laid ensemble_row ensemble_front
ensemble-laid ys b =
    let f : ℕ = get_or ys 3 0 in
    let third : f * 32 + get_or ys 4 0 ≡ ensemble_third (plain_ensemble (known (ensemble_said ys))) = omega (arith, div-div-eq-div-mul f 2 2) in
    let count = sym (length-map (services_said (count_said ys) (after_en ys)) plain_service ∙ length-services_said (count_said ys) (after_en ys)) in
    let services = services-laid (count_said ys) (after_en ys) (bytes_drop en_bytes ys b) in
    λ i. id_said ys ∷ 224 ∷ third i ∷ count i ∷ services i

ensembles-laid : (n : ℕ) (ys : List ℕ) → Bytes ys → ensembles_laid n ys ≡ flat_map ensemble_row (map plain_ensemble (ensembles_said n ys))
unfolding ensembles_laid ensembles_said flat_map
ensembles-laid zero ys b = refl
ensembles-laid (suc n) ys b =
    ap₂ ◌++◌ (ensemble-laid ys b)
    (ensembles-laid n (after_services ys) (bytes_drop (sv_bytes * count_said ys) (after_en ys) (bytes_drop en_bytes ys b)))

chunk-laid : (k : Kind) (xs : List ℕ) → Bytes xs → chunk_laid k xs ≡ chunk_row (plain k (list_said xs))
unfolding chunk_laid chunk_row chunk_front list_said
chunk-laid k xs b =
    let n : ℕ = get_or xs 4 0 in
    let rows : List ℕ = flat_map ensemble_row (map plain_ensemble (ensembles_said n (drop ts_bytes xs))) in
    let second : 2 + current_of k ≡ chunk_second (plain k (list_said xs)) = omega arith in
    let third = sym (high_word (get_or xs 2 0) (get_or xs 3 0) (get_d_byte xs 3 b)) in
    let fourth = sym (low_word (get_or xs 2 0) (get_or xs 3 0) (get_d_byte xs 3 b)) in
    let count = sym (length-map (ensembles_said n (drop ts_bytes xs)) plain_ensemble ∙ length-ensembles_said n (drop ts_bytes xs)) in
    let rest : ensembles_laid n (drop ts_bytes xs) ≡ rows ++ [] = ensembles-laid n (drop ts_bytes xs) (bytes_drop ts_bytes xs b) ∙ sym (append-nil rows) in
    λ i. 0 ∷ second i ∷ third i ∷ fourth i ∷ count i ∷ rest i

-- of a listing that is well formed
module _ (k : Kind) (xs : List ℕ) (bytes : Bytes xs) (fits : listing_fits xs ≡ true) where
  pub laid-wire : chunk_laid k xs ≡ wire (plain k (list_said xs))
  laid-wire = chunk-laid k xs bytes ∙ sym (wire-row (plain k (list_said xs)) (plain_held k (list_said xs) (said_fitting xs bytes fits)))

  pub length-laid : length (chunk_laid k xs) ≡ plain_length (list_said xs)
  length-laid = ap length laid-wire ∙ length-plain k (list_said xs) (said_fitting xs bytes fits)

-- Laws of the list and its records in the code's own terms: a chunk xs and a place in it, instead of what is left of the chunk. Assumes nothing.
use mathlib.Core.Path.{◌≡◌, refl, sym, ap, ap₂, ◌∙◌}
use mathlib.Core.List.{List, [], ◌∷◌, ◌++◌, flat_map}
use Prim.Native.Nat.{ℕ, suc, ◌+◌, ◌*◌, ◌/◌, ◌%◌, ◌≤◌, ◌<◌}
use native.Mathlib.Nat.{add_assoc, div-div-eq-div-mul}
use native.Mathlib.Omega.{arith}
use borrow.Author.Tests.{eq-eqb, ne_eqb}
use lib.ListN.{length, get_or, drop, set, length-append, length-drop}
use lib.Seq.{get_or-drop, drop-drop, sets}
use Rattle.std.proofs.Common.{Ok}
use Rattle.octets.proofs.Laws.{get_d_there, word_there, high_word, low_word}
use Rattle.octets.proofs.Stores.{stores, sets-append, sets_behind, behind-mark}
use Rattle.octets.specs.Word.{word, high, low, word_bytes}
use Rattle.meaning.specs.Sizes.{ensemble_bytes, service_bytes, ts_bytes, en_bytes, sv_bytes}
use Rattle.meaning.specs.Lists.{Service, known}
use Rattle.meaning.specs.Listing.{mark_ts, mark_en, mark_eu, mark_sv, sv_record, ts_record, en_record, eu_record, ensemble_listing, listing}
use Rattle.meaning.specs.Reading.{ensembles_checks, services_in, services_room, inside, past, service_at, services_at, known_at, unknown_at, ensemble_at, ensembles_at, e_in, s_in, stream_in, count_in, after_header, list_in}
use Rattle.meaning.proofs.Checks.{ensemble-passes}
use Rattle.meaning.proofs.Lengths.{length-services_at, length-ensembles_at, length-records}
use Rattle.chunk_checks.proofs.Laws.{version_at, services_at_lem, inside_at}

-- ---- the records, as the code stores their bytes

pub service-stored : (xs l m : List ℕ) (at ensemble to : ℕ) → get_or xs (at + 1) 0 < 256 → m ≡ sets l to mark_sv → let third = get_or xs (at + 2) 0 in stores m to 2 (ensemble ∷ get_or xs at 0 ∷ get_or xs (at + 1) 0 ∷ third / 8 % 4 ∷ third / 2 % 4 ∷ third % 2 ∷ []) ≡ sets l to (sv_record ensemble (service_at (drop at xs)))
service-stored xs l m at ensemble to byte put =
    let a : ℕ = get_or xs at 0 in
    let b : ℕ = get_or xs (at + 1) 0 in
    let t : ℕ = get_or xs (at + 2) 0 in
    let id : word a b ≡ word (get_or (drop at xs) 0 0) (get_or (drop at xs) 1 0) = sym (word_there xs at) in
    let first : a ≡ high (word (get_or (drop at xs) 0 0) (get_or (drop at xs) 1 0)) = sym (high_word a b byte) ∙ ap high id in
    let second : b ≡ low (word (get_or (drop at xs) 0 0) (get_or (drop at xs) 1 0)) = sym (low_word a b byte) ∙ ap low id in
    let third : t ≡ get_or (drop at xs) 2 0 = sym (get_or-drop at xs 2 0) in
    behind-mark mark_sv (ensemble ∷ a ∷ b ∷ t / 8 % 4 ∷ t / 2 % 4 ∷ t % 2 ∷ []) l m to put
    ∙ (λ i. sets l to (mark_sv ++ (ensemble ∷ first i ∷ second i ∷ third i / 8 % 4 ∷ third i / 2 % 4 ∷ third i % 2 ∷ [])))

pub unknown-stored : (xs l m : List ℕ) (at to : ℕ) → m ≡ sets l to mark_eu → stores m to 2 (get_or xs at 0 ∷ get_or xs (at + 1) 0 % 32 ∷ []) ≡ sets l to (eu_record (unknown_at (drop at xs)))
unknown-stored xs l m at to put =
    let id = sym (get_d_there xs at) in
    let version = sym (version_at xs at 0 0) in
    behind-mark mark_eu (get_or xs at 0 ∷ get_or xs (at + 1) 0 % 32 ∷ []) l m to put
    ∙ (λ i. sets l to (mark_eu ++ (id i ∷ version i ∷ [])))

pub known-stored : (xs l mark m : List ℕ) (at to e s : ℕ) → mark ≡ sets l to mark_en → let third = get_or xs (at + 2) 0 in let count = get_or xs (at + (3 + e)) 0 in m ≡ sets (stores mark to 2 (get_or xs at 0 ∷ third / 32 ∷ third % 32 ∷ count ∷ [])) (to + en_bytes) (flat_map (sv_record (get_or xs at 0)) (services_at s count (drop (at + (ensemble_bytes + e)) xs))) → m ≡ sets l to (ensemble_listing (known (known_at e s (drop at xs))))
unfolding ensemble_listing
known-stored xs l mark m at to e s put is =
    let ys : List ℕ = drop at xs in
    let t : ℕ = get_or ys 2 0 in
    let third : get_or xs (at + 2) 0 ≡ t = sym (get_or-drop at xs 2 0) in
    let id = sym (get_d_there xs at) in
    let flag : t / 32 ≡ 4 * (t / 128) + 2 * (t / 64 % 2) + t / 32 % 2 =
    omega (arith, div-div-eq-div-mul t 32 2, div-div-eq-div-mul t 64 2) in
    let flags = ap (λ (b : ℕ). b / 32) third ∙ flag in
    let own : List Service = services_at s (services_in e ys) (inside e ys) in
    let number = sym (services_at_lem xs at e s) in
    let count = number ∙ sym (length-services_at s (services_in e ys) (inside e ys)) in
    let place = sym (inside_at xs at e s) in
    is
    ∙ ap (λ (o : List ℕ). sets o (to + en_bytes) (flat_map (sv_record (get_or xs at 0)) (services_at s (get_or xs (at + (3 + e)) 0) (drop (at + (ensemble_bytes + e)) xs))))
    (behind-mark mark_en (get_or xs at 0 ∷ get_or xs (at + 2) 0 / 32 ∷ get_or xs (at + 2) 0 % 32 ∷ get_or xs (at + (3 + e)) 0 ∷ []) l mark to put)
    ∙ (λ i. sets (sets l to (mark_en ++ (id i ∷ flags i ∷ third i % 32 ∷ count i ∷ []))) (to + en_bytes) (flat_map (sv_record (id i)) (services_at s (number i) (place i))))
    ∙ sym (sets-append (en_record (known_at e s ys)) (flat_map (sv_record (get_or ys 0 0)) own) l to)

-- a known ensemble's records, by their lengths; and which sort an ensemble is, by the byte that the code looks at
module _ (xs : List ℕ) (at e s : ℕ) where
  pub length-known : length (ensemble_listing (known (known_at e s (drop at xs)))) ≡ en_bytes + sv_bytes * services_in e (drop at xs)
  unfolding ensemble_listing
  length-known =
      let ys : List ℕ = drop at xs in
      let own : List Service = services_at s (services_in e ys) (inside e ys) in
      omega (arith, length-records (get_or ys 0 0) own, length-services_at s (services_in e ys) (inside e ys))

  pub known_there : get_or xs (at + 1) 0 % 32 ≡ 0 → ensemble_listing (ensemble_at e s (drop at xs)) ≡ ensemble_listing (known (known_at e s (drop at xs)))
  known_there v = simp (eq-eqb _ _ (version_at xs at e s ∙ v)) refl

  pub unknown_there : (get_or xs (at + 1) 0 % 32 ≡ 0 → ⊥) → ensemble_listing (ensemble_at e s (drop at xs)) ≡ eu_record (unknown_at (drop at xs))
  unfolding ensemble_listing
  unknown_there v = simp (ne_eqb _ _ (λ z. v (sym (version_at xs at e s) ∙ z))) refl

-- ---- one record after the other

-- n rows are one and k more; a row has w bytes, and they stand from the place at on
module _ {n k : ℕ} (one : n ≡ suc k) where
  pub row_first : (at w L : ℕ) → at + n * w ≤ L → at + w ≤ L
  row_first at w L h = let rows : at + suc k * w ≤ L = rw one at h in omega arith

  pub row-rest : (at w L : ℕ) → at + n * w ≤ L → at + w + k * w ≤ L
  row-rest at w L h = let rows : at + suc k * w ≤ L = rw one at h in omega arith

  pub services_next : (xs l m : List ℕ) (at ensemble to s : ℕ) → m ≡ sets l to (sv_record ensemble (service_at (drop at xs))) → sets m (to + sv_bytes) (flat_map (sv_record ensemble) (services_at s k (drop (at + (service_bytes + s)) xs))) ≡ sets l to (flat_map (sv_record ensemble) (services_at s n (drop at xs)))
  services_next xs l m at ensemble to s e =
      let rest : List ℕ = flat_map (sv_record ensemble) (services_at s k (drop (service_bytes + s) (drop at xs))) in
      rw one
      (ap₂ (λ (o t : List ℕ). sets o (to + sv_bytes) (flat_map (sv_record ensemble) (services_at s k t))) e (sym (drop-drop (service_bytes + s) at xs))
      ∙ sym (sets-append (sv_record ensemble (service_at (drop at xs))) rest l to)
      ∙ unfold flat_map services_at in refl)

pub services_none : {n : ℕ} → n ≡ 0 → (xs l : List ℕ) (at ensemble to s : ℕ) → sets l to (flat_map (sv_record ensemble) (services_at s n (drop at xs))) ≡ l
unfolding flat_map services_at
services_none z xs l at ensemble to s = rw z refl

-- ---- one ensemble after the other: n from the place at on, that passed, the first of them with k services

-- the place after the first
abbrev pub after : ℕ → ℕ → ℕ → ℕ → ℕ
after at e s k = at + (ensemble_bytes + e) + k * (service_bytes + s)

past_after : (xs : List ℕ) (at e s k : ℕ) → k ≡ services_in e (drop at xs) → past e s (drop at xs) ≡ drop (after at e s k) xs
past_after xs at e s k is =
    drop-drop (services_room e s (drop at xs)) (ensemble_bytes + e) (drop at xs)
    ∙ drop-drop (ensemble_bytes + e + services_room e s (drop at xs)) at xs
    ∙ ap (λ (n : ℕ). drop n xs)
    (sym (add_assoc at (ensemble_bytes + e) (services_room e s (drop at xs))) ∙ ap (λ (m : ℕ). after at e s m) (sym is))

-- n ensembles are one, with k services, and m more
module _ {n m : ℕ} (one : n ≡ suc m) (xs : List ℕ) (at e s k : ℕ) where
  pub ensembles_some : at ≤ length xs → ensembles_checks e s n at (drop at xs) ≡ Ok tt → k ≡ services_in e (drop at xs) → (after at e s k ≤ length xs) × (ensembles_checks e s m (after at e s k) (drop (after at e s k) xs) ≡ Ok tt)
  ensembles_some inl fine is =
      let h = ensemble-passes e s m at (drop at xs) (rw one at fine) in (
        omega (
          arith,
          h.0.fields,
          h.0.services,
          length-drop at xs,
          length-drop (ensemble_bytes + e) (drop at xs),
          ap (λ (j : ℕ). j * (service_bytes + s)) is,
        ),
        ap₂ (ensembles_checks e s m) (ap (after at e s) is) (sym (past_after xs at e s k is)) ∙ h.1,
      )

  module _ (is : k ≡ services_in e (drop at xs)) where
    abbrev first : List ℕ
    first = ensemble_listing (ensemble_at e s (drop at xs))

    abbrev rest : List ℕ
    rest = flat_map ensemble_listing (ensembles_at e s m (drop (after at e s k) xs))

    ensembles_next : flat_map ensemble_listing (ensembles_at e s n (drop at xs)) ≡ first ++ rest
    unfolding flat_map ensembles_at
    ensembles_next =
        rw one (ap (λ (t : List ℕ). first ++ flat_map ensemble_listing (ensembles_at e s m t)) (past_after xs at e s k is))

    pub length-ensembles : length (flat_map ensemble_listing (ensembles_at e s n (drop at xs))) ≡ length first + length rest
    length-ensembles = ap length ensembles_next ∙ length-append first rest

    pub ensembles-stored : (l o : List ℕ) (to next : ℕ) → next ≡ to + length first → o ≡ sets l to first → sets o next rest ≡ sets l to (flat_map ensemble_listing (ensembles_at e s n (drop at xs)))
    ensembles-stored l o to next place stored =
        ap₂ (λ (p : List ℕ) (b : ℕ). sets p b rest) stored place
        ∙ sym (sets-append first rest l to)
        ∙ ap (sets l to) (sym ensembles_next)

pub ensembles_none : {n : ℕ} → n ≡ 0 → (xs : List ℕ) (at e s : ℕ) → flat_map ensemble_listing (ensembles_at e s n (drop at xs)) ≡ []
unfolding flat_map ensembles_at
ensembles_none z xs at e s = rw z refl

-- ---- the stream's record, then the ensembles

pub length_listed : (xs : List ℕ) → length (listing (list_in xs)) ≡ ts_bytes + length (flat_map ensemble_listing (ensembles_at (e_in xs) (s_in xs) (count_in xs) (after_header xs)))
unfolding listing list_in
length_listed xs = omega arith

pub listed_length : (xs : List ℕ) (n : ℕ) → n ≡ ts_bytes + length (flat_map ensemble_listing (ensembles_at (e_in xs) (s_in xs) (count_in xs) (after_header xs))) → n ≡ length (listing (list_in xs))
listed_length xs n e = e ∙ sym (length_listed xs)

pub listing-stored : (xs l mark id m : List ℕ) (w : ℕ) → w ≡ stream_in xs → mark ≡ sets l 0 mark_ts → id ≡ sets mark 2 (word_bytes w) → m ≡ sets (set id 4 (count_in xs)) ts_bytes (flat_map ensemble_listing (ensembles_at (e_in xs) (s_in xs) (count_in xs) (after_header xs))) → m ≡ sets l 0 (listing (list_in xs))
unfolding listing list_in
listing-stored xs l mark id m w e put next stored =
    let rest : List ℕ = flat_map ensemble_listing (ensembles_at (e_in xs) (s_in xs) (count_in xs) (after_header xs)) in
    let count = sym (length-ensembles_at (e_in xs) (s_in xs) (count_in xs) (after_header xs)) in
    let head = next ∙ sets_behind mark_ts (word_bytes w) l mark 0 put in
    let ts = sets_behind (mark_ts ++ word_bytes w) (count_in xs ∷ []) l id 0 head ∙ (λ i. sets l 0 (mark_ts ++ word_bytes (e i) ++ (count i ∷ []))) in
    stored ∙ sets_behind (ts_record (list_in xs)) rest l (set id 4 (count_in xs)) 0 ts

-- The length of the chunk of a listing: none for a listing that is not well formed. Assumes nothing.
use mathlib.Core.Path.{◌≡◌, refl, sym, ap, ap₂, ◌∙◌}
use mathlib.Core.Bool.{Bool, true, false, cond, ◌&&◌}
use mathlib.Core.List.{List, flat_map}
use Prim.Native.Nat.{ℕ, suc, ◌+◌, ◌-◌, ◌*◌, ◌≤◌, ◌<◌}
use native.Mathlib.Nat.{add-zero}
use native.Mathlib.Omega.{arith}
use lib.Dec.{eqb}
use lib.ListN.{length, get_or, drop, length-append, length-drop}
use Rattle.std.proofs.Common.{Option, Some, None}
use Rattle.meaning.specs.Sizes.{chunk_header_bytes, ensemble_bytes, service_bytes, ts_bytes}
use Rattle.meaning.specs.Lists.{Service, ensemble_services, services_of}
use Rattle.meaning.specs.Listing.{mark_ts}
use Rattle.meaning.specs.Said.{stands, services_fit, services_said, en_fits, id_said, count_said, after_en, after_services, ensembles_fit, ensembles_said, listing_fits, list_said}
use Rattle.meaning.specs.Plain.{plain_length}
use Rattle.meaning.proofs.Counts.{length-services_said}
use Rattle.listing_checks.specs.Lengths.{ensembles_length}
use Rattle.listing_checks.proofs.Checks.{behind, records_said, next, next_is, records_there, ensembles_next, ensembles_none}

-- ---- one ensemble after the other: those that are left of n after i of them, up to the end of the listing, with s bytes before them

abbrev pub length_with : ℕ → ℕ → List ℕ → Option ℕ
length_with s n ys = cond (ensembles_fit n ys) (Some (s + ensembles_length n ys)) None

module _ (n i s : ℕ) (ys : List ℕ) where
  module _ (more : i < n) where
    pub unfit_ensemble : en_fits ys ≡ false → None ≡ length_with s (n - i) ys
    unfit_ensemble e = sym (ap (λ (t : Bool). cond t (Some (s + ensembles_length (n - i) ys)) None) (ensembles_next n i ys more ∙ ap₂ ◌&&◌ e refl))

    module _ (fit : en_fits ys ≡ true) where
      pub unfit_services : services_fit (id_said ys) (count_said ys) (after_en ys) ≡ false → None ≡ length_with s (n - i) ys
      unfit_services e = sym (ap (λ (t : Bool). cond t (Some (s + ensembles_length (n - i) ys)) None) (ensembles_next n i ys more ∙ ap₂ ◌&&◌ fit (ap₂ ◌&&◌ e refl)))

      longer : ensembles_length (n - i) ys ≡ ensemble_bytes + service_bytes * count_said ys + ensembles_length (n - (i + 1)) (after_services ys)
      unfolding ensembles_said flat_map
      longer =
          let left : n - i ≡ suc (n - (i + 1)) = omega arith in
          let own : List Service = services_said (count_said ys) (after_en ys) in
          let rest : List Service = flat_map ensemble_services (ensembles_said (n - (i + 1)) (after_services ys)) in
          rw left (omega (arith, length-append own rest, length-services_said (count_said ys) (after_en ys)))

      pub length_stays : (b : ℕ) → services_fit (id_said ys) (count_said ys) (after_en ys) ≡ true → s + length ys ≤ b → s + (ensemble_bytes + service_bytes * count_said ys) + length (next ys) ≤ b
      length_stays b own h =
          omega (arith, records_there ys fit own, ap length (behind (records_said ys) ys), length-drop (records_said ys) ys)

      pub length_next : services_fit (id_said ys) (count_said ys) (after_en ys) ≡ true → length_with (s + (ensemble_bytes + service_bytes * count_said ys)) (n - (i + 1)) (next ys) ≡ length_with s (n - i) ys
      length_next own =
          ap (length_with (s + (ensemble_bytes + service_bytes * count_said ys)) (n - (i + 1))) (next_is ys)
          ∙ (let long : s + (ensemble_bytes + service_bytes * count_said ys) + ensembles_length (n - (i + 1)) (after_services ys) ≡ s + ensembles_length (n - i) ys = omega (arith, longer) in
          ap₂ (λ (t : Bool) (m : ℕ). cond t (Some m) None) (sym (ensembles_next n i ys more ∙ ap₂ ◌&&◌ fit (ap₂ ◌&&◌ own refl))) long)

  pub length_ends : n ≤ i → length_with s (n - i) ys ≡ cond (eqb (length ys) 0) (Some s) None
  unfolding ensembles_said flat_map
  length_ends past =
      let none : n - i ≡ 0 = omega arith in
      let end : s + ensembles_length (n - i) ys ≡ s = rw none (add-zero s) in
      ap₂ (λ (t : Bool) (m : ℕ). cond t (Some m) None) (ensembles_none n i ys past) end

-- ---- the chunk

module _ (xs : List ℕ) where
  abbrev pub length_if : Bool → Option ℕ
  length_if t = cond t (Some (plain_length (list_said xs))) None

  pub length_bad : stands mark_ts ts_bytes xs ≡ false → None ≡ length_if (listing_fits xs)
  unfolding listing_fits
  length_bad h = let bad : listing_fits xs ≡ false = ap₂ ◌&&◌ h refl in sym (ap length_if bad)

  pub length-known : (r : Option ℕ) → stands mark_ts ts_bytes xs ≡ true → r ≡ length_with chunk_header_bytes (get_or xs 4 0) (drop ts_bytes xs) → r ≡ length_if (listing_fits xs)
  unfolding listing_fits list_said services_of
  length-known r head e =
      let same : listing_fits xs ≡ ensembles_fit (get_or xs 4 0) (drop ts_bytes xs) = ap₂ ◌&&◌ head refl in
      let long : chunk_header_bytes + ensembles_length (get_or xs 4 0) (drop ts_bytes xs) ≡ plain_length (list_said xs) = omega arith in
      e ∙ ap₂ (λ (t : Bool) (m : ℕ). cond t (Some m) None) (sym same) long

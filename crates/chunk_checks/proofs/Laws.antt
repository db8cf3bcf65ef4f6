-- Laws of the definitions in the code's own terms: a chunk xs and a place in it, instead of what is left of the chunk. Assumes nothing.
use mathlib.Core.Path.{◌≡◌, refl, ap, ◌∙◌}
use mathlib.Core.List.{List}
use Prim.Native.Nat.{ℕ, suc, ◌+◌, ◌-◌, ◌*◌, ◌%◌, ◌≤◌, ◌<◌}
use native.Mathlib.Omega.{arith}
use lib.ListN.{length, get_or, drop, length-drop}
use lib.Seq.{get_or-drop, drop-drop}
use Rattle.std.proofs.Common.{Ok, Err}
use Rattle.meaning.specs.declared.Part.TheVariants.{EnsembleFields, SingleService}
use Rattle.meaning.specs.declared.Refusal.TheVariants.{EndsEarly}
use Rattle.meaning.specs.Sizes.{ensemble_bytes, service_bytes}
use Rattle.meaning.specs.Reading.{ensembles_checks, version_in, services_in, services_room, whole_services, inside}
use Rattle.meaning.proofs.Checks.{EnsemblePasses, ensemble-short, ensemble_crowded, ensemble_next}

-- ---- the checks on n ensembles from the place at on

module _ (xs : List ℕ) (at e s : ℕ) where
  -- the fields of the ensemble there
  pub version_at : version_in (drop at xs) ≡ get_or xs (at + 1) 0 % 32
  version_at = ap (λ (b : ℕ). b % 32) (get_or-drop at xs 1 0)

  pub services_at_lem : services_in e (drop at xs) ≡ get_or xs (at + (3 + e)) 0
  services_at_lem = get_or-drop at xs (3 + e) 0

  pub room_at : services_room e s (drop at xs) ≡ get_or xs (at + (3 + e)) 0 * (service_bytes + s)
  room_at = ap (λ (n : ℕ). n * (service_bytes + s)) services_at_lem

  pub inside_at : inside e (drop at xs) ≡ drop (at + (ensemble_bytes + e)) xs
  inside_at = drop-drop (ensemble_bytes + e) at xs

  pub none_there : {n : ℕ} → n ≡ 0 → ensembles_checks e s n at (drop at xs) ≡ Ok tt
  unfolding ensembles_checks
  none_there z = rw z refl

  -- where the services of the first begin, and how many bytes they have
  abbrev start : ℕ
  start = at + (ensemble_bytes + e)

  abbrev taken : ℕ
  taken = get_or xs (at + (3 + e)) 0 * (service_bytes + s)

  left_there : length (inside e (drop at xs)) ≡ length xs - start
  left_there = ap length inside_at ∙ length-drop start xs

  -- n ensembles are one and m more
  module _ {n m : ℕ} (one : n ≡ suc m) where
    pub short_there : length xs - at < ensemble_bytes + e → ensembles_checks e s n at (drop at xs) ≡ Err (EndsEarly EnsembleFields at)
    short_there h = rw one (ensemble-short e s m at (drop at xs) (omega (arith, length-drop at xs)))

    -- with its fields there
    module _ (h : ensemble_bytes + e ≤ length xs - at) where
      fields_there : ensemble_bytes + e ≤ length (drop at xs)
      fields_there = omega (arith, length-drop at xs)

      pub crowded_there : length xs - start < taken → ensembles_checks e s n at (drop at xs) ≡ Err (EndsEarly SingleService (start + whole_services s (length xs - start)))
      crowded_there r =
          rw one
          (ensemble_crowded e s m at (drop at xs) fields_there (omega (arith, left_there, room_at))
          ∙ ap (λ (k : ℕ). Err (EndsEarly SingleService (start + whole_services s k))) left_there)

      pub next_there : taken ≤ length xs - start → ensembles_checks e s n at (drop at xs) ≡ ensembles_checks e s m (start + taken) (drop (start + taken) xs)
      next_there r =
          let passes : EnsemblePasses e s (drop at xs) = record { fields = fields_there; services = omega (arith, left_there, room_at) } in
          rw one
          (ensemble_next e s m at (drop at xs) passes
          ∙ (λ i. ensembles_checks e s m (start + room_at i) (drop (room_at i) (inside_at i)))
          ∙ ap (ensembles_checks e s m (start + taken)) (drop-drop taken start xs))

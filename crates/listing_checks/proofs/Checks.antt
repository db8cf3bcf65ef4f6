-- The checks on the records of a listing, one after the other. Assumes nothing.
use mathlib.Core.Path.{◌≡◌, refl, sym, ap, ◌∙◌}
use mathlib.Core.Bool.{Bool, true, false, ◌&&◌}
use mathlib.Core.List.{List}
use Prim.Native.Nat.{ℕ, suc, ◌+◌, ◌-◌, ◌*◌, ◌≤◌, ◌<◌}
use native.Mathlib.Omega.{arith}
use lib.Dec.{eqb}
use lib.ListN.{length, take, drop, length-drop}
use lib.Seq.{take_all, drop-drop}
use Rattle.octets.proofs.Laws.{either}
use Rattle.meaning.specs.Sizes.{en_bytes, sv_bytes}
use Rattle.meaning.specs.Said.{sv_fits, services_fit, en_fits, ensembles_fit, id_said, count_said, after_en, after_services}
use Rattle.meaning.proofs.Counts.{services_room_lem, en_room}

-- what is behind the first k, as code takes it
pub behind : (k : ℕ) (xs : List ℕ) → take (length xs - k) (drop k xs) ≡ drop k xs
behind k xs = take_all (length xs - k) (drop k xs) (omega (arith, length-drop k xs))

-- what is behind an ensemble's record at the start of ys and those of its services, as code takes it
abbrev pub records_said : List ℕ → ℕ
records_said ys = en_bytes + sv_bytes * count_said ys

abbrev pub next : List ℕ → List ℕ
next ys = take (length ys - records_said ys) (drop (records_said ys) ys)

pub next_is : (ys : List ℕ) → next ys ≡ after_services ys
next_is ys = behind (records_said ys) ys ∙ sym (drop-drop (sv_bytes * count_said ys) en_bytes ys)

pub records_there : (ys : List ℕ) → en_fits ys ≡ true → services_fit (id_said ys) (count_said ys) (after_en ys) ≡ true → records_said ys ≤ length ys
records_there ys fit own =
    omega (arith, en_room ys fit, services_room_lem (id_said ys) (count_said ys) (after_en ys) own, length-drop en_bytes ys)

-- ---- the services of the ensemble e, those that are left of n after i of them

abbrev pub services_left : ℕ → ℕ → ℕ → List ℕ → Bool
services_left e n i xs = services_fit e (n - i) (drop (sv_bytes * i) xs)

module _ (e n : ℕ) (xs : List ℕ) where
  pub services-short : length xs < sv_bytes * n → services_fit e n xs ≡ false
  services-short short =
      either (services_fit e n xs) (λ h. absurd (omega (arith, services_room_lem e n xs h))) (λ h. h)

  pub services_next : (i : ℕ) → i < n → services_left e n i xs ≡ (sv_fits e (drop (sv_bytes * i) xs) && services_left e n (i + 1) xs)
  unfolding services_fit
  services_next i more =
      let left : n - i ≡ suc (n - (i + 1)) = omega arith in
      let on : sv_bytes * i + sv_bytes ≡ sv_bytes * (i + 1) = omega arith in
      let own : List ℕ = drop (sv_bytes * i) xs in
      ap (λ (k : ℕ). services_fit e k own) left
      ∙ ap (λ (ys : List ℕ). sv_fits e own && services_fit e (n - (i + 1)) ys) (drop-drop sv_bytes (sv_bytes * i) xs ∙ ap (λ (k : ℕ). drop k xs) on)

  pub services_none : (i : ℕ) → n ≤ i → services_left e n i xs ≡ true
  unfolding services_fit
  services_none i past =
      let none : n - i ≡ 0 = omega arith in
      rw none refl

-- ---- n ensembles, those that are left after i of them

module _ (n i : ℕ) (ys : List ℕ) where
  pub ensembles_next : i < n → ensembles_fit (n - i) ys ≡ (en_fits ys && (services_fit (id_said ys) (count_said ys) (after_en ys) && ensembles_fit (n - (i + 1)) (after_services ys)))
  unfolding ensembles_fit
  ensembles_next more =
      let left : n - i ≡ suc (n - (i + 1)) = omega arith in
      rw left refl

  pub ensembles_none : n ≤ i → ensembles_fit (n - i) ys ≡ eqb (length ys) 0
  unfolding ensembles_fit
  ensembles_none past =
      let none : n - i ≡ 0 = omega arith in
      rw none refl

-- What it is to pass the checks, in facts about numbers: there and back. Assumes nothing.
use mathlib.Core.Path.{◌≡◌, refl, ◌∙◌}
use mathlib.Core.Bool.{Bool, false}
use mathlib.Core.List.{List}
use Prim.Native.Nat.{ℕ, suc, ◌+◌, ◌*◌, ◌≤◌, ◌<◌}
use native.Mathlib.Nat.{mul-le-mul}
use native.Mathlib.Omega.{arith}
use borrow.Author.Tests.{ltb-false, lt-ltb, le-ltb, eq-eqb, ne_eqb, eqb-true, not-false}
use lib.Dec.{ltb}
use lib.ListN.{length}
use Rattle.std.proofs.Common.{Result, Ok, Err}
use Rattle.octets.specs.Checks.{check}
use Rattle.octets.proofs.Laws.{check_follows}
use Rattle.meaning.specs.declared.Refusal.{Refusal}
use Rattle.meaning.specs.declared.Part.TheVariants.{Header, EnsembleFields, SingleService}
use Rattle.meaning.specs.declared.Refusal.TheVariants.{OtherMajor, TooLong, EndsEarly}
use Rattle.meaning.specs.Sizes.{longest_chunk, chunk_header_bytes, ensemble_bytes, service_bytes}
use Rattle.meaning.specs.Reading.{checks, ensembles_in, ensembles_checks, major_in, h_in, services_room, whole_services, inside, past}

pub fault≢fine : {f : Refusal} → ◌≡◌ {A = Result Unit Refusal} (Err f) (Ok tt) → ⊥
fault≢fine p = let z : ◌≡◌ {A = ℕ} 0 1 = cc in omega arith

pub check_passed : (b : Bool) (f : Refusal) (r : Result Unit Refusal) → check b (Err f) r ≡ Ok tt → (b ≡ false) × (r ≡ Ok tt)
check_passed b f r = check_follows b fault≢fine

-- the services of an ensemble take few bytes
pub room_small : {n s : ℕ} → n < 256 → s < 8 → n * (service_bytes + s) < 2560
room_small {n} {s} h k =
    let few : n ≤ 255 = omega arith in
    let wide : service_bytes + s ≤ 10 = omega arith in
    omega (arith, mul-le-mul few wide)

-- the facts that an ensemble at the start of ys passes by
pub record EnsemblePasses (e s : ℕ) (ys : List ℕ) : Type 0 where
  pub fields : ensemble_bytes + e ≤ length ys
  pub services : services_room e s ys ≤ length (inside e ys)

module _ (e s n at : ℕ) (ys : List ℕ) where
  -- the offset of what follows its services
  abbrev next : ℕ
  next = at + (ensemble_bytes + e) + services_room e s ys

  pub ensemble-passes : ensembles_checks e s (suc n) at ys ≡ Ok tt → EnsemblePasses e s ys × (ensembles_checks e s n next (past e s ys) ≡ Ok tt)
  unfolding ensembles_checks
  ensemble-passes p =
      let a = check_passed _ _ _ p in
      let b = check_passed _ _ _ a.1 in
      (record { fields = ltb-false _ _ a.0; services = ltb-false _ _ b.0 }, b.1)

  pub ensemble_next : EnsemblePasses e s ys → ensembles_checks e s (suc n) at ys ≡ ensembles_checks e s n next (past e s ys)
  unfolding ensembles_checks
  ensemble_next h = simp (le-ltb _ _ h.fields, le-ltb _ _ h.services) refl

  pub ensemble-short : length ys < ensemble_bytes + e → ensembles_checks e s (suc n) at ys ≡ Err (EndsEarly EnsembleFields at)
  unfolding ensembles_checks
  ensemble-short h = simp (lt-ltb _ _ h) refl

  pub ensemble_crowded : ensemble_bytes + e ≤ length ys → length (inside e ys) < services_room e s ys → ensembles_checks e s (suc n) at ys ≡ Err (EndsEarly SingleService (at + (ensemble_bytes + e) + whole_services s (length (inside e ys))))
  unfolding ensembles_checks
  ensemble_crowded h r = simp (le-ltb _ _ h, lt-ltb _ _ r) refl

-- the facts that a chunk passes by, before its ensembles
pub record HeaderPasses (xs : List ℕ) : Type 0 where
  pub longest : length xs ≤ longest_chunk
  pub major : major_in xs ≡ 0
  pub fields : chunk_header_bytes + h_in xs ≤ length xs

pub header-passes : (xs : List ℕ) → checks xs ≡ Ok tt → HeaderPasses xs × (ensembles_in xs ≡ Ok tt)
unfolding checks
header-passes xs p =
    let a = check_passed _ TooLong _ p in
    let b = check_passed (ltb (length xs) 2) _ _ a.1 in
    let d = check_passed _ OtherMajor _ b.1 in
    let g = check_passed _ _ _ d.1 in (
      record {
        longest = ltb-false _ _ a.0;
        major = eqb-true _ _ (not-false _ d.0);
        fields = ltb-false _ _ g.0;
      },
      g.1,
    )

-- ---- when a header is refused, and with what

module _ (xs : List ℕ) where
  pub checks_long : longest_chunk < length xs → checks xs ≡ Err TooLong
  unfolding checks
  checks_long h = simp (lt-ltb _ _ h)

  pub checks_bare : length xs < 2 → checks xs ≡ Err (EndsEarly Header 0)
  unfolding checks
  checks_bare h =
      let small : length xs ≤ longest_chunk = omega arith in
      simp (le-ltb _ _ small, lt-ltb _ _ h)

  pub checks-major : length xs ≤ longest_chunk → 2 ≤ length xs → (major_in xs ≡ 0 → ⊥) → checks xs ≡ Err OtherMajor
  unfolding checks
  checks-major l t m = simp (le-ltb _ _ l, le-ltb _ _ t, ne_eqb _ _ m)

  pub checks-cut : length xs ≤ longest_chunk → 2 ≤ length xs → major_in xs ≡ 0 → length xs < chunk_header_bytes + h_in xs → checks xs ≡ Err (EndsEarly Header 0)
  unfolding checks
  checks-cut l t m h = simp (le-ltb _ _ l, le-ltb _ _ t, eq-eqb _ _ m, lt-ltb _ _ h)

  pub checks-header : HeaderPasses xs → checks xs ≡ ensembles_in xs
  unfolding checks
  checks-header h =
      let two : 2 ≤ length xs = omega (arith, h.fields) in
      simp (le-ltb _ _ h.longest, le-ltb _ _ two, eq-eqb _ _ h.major, le-ltb _ _ h.fields)

  pub header_fine : HeaderPasses xs → ensembles_in xs ≡ Ok tt → checks xs ≡ Ok tt
  header_fine h p = checks-header h ∙ p

-- The records that a listing counts: as many are said, and those that fit are there. Assumes nothing.
use mathlib.Core.Path.{◌≡◌, refl, ap}
use mathlib.Core.Bool.{Bool, true, ◌&&◌, and-eq-true_iff}
use mathlib.Core.List.{List}
use Prim.Native.Nat.{ℕ, zero, suc, ◌*◌, ◌≤◌}
use native.Mathlib.Omega.{arith}
use borrow.Author.Tests.{leb-true}
use lib.Dec.{leb}
use lib.ListN.{length, drop, length-drop}
use Rattle.meaning.specs.Sizes.{en_bytes, sv_bytes}
use Rattle.meaning.specs.Listing.{mark_en, mark_sv}
use Rattle.meaning.specs.Said.{stands, sv_fits, services_fit, services_said, en_fits, ensembles_said}

-- ---- as many as were counted

pub length-services_said : (n : ℕ) (zs : List ℕ) → length (services_said n zs) ≡ n
unfolding services_said
length-services_said zero zs = refl
length-services_said (suc n) zs = ap suc (length-services_said n _)

pub length-ensembles_said : (n : ℕ) (ys : List ℕ) → length (ensembles_said n ys) ≡ n
unfolding ensembles_said
length-ensembles_said zero ys = refl
length-ensembles_said (suc n) ys = ap suc (length-ensembles_said n _)

-- ---- records that fit are there

-- a test of two, the first of them of numbers
pub leb_and : (m n : ℕ) {t : Bool} → leb m n && t ≡ true → (m ≤ n) × (t ≡ true)
leb_and m n {t} h =
    let p = (and-eq-true_iff (leb m n) t).0 h in
    (leb-true m n p.0, p.1)

-- a test of two, the first of them of a record
pub stands_and : (mark : List ℕ) (n : ℕ) (zs : List ℕ) {t : Bool} → stands mark n zs && t ≡ true → (n ≤ length zs) × (t ≡ true)
stands_and mark n zs {t} h =
    let p = (and-eq-true_iff (stands mark n zs) t).0 h in
    ((leb_and n (length zs) p.0).0, p.1)

sv_room : (e : ℕ) (zs : List ℕ) → sv_fits e zs ≡ true → sv_bytes ≤ length zs
unfolding sv_fits
sv_room e zs h = (stands_and mark_sv sv_bytes zs h).0

pub services_room_lem : (e n : ℕ) (zs : List ℕ) → services_fit e n zs ≡ true → sv_bytes * n ≤ length zs
unfolding services_fit
services_room_lem e zero zs h = omega arith
services_room_lem e (suc n) zs h =
    let p = (and-eq-true_iff _ _).0 h in
    omega (arith, sv_room e zs p.0, services_room_lem e n (drop sv_bytes zs) p.1, length-drop sv_bytes zs)

pub en_room : (ys : List ℕ) → en_fits ys ≡ true → en_bytes ≤ length ys
unfolding en_fits
en_room ys h = (stands_and mark_en en_bytes ys h).0

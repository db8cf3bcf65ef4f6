-- The numbers that some checks can refuse with. Assumes nothing.
use mathlib.Core.Path.{◌≡◌, refl, subst}
use mathlib.Core.Bool.{Bool, true, false}
use mathlib.Core.List.{List, ◌∷◌}
use Prim.Native.Nat.{ℕ, zero, suc, ◌+◌, ◌<◌}
use lib.Dec.{T, eqb, lit<}
use Rattle.std.proofs.Common.{Result, Ok, Err}
use Rattle.octets.specs.Checks.{check, among}
use Rattle.octets.proofs.Laws.{either}
use Rattle.meaning.specs.declared.Refusal.{Refusal}
use Rattle.meaning.specs.declared.Refusal.TheVariants.{ShortBuffer, SegmentLength, SegmentType, ErrorBit, OtherMajor, NumberAboveLast, Clash, TooLong, EndsEarly, KindDiffers, BadDesk}
use Rattle.meaning.specs.Sizes.{ensemble_bytes}
use Rattle.meaning.specs.Numbers.{number_of, offset_of, checked_number}
use Rattle.meaning.specs.Reading.{ensembles_checks, services_room, past}

-- a refusal has a number among these
pub Gives : List ℕ → Result Unit Refusal → Type 0
Gives ns (Ok _) = Unit {0}
Gives ns (Err f) = T (among ns (number_of f))

module _ (ns : List ℕ) where
  pub gives_fine : Gives ns (Ok tt)
  unfolding Gives
  gives_fine = tt

  pub gives_check : (t : Bool) (f : Refusal) (v : Result Unit Refusal) → T (among ns (number_of f)) → Gives ns v → Gives ns (check t (Err f) v)
  unfolding Gives
  gives_check true f v m g = m
  gives_check false f v m g = g

  pub given : {v : Result Unit Refusal} {f : Refusal} → v ≡ Err f → Gives ns v → T (among ns (number_of f))
  unfolding Gives
  given e g = subst (Gives ns) e g

  pub gives_number : (v : Result Unit Refusal) → Gives ns v → T (among (0 ∷ ns) (checked_number v))
  unfolding Gives
  gives_number (Ok _) g = tt
  gives_number (Err f) g = either (eqb (number_of f) 0) (λ q. simp q tt) (λ q. simp q g)

  pub ensembles_give : T (among ns 9) → (e s n at : ℕ) (ys : List ℕ) → Gives ns (ensembles_checks e s n at ys)
  unfolding ensembles_checks
  ensembles_give early e s zero at ys = gives_fine
  ensembles_give early e s (suc n) at ys = search (gives_check, early, ensembles_give early e s n (at + (ensemble_bytes + e) + services_room e s ys) (past e s ys))

-- every number fits a byte
pub number_of_small : (f : Refusal) → number_of f < 0x100
number_of_small ShortBuffer = lit< tt
number_of_small SegmentLength = lit< tt
number_of_small SegmentType = lit< tt
number_of_small ErrorBit = lit< tt
number_of_small OtherMajor = lit< tt
number_of_small NumberAboveLast = lit< tt
number_of_small Clash = lit< tt
number_of_small TooLong = lit< tt
number_of_small (EndsEarly part at) = lit< tt
number_of_small KindDiffers = lit< tt
number_of_small BadDesk = lit< tt

-- only 9 tells an offset
pub no_offset : (f : Refusal) → (number_of f ≡ 9 → ⊥) → offset_of f ≡ 0
no_offset ShortBuffer h = refl
no_offset SegmentLength h = refl
no_offset SegmentType h = refl
no_offset ErrorBit h = refl
no_offset OtherMajor h = refl
no_offset NumberAboveLast h = refl
no_offset Clash h = refl
no_offset TooLong h = refl
no_offset (EndsEarly part at) h = absurd (h refl)
no_offset KindDiffers h = refl
no_offset BadDesk h = refl

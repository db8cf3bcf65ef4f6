-- The names that a call gives of a section are those that it carries; one that is not in force has none. Assumes nothing.
use mathlib.Core.Path.{◌≡◌, refl, sym, ap, ◌∙◌}
use mathlib.Core.List.{List, []}
use Prim.Native.Nat.{ℕ, ◌≤◌}
use native.Mathlib.Omega.{arith}
use borrow.Author.Tests.{ltb-true, ltb-false, le-ltb}
use lib.Dec.{ltb}
use lib.ListN.{get_or, get_or-eq_default}
use Rattle.std.specs.Prelude.{Ok}
use Rattle.octets.proofs.Laws.{either}
use Rattle.sections.specs.declared.Standing.TheVariants.{InForce}
use Rattle.sections.specs.Layout.{Carries}
use Rattle.sections.specs.Walks.{providers_in}
use Rattle.sections.specs.Reading.{standing, is_in_force, name_count, name_in, names_in}
use Rattle.sections.proofs.Names.{length-names, name_had}
use Rattle.sections.proofs.Steps.{in_force, count_none, count_some}
use Rattle.sections.proofs.Complete.{carried-accepted}

name_none : (xs : List ℕ) (n : ℕ) → name_count xs ≤ n → name_in xs n ≡ []
unfolding name_in
name_none xs n h = simp (le-ltb n (name_count xs) h) refl

pub no_names : (xs : List ℕ) → (standing xs ≡ Ok InForce → ⊥) → (n : ℕ) → name_in xs n ≡ []
no_names xs out n =
    either (is_in_force (standing xs)) (λ t. absurd (out (in_force xs t))) (λ f. name_none xs n (omega (arith, count_none xs f)))

-- each at its number, and none behind the last
pub names_had : {xs : List ℕ} {v n l : ℕ} {names : List (List ℕ)} → Carries xs v n l names → (i : ℕ) → name_in xs i ≡ get_or names i []
names_had {xs} {v} {n} {l} {names} c i =
    let a = carried-accepted c in
    let count : name_count xs ≡ providers_in xs = count_some xs (ap is_in_force a.passes) in
    let here : get_or (names_in xs) i [] ≡ get_or names i [] = ap (λ (ts : List (List ℕ)). get_or ts i []) a.named in
    either (ltb i (providers_in xs)) (λ t. sym (name_had xs i a.passes (ltb-true _ _ t)) ∙ here)
    (λ f.
    let past : providers_in xs ≤ i = ltb-false _ _ f in
    name_none xs i (omega arith) ∙ sym (get_or-eq_default (names_in xs) [] (omega (arith, length-names xs))) ∙ here)

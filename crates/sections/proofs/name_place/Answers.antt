-- `sections::name_place` meets its contract: a name that is there lies inside of the section. Assumes nothing.
use mathlib.Core.Path.{◌≡◌, refl, sym, ap, ◌∙◌}
use mathlib.Core.List.{List}
use Prim.Native.Nat.{ℕ, ◌+◌, ◌<◌}
use lib.ListN.{get_or}
use Rattle.std.specs.Prelude.{Ok}
use Rattle.sections.specs.Sizes.{head_bytes}
use Rattle.sections.specs.Walks.{Walk, place_of, providers}
use Rattle.sections.specs.Reading.{name_count, Stands}
use Rattle.sections.proofs.Names.{passes-longest, in_force_passes, provider_there}
use Rattle.sections.proofs.Steps.{counted_in_force, none_stands, name-stands}
use native.Mathlib.Omega.{arith}
use Rattle.sections.proofs.name_place.Goals as goal

-- once its place is known, where there is such a name
stands : (xs : List ℕ) (n count at : ℕ) (w : Walk) → count ≡ name_count xs → n < count → w ≡ Ok at → w ≡ providers xs n head_bytes → Stands xs n (at + 1) (get_or xs at 0)
stands xs n count at w k h e p = name-stands xs n (omega (arith, k)) at (ap place_of (sym e ∙ p))

pub returns-then-name_count-n : goal.returns-then-name_count-n
returns-then-name_count-n c = none_stands _ _ (omega (arith, c.name_count.ensures, c.if-name_count-n.true))

pub step_providers-requires : goal.step_providers-requires
step_providers-requires c =
    let has : c.args.n < name_count c.args.section.now = omega (arith, c.name_count.ensures, c.if-name_count-n.false) in
    let p = in_force_passes (counted_in_force c.args.section.now c.args.n has).0 in
    (p.head, passes-longest p)

pub unwrap-at-requires : goal.unwrap-at-requires
unwrap-at-requires c =
    let has : c.args.n < name_count c.args.section.now = omega (arith, c.name_count.ensures, c.if-name_count-n.false) in
    let f = counted_in_force c.args.section.now c.args.n has in
    rw (c.step_providers.ensures ∙ (provider_there c.args.section.now c.args.n f.0 f.1).0) refl

pub bounds-section-at : goal.bounds-section-at
bounds-section-at c =
    let t = (stands c.args.section.now c.args.n _ _ _ c.name_count.ensures c.if-name_count-n.false c.unwrap-at.ensures c.step_providers.ensures).inside in
    omega arith

pub overflow_add-result : goal.overflow_add-result
overflow_add-result c =
    let t = (stands c.args.section.now c.args.n _ _ _ c.name_count.ensures c.if-name_count-n.false c.unwrap-at.ensures c.step_providers.ensures).inside in
    omega arith

pub returns : goal.returns
returns c = stands c.args.section.now c.args.n _ _ _ c.name_count.ensures c.if-name_count-n.false c.unwrap-at.ensures c.step_providers.ensures

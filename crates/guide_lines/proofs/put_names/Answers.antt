-- `guide_lines::put_names` meets its contract. The loop's invariant: the next provider stands at the place, and of the whole that was asked for, the lines of the names left are
-- left to put. Assumes nothing.
use mathlib.Core.Path.{refl, sym, ap, ◌∙◌}
use native.Mathlib.Nat.{sub-zero}
use native.Mathlib.Omega.{arith}
use lib.ListN.{get_or}
use Rattle.sections.specs.Walks.{place_of}
use Rattle.sections.proofs.Names.{in_force_passes, passes-longest}
use Rattle.guide_lines.proofs.Laws.{left_all, left_more, left_none, left_room, place_first, name-inside, place_passed, place_next, names_next, names_none}
use Rattle.guide_lines.proofs.put_names.Goals as goal

pub loop-n-init : goal.loop-n-init
loop-n-init c = let xs = c.args.section.now in
    let whole = sub-zero (get_or xs 8 0) in
    (place_first xs, rw whole left_all)

pub overflow_add-from : goal.overflow_add-from
overflow_add-from c = let l = c.loop-n in
    omega (arith, name-inside c.args.section.now l.n l.place c.requires.0 c.loop-n-test.true l.invariant.0)

pub bounds-section-place : goal.bounds-section-place
bounds-section-place c = let l = c.loop-n in
    omega (arith, name-inside c.args.section.now l.n l.place c.requires.0 c.loop-n-test.true l.invariant.0)

pub put_name_line-requires : goal.put_name_line-requires
put_name_line-requires c = let l = c.loop-n in
    let xs = c.args.section.now in
    left_room _ _ (names_next xs l.n (get_or xs 8 0) l.place c.loop-n-test.true) l.invariant.1 c.requires.1

pub step_provider-requires : goal.step_provider-requires
step_provider-requires c = let l = c.loop-n in
    (omega (arith, name-inside c.args.section.now l.n l.place c.requires.0 c.loop-n-test.true l.invariant.0), passes-longest (in_force_passes c.requires.0))

pub unwrap-place-requires : goal.unwrap-place-requires
unwrap-place-requires c = let l = c.loop-n in
    rw (c.step_provider.ensures ∙ place_passed c.args.section.now l.n l.place c.requires.0 c.loop-n-test.true l.invariant.0) refl

pub loop-n-preserved : goal.loop-n-preserved
loop-n-preserved c = let l = c.loop-n in
    let xs = c.args.section.now in
    let next = names_next xs l.n (get_or xs 8 0) l.place c.loop-n-test.true in
    let moved = ap place_of (sym c.unwrap-place.ensures ∙ c.step_provider.ensures) in
    (moved ∙ place_next xs l.n l.place c.requires.0 c.loop-n-test.true l.invariant.0, rw moved (left_more next l.invariant.1 c.put_name_line.ensures))

pub returns : goal.returns
returns c = let l = c.loop-n in
    left_none (names_none c.args.section.now l.n _ l.place c.loop-n-test.false) l.invariant.1

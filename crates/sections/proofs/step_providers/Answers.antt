-- `sections::step_providers` meets its contract: the walk over what is left, from here on, is the walk asked for. Assumes nothing.
use mathlib.Core.Path.{◌≡◌, sym, ◌∙◌}
use native.Mathlib.Omega.{arith}
use Rattle.std.specs.Prelude.{Err}
use Rattle.sections.proofs.Laws.{walk_within, repeats_goes, repeats_cut, repeats_end}
use Rattle.sections.proofs.Parts.{providers-repeat}
use Rattle.sections.proofs.Names.{provider-inside}
use Rattle.sections.proofs.step_providers.Goals as goal

pub returns-in_err-at : goal.returns-in_err-at
returns-in_err-at c = let l = c.loop in
    let told : c.from_residual.result ≡ Err c.in_err-at.field-0.0 = grind arith in
    told ∙ repeats_cut (providers-repeat c.args.section.now) _ _ l.at l.invariant.1 c.loop-test.true c.in_err-at.ensures

pub loop-preserved : goal.loop-preserved
loop-preserved c = let xs = c.args.section.now in
    let l = c.loop in
    ((walk_within (provider-inside xs l.at l.invariant.0) (sym c.in_ok-at.ensures)).1, repeats_goes (providers-repeat xs) _ _ l.at l.invariant.1 c.loop-test.true c.in_ok-at.ensures)

pub returns : goal.returns
returns c = let l = c.loop in
    repeats_end (providers-repeat c.args.section.now) _ _ l.at l.invariant.1 c.loop-test.false

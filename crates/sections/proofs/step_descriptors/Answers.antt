-- `sections::step_descriptors` meets its contract: the walk over what is left, from here on, is the walk asked for. Assumes nothing.
use mathlib.Core.Path.{◌≡◌, ◌∙◌}
use Rattle.std.specs.Prelude.{Ok, Err}
use Rattle.sections.specs.Walks.{descriptor_bytes}
use Rattle.sections.proofs.Laws.{step_goes, step_cut, repeats_goes, repeats_cut, repeats_end}
use Rattle.sections.proofs.Parts.{descriptor, descriptors-repeat}
use native.Mathlib.Omega.{arith}
use Rattle.sections.proofs.step_descriptors.Goals as goal

pub returns-in_err-step_over : goal.returns-in_err-step_over
unfolding descriptor
returns-in_err-step_over c = let xs = c.args.section.now in
    let l = c.loop in
    let told : c.from_residual.result ≡ Err c.in_err-step_over.field-0.0 = grind arith in
    told ∙ repeats_cut (descriptors-repeat xs) _ _ l.at l.invariant.1 c.loop-test.true (step_cut xs l.at 2 (descriptor_bytes xs l.at) (omega arith) c.in_err-step_over.ensures Ok)

pub returns-in_err-at : goal.returns-in_err-at
unfolding descriptor
returns-in_err-at c = let l = c.loop in
    let told : c.from_residual-in_err-at.result ≡ Err c.in_err-at.field-0.0 = grind arith in
    told ∙ repeats_cut (descriptors-repeat c.args.section.now) _ _ l.at l.invariant.1 c.loop-test.true c.in_err-at.ensures

pub loop-preserved : goal.loop-preserved
unfolding descriptor
loop-preserved c = let xs = c.args.section.now in
    let l = c.loop in
    ((step_goes xs l.at (descriptor_bytes xs l.at) c.in_ok-at.ensures).1, repeats_goes (descriptors-repeat xs) _ _ l.at l.invariant.1 c.loop-test.true c.in_ok-at.ensures)

pub returns : goal.returns
returns c = let l = c.loop in
    repeats_end (descriptors-repeat c.args.section.now) _ _ l.at l.invariant.1 c.loop-test.false

-- `listing_checks::ensembles_length` meets its contract. The loop's invariant: the length so far is no greater than what was gone over, the header
-- aside; with the ensembles left it makes the length asked for. Assumes nothing.
use mathlib.Core.Path.{sym, ap, ◌∙◌}
use mathlib.Core.Bool.{Bool, cond}
use Rattle.std.proofs.Common.{Some, None}
use Rattle.meaning.specs.Sizes.{en_bytes}
use Rattle.meaning.specs.Said.{services_fit, id_said, count_said}
use Rattle.listing_checks.proofs.Checks.{behind}
use Rattle.listing_checks.proofs.Lengths.{unfit_ensemble, unfit_services, length_stays, length_next, length_ends}
use Rattle.listing_checks.proofs.ensembles_length.Goals as goal

pub returns-then-not-ensemble_fits : goal.returns-then-not-ensemble_fits
returns-then-not-ensemble_fits c = let l = c.loop in
    unfit_ensemble c.args.count l.counter l.length l.rest.now c.loop-test.true (sym c.ensemble_fits.ensures ∙ c.if-not-ensemble_fits.true) ∙ l.invariant.1

pub returns-then-not-services_fit : goal.returns-then-not-services_fit
returns-then-not-services_fit c = let l = c.loop in
    let ys = l.rest.now in
    let own = c.services_fit.ensures ∙ ap (services_fit (id_said ys) (count_said ys)) (behind en_bytes ys) in
    unfit_services c.args.count l.counter l.length ys c.loop-test.true (sym c.ensemble_fits.ensures ∙ c.if-not-ensemble_fits.false) (sym own ∙ c.if-not-services_fit.true) ∙ l.invariant.1

pub loop-preserved : goal.loop-preserved
loop-preserved c = let l = c.loop in
    let ys = l.rest.now in
    let fit = sym c.ensemble_fits.ensures ∙ c.if-not-ensemble_fits.false in
    let own = sym (c.services_fit.ensures ∙ ap (services_fit (id_said ys) (count_said ys)) (behind en_bytes ys)) ∙ c.if-not-services_fit.false in (
      length_stays c.args.count l.counter l.length ys c.loop-test.true fit _ own l.invariant.0,
      length_next c.args.count l.counter l.length ys c.loop-test.true fit own ∙ l.invariant.1,
    )

pub returns-then-is_empty : goal.returns-then-is_empty
returns-then-is_empty c = let l = c.loop in
    sym (length_ends c.args.count l.counter l.length l.rest.now c.loop-test.false ∙ ap (λ (t : Bool). cond t (Some l.length) None) (sym c.is_empty.ensures ∙ c.if-is_empty.true)) ∙ l.invariant.1

pub returns-else-is_empty : goal.returns-else-is_empty
returns-else-is_empty c = let l = c.loop in
    sym (length_ends c.args.count l.counter l.length l.rest.now c.loop-test.false ∙ ap (λ (t : Bool). cond t (Some l.length) None) (sym c.is_empty.ensures ∙ c.if-is_empty.false)) ∙ l.invariant.1

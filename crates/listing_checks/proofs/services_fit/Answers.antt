-- `listing_checks::services_fit` meets its contract. The loop's invariant: the tests on the services left are the tests asked for. Assumes nothing.
use mathlib.Core.Bool.{◌&&◌}
use mathlib.Core.Path.{refl, sym, ap, ap₂, ◌∙◌}
use native.Mathlib.Omega.{arith}
use Prim.Native.Nat.{◌*◌}
use Rattle.meaning.specs.Sizes.{sv_bytes}
use Rattle.meaning.specs.Said.{sv_fits}
use Rattle.listing_checks.proofs.Checks.{behind, services-short, services_next, services_none}
use Rattle.listing_checks.proofs.services_fit.Goals as goal

pub returns-then-records-count : goal.returns-then-records-count
returns-then-records-count c = let a = c.args in sym (services-short a.ensemble a.count a.records.now (omega arith))

pub returns-then-not-service_fits : goal.returns-then-not-service_fits
returns-then-not-service_fits c = let a = c.args in
    let unfit = sym (c.service_fits.ensures ∙ ap (sv_fits a.ensemble) (behind (sv_bytes * c.loop-i.i) a.records.now)) ∙ c.if-not-service_fits.true in
    sym (services_next a.ensemble a.count a.records.now c.loop-i.i c.loop-i-test.true ∙ ap₂ ◌&&◌ unfit refl) ∙ c.loop-i.invariant

pub loop-i-preserved : goal.loop-i-preserved
loop-i-preserved c = let a = c.args in
    let fit = sym (c.service_fits.ensures ∙ ap (sv_fits a.ensemble) (behind (sv_bytes * c.loop-i.i) a.records.now)) ∙ c.if-not-service_fits.false in
    sym (services_next a.ensemble a.count a.records.now c.loop-i.i c.loop-i-test.true ∙ ap₂ ◌&&◌ fit refl) ∙ c.loop-i.invariant

pub returns : goal.returns
returns c = let a = c.args in
    sym (services_none a.ensemble a.count a.records.now c.loop-i.i c.loop-i-test.false) ∙ c.loop-i.invariant

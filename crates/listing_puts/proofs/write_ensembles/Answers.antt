-- `listing_puts::write_ensembles` meets its contract. The loop's invariant: the checks passed what is left, and what is left, put here, makes the
-- whole that was asked for. Assumes nothing.
use native.Mathlib.Omega.{arith}
use Prim.Native.Nat.{suc, ◌+◌, ◌-◌}
use mathlib.Core.Path.{◌≡◌, refl, sym, ap, ◌∙◌}
use lib.ListN.{length}
use lib.Seq.{sets}
use Rattle.chunk_checks.proofs.Laws.{services_at_lem}
use Rattle.listing_puts.proofs.Laws.{ensembles_some, ensembles_none, length-ensembles, ensembles-stored}
use Rattle.listing_puts.proofs.write_ensembles.Goals as goal

pub loop-init : goal.loop-init
loop-init c =
    let all : c.args.count - 0 ≡ c.args.count = omega arith in
    rw all (c.requires.from_in_bounds.0, c.requires.chunk_value, refl, refl, refl)

pub write_ensemble-to-requires : goal.write_ensemble-to-requires
write_ensemble-to-requires c =
    let a = c.args in
    let l = c.loop in
    let xs = a.chunk.now in
    let one : a.count - l.counter ≡ suc (a.count - (l.counter + 1)) = omega arith in
    record {
      chunk_in_bounds = (ensembles_some one xs l.at a.e a.s _ l.invariant.0 l.invariant.1 refl).0;
      chunk_in_bounds_2 = omega (arith, l.invariant.2, l.invariant.3, length-ensembles one xs l.at a.e a.s _ refl);
    }

pub bounds-chunk-at : goal.bounds-chunk-at
bounds-chunk-at c =
    let a = c.args in
    let l = c.loop in
    let xs = a.chunk.now in
    let one : a.count - l.counter ≡ suc (a.count - (l.counter + 1)) = omega arith in
    let there = ensembles_some one xs l.at a.e a.s _ l.invariant.0 l.invariant.1 (sym (services_at_lem xs l.at a.e a.s)) in
    omega (arith, there.0)

pub overflow_mul-at : goal.overflow_mul-at
overflow_mul-at c =
    let a = c.args in
    let l = c.loop in
    let xs = a.chunk.now in
    let one : a.count - l.counter ≡ suc (a.count - (l.counter + 1)) = omega arith in
    let there = ensembles_some one xs l.at a.e a.s _ l.invariant.0 l.invariant.1 (sym (services_at_lem xs l.at a.e a.s)) in
    omega (arith, there.0)

pub loop-preserved : goal.loop-preserved
loop-preserved c =
    let a = c.args in
    let l = c.loop in
    let xs = a.chunk.now in
    let one : a.count - l.counter ≡ suc (a.count - (l.counter + 1)) = omega arith in
    let put = c.write_ensemble-to.ensures in
    let is = sym (services_at_lem xs l.at a.e a.s) in
    let there = ensembles_some one xs l.at a.e a.s _ l.invariant.0 l.invariant.1 is in (
      there.0,
      there.1,
      omega arith,
      omega (arith, put.value, l.invariant.3, length-ensembles one xs l.at a.e a.s _ is),
      ensembles-stored one xs l.at a.e a.s _ is l.out _ l.to _ put.value put.out_after ∙ l.invariant.4,
    )

pub returns : goal.returns
returns c =
    let a = c.args in
    let l = c.loop in
    let zero : a.count - l.counter ≡ 0 = omega arith in
    let none = ensembles_none zero a.chunk.now l.at a.e a.s in
    record { value = omega (arith, l.invariant.3, ap length none); out_after = sym (ap (sets l.out l.to) none) ∙ l.invariant.4 }

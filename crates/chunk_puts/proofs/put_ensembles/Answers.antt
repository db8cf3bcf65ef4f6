-- `chunk_puts::put_ensembles` meets its contract. The loop's invariant: the records that are left are well formed, and what is left, put here,
-- makes the whole that was asked for. Assumes nothing.
use native.Mathlib.Omega.{arith}
use mathlib.Core.Path.{sym, ◌∙◌}
use Rattle.chunk_puts.proofs.Laws.{ensemble_there, ensemble_services, ensemble_inside, ensembles_rest, length-ensembles, ensembles_room, ensembles-stored, ensembles_none}
use Rattle.chunk_puts.proofs.put_ensembles.Goals as goal

pub bounds-rest-5 : goal.bounds-rest-5
bounds-rest-5 c = let l = c.loop in omega (arith, (ensemble_there c.args.count l.counter l.rest.now c.loop-test.true l.invariant.0).there)

pub put_ensemble-requires-clause-said : goal.put_ensemble-requires-clause-said
put_ensemble-requires-clause-said c = let l = c.loop in ensemble_there c.args.count l.counter l.rest.now c.loop-test.true l.invariant.0

pub put_ensemble-requires-clause-fit : goal.put_ensemble-requires-clause-fit
put_ensemble-requires-clause-fit c = let l = c.loop in ensemble_services c.args.count l.counter l.rest.now c.loop-test.true l.invariant.0

pub put_ensemble-requires-clause-room : goal.put_ensemble-requires-clause-room
put_ensemble-requires-clause-room c = let l = c.loop in omega (arith, l.invariant.1, length-ensembles c.args.count l.counter l.rest.now c.loop-test.true)

pub slice_bounds-rest-count : goal.slice_bounds-rest-count
slice_bounds-rest-count c = let l = c.loop in omega (arith, ensemble_inside c.args.count l.counter l.rest.now c.loop-test.true l.invariant.0)

pub slice_bounds-rest-start : goal.slice_bounds-rest-start
slice_bounds-rest-start c = let l = c.loop in omega (arith, ensemble_inside c.args.count l.counter l.rest.now c.loop-test.true l.invariant.0)

pub loop-preserved : goal.loop-preserved
loop-preserved c = let l = c.loop in
    let ys = l.rest.now in (
      ensembles_rest c.args.count l.counter ys c.loop-test.true l.invariant.0,
      ensembles_room c.args.count l.counter ys c.loop-test.true l.chunk _ l.to l.invariant.1 c.put_ensemble.ensures,
      ensembles-stored c.args.count l.counter ys c.loop-test.true l.chunk _ l.to c.put_ensemble.ensures ∙ l.invariant.2,
    )

pub returns : goal.returns
returns c = let l = c.loop in
    sym (ensembles_none c.args.count l.counter l.rest.now l.chunk l.to c.loop-test.false) ∙ l.invariant.2

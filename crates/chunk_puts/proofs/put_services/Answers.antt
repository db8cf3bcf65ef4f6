-- `chunk_puts::put_services` meets its contract. The loop's invariant: what is left, put here, makes the whole that was asked for. Assumes nothing.
use native.Mathlib.Omega.{arith}
use mathlib.Core.Path.{sym, subst, ◌∙◌}
use Prim.Native.Nat.{◌*◌}
use Rattle.meaning.specs.Sizes.{sv_bytes}
use Rattle.meaning.proofs.Counts.{services_room_lem}
use Rattle.listing_checks.proofs.Checks.{behind}
use Rattle.chunk_puts.specs.Laid.{ServiceSaid}
use Rattle.chunk_puts.proofs.Laws.{services_said, services_next, services_none}
use Rattle.chunk_puts.proofs.put_services.Goals as goal

pub overflow_mul-i : goal.overflow_mul-i
overflow_mul-i c = omega (arith, services_room_lem c.requires.fit.0 c.args.count c.args.records.now c.requires.fit.1)

pub slice_bounds-put_service-count : goal.slice_bounds-put_service-count
slice_bounds-put_service-count c = omega (arith, services_room_lem c.requires.fit.0 c.args.count c.args.records.now c.requires.fit.1)

pub slice_bounds-put_service-start : goal.slice_bounds-put_service-start
slice_bounds-put_service-start c = omega (arith, services_room_lem c.requires.fit.0 c.args.count c.args.records.now c.requires.fit.1)

pub put_service-requires-clause-said : goal.put_service-requires-clause-said
put_service-requires-clause-said c = let a = c.args in
    let i = c.loop-i.i in
    subst ServiceSaid (sym (behind (sv_bytes * i) a.records.now)) (services_said c.requires.fit.0 a.count a.records.now i c.loop-i-test.true c.requires.fit.1)

pub loop-i-preserved : goal.loop-i-preserved
loop-i-preserved c = let a = c.args in
    let l = c.loop-i in
    services_next a.count l.i a.records.now a.start _ l.chunk _ c.loop-i-test.true (behind (sv_bytes * l.i) a.records.now) c.put_service.ensures ∙ l.invariant

pub returns : goal.returns
returns c = let a = c.args in
    let l = c.loop-i in
    sym (services_none a.count l.i a.records.now a.start l.chunk c.loop-i-test.false) ∙ l.invariant

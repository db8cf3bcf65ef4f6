-- `listing_puts::write_services` meets its contract. The loop's invariant: what is left, put here, makes the whole that was asked for. Assumes
-- nothing.
use native.Mathlib.Omega.{arith}
use Prim.Native.Nat.{suc, ◌+◌, ◌-◌}
use mathlib.Core.Path.{◌≡◌, refl, sym, ◌∙◌}
use lib.ListN.{length}
use Rattle.meaning.specs.Sizes.{service_bytes}
use Rattle.listing_puts.proofs.Laws.{row_first, row-rest, services_next, services_none}
use Rattle.listing_puts.proofs.write_services.Goals as goal

pub loop-init : goal.loop-init
loop-init c = let all : c.args.count - 0 ≡ c.args.count = omega arith in rw all (c.requires.0, c.requires.1, refl, refl)

pub write_service-requires : goal.write_service-requires
write_service-requires c = let a = c.args in
    let l = c.loop in
    let one : a.count - l.counter ≡ suc (a.count - (l.counter + 1)) = omega arith in
    omega (arith, row_first one l.at (service_bytes + a.s) (length a.chunk.now) l.invariant.0)

pub overflow_add-at : goal.overflow_add-at
overflow_add-at c = let a = c.args in
    let l = c.loop in
    let one : a.count - l.counter ≡ suc (a.count - (l.counter + 1)) = omega arith in
    omega (arith, row_first one l.at (service_bytes + a.s) (length a.chunk.now) l.invariant.0)

pub loop-preserved : goal.loop-preserved
loop-preserved c = let a = c.args in
    let l = c.loop in
    let one : a.count - l.counter ≡ suc (a.count - (l.counter + 1)) = omega arith in (
      row-rest one l.at (service_bytes + a.s) (length a.chunk.now) l.invariant.0,
      omega arith,
      omega arith,
      services_next one a.chunk.now l.out _ l.at a.ensemble l.to a.s c.write_service.ensures ∙ l.invariant.3,
    )

pub returns : goal.returns
returns c = let a = c.args in
    let l = c.loop in
    let none : a.count - l.counter ≡ 0 = omega arith in
    sym (services_none none a.chunk.now l.out l.at a.ensemble l.to a.s) ∙ l.invariant.3

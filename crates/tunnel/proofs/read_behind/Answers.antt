-- `tunnel::read_behind` meets its contract: both halves. Assumes nothing.
use mathlib.Core.Path.{ap}
use native.Mathlib.Omega.{arith}
use Prim.Native.Nat.{◌≤◌}
use lib.ListN.{length}
use Rattle.tunnel.proofs.Laws.{inside}
use Rattle.tunnel.proofs.Behind.{before_held, before_lost, after_parts, after_room, behind_gains}
use Rattle.tunnel.proofs.read_behind.Goals as goal

pub read_from-after-requires : goal.read_from-after-requires
read_from-after-requires c = let a = c.args in
    let h = c.requires.held_in_bounds in
    let i = inside a.held a.part.now c.told-part h.0 in
    after_room a.part.now a.payload.now a.held a.start i h.1 a.marked _ _ c.split_at.ensures.front c.split_at.ensures.back _ _ h.2 (omega (arith, h.3, c.read_before-before.auto.out)) (omega (arith, c.read_before-before.ensures.0))

pub put_all-requires : goal.put_all-requires
put_all-requires c = let a = c.args in
    let h = c.requires.held_in_bounds in
    let i = inside a.held a.part.now c.told-part h.0 in
    omega (arith, after_parts a.part.now a.payload.now a.held a.start i h.1 a.marked _ _ c.split_at.ensures.front c.split_at.ensures.back, ap length c.read_from-after.ensures.2, h.2)

pub overflow_add-result : goal.overflow_add-result
overflow_add-result c = let a = c.args in
    let h = c.requires.held_in_bounds in
    let i = inside a.held a.part.now c.told-part h.0 in
    omega (arith, c.read_before-before.ensures.2, before_held a.part.now a.payload.now a.held a.start i h.1 a.marked _ _ c.split_at.ensures.front c.split_at.ensures.back, after_parts a.part.now a.payload.now a.held a.start i h.1 a.marked _ _ c.split_at.ensures.front c.split_at.ensures.back, ap length c.read_from-after.ensures.2, h.2)

pub overflow_add-result-2 : goal.overflow_add-result-2
overflow_add-result-2 c = let a = c.args in
    let h = c.requires.held_in_bounds in
    let i = inside a.held a.part.now c.told-part h.0 in
    omega (arith, c.read_before-before.ensures.4, before_lost a.part.now a.payload.now a.held a.start i h.1 a.marked _ _ c.split_at.ensures.front c.split_at.ensures.back, after_parts a.part.now a.payload.now a.held a.start i h.1 a.marked _ _ c.split_at.ensures.front c.split_at.ensures.back, c.read_from-after.ensures.3, h.0, h.1, h.2)

pub returns : goal.returns
returns c = let a = c.args in
    let h = c.requires.held_in_bounds in
    let i = inside a.held a.part.now c.told-part h.0 in
    behind_gains a.part.now a.payload.now a.held a.start i h.1 a.marked _ _ c.split_at.ensures.front c.split_at.ensures.back c.requires.start_value a.out.now _ _ _ _ _ c.read_before-before.ensures _ _ _ _ c.read_from-after.ensures _ c.put_all.ensures

-- `tunnel::read_before` meets its contract, case by case. Assumes nothing.
use mathlib.Core.Path.{refl, sym, ◌∙◌}
use native.Mathlib.Omega.{arith}
use Rattle.packets.proofs.Laws.{means}
use Rattle.tunnel.proofs.Laws.{inside, held_front, held_some, joined_length, room, part_behind, before_none, before_other, before_ends, before_cut, before_goes_on, before_fault, gains_thrown, gains_one, gains_part}
use Rattle.tunnel.proofs.read_before.Goals as goal

pub returns-then-held-eq0 : goal.returns-then-held-eq0
returns-then-held-eq0 c = let a = c.args in
    let long = held_front a.held a.part.now c.told-part c.requires.0 in
    gains_thrown a.part.now a.out.now _ _ _ a.more.now (before_none a.marked _ a.more.now (long ∙ c.if-held-eq0.true)) (refl, refl, omega (arith, c.if-held-eq0.true))

pub returns-then-total-n : goal.returns-then-total-n
returns-then-total-n c = let a = c.args in
    let l = joined_length a.held a.part.now c.told-part c.requires.0 a.more.now in
    let some = held_some a.held a.part.now c.told-part c.requires.0 c.if-held-eq0.false in
    gains_thrown a.part.now a.out.now _ _ _ _ (before_other a.marked _ a.more.now some _ (sym c.in-Whole.ensures) (λ e. c.if-total-n.true (e ∙ l))) (refl, refl, sym l)

pub put_packet-requires : goal.put_packet-requires
put_packet-requires c = let a = c.args in
    let long = held_front a.held a.part.now c.told-part c.requires.0 in
    let m = means _ (sym c.in-Whole.ensures) in
    (omega (arith, m.3, c.if-total-n.false, long), omega (arith, m.3, c.if-total-n.false, c.requires.1, long))

pub returns-then-marked : goal.returns-then-marked
returns-then-marked c = let a = c.args in
    let l = joined_length a.held a.part.now c.told-part c.requires.0 a.more.now in
    let some = held_some a.held a.part.now c.told-part c.requires.0 c.if-held-eq0.false in
    gains_thrown a.part.now a.out.now _ _ _ _ (before_cut a.marked _ a.more.now some (sym c.in-Running.ensures) c.if-marked.true) (refl, refl, sym l)

pub put_all-requires : goal.put_all-requires
put_all-requires c = let a = c.args in
    room a.held a.part.now c.told-part c.requires.0 a.more.now (means _ (sym c.in-Running.ensures))

pub returns-else-total-n : goal.returns-else-total-n
returns-else-total-n c = let a = c.args in
    let l = joined_length a.held a.part.now c.told-part c.requires.0 a.more.now in
    let some = held_some a.held a.part.now c.told-part c.requires.0 c.if-held-eq0.false in
    gains_one a.part.now a.out.now _ _ _ _ (before_ends a.marked _ a.more.now some _ (sym c.in-Whole.ensures) (c.if-total-n.false ∙ sym l)) c.put_packet.ensures (omega (arith, l)) (refl, refl)

pub returns-else-marked : goal.returns-else-marked
returns-else-marked c = let a = c.args in
    let l = joined_length a.held a.part.now c.told-part c.requires.0 a.more.now in
    let some = held_some a.held a.part.now c.told-part c.requires.0 c.if-held-eq0.false in
    gains_part a.part.now a.out.now _ _ _ _ (before_goes_on a.marked _ a.more.now some (sym c.in-Running.ensures) c.if-marked.false) (part_behind a.part.now a.more.now _ a.held (inside a.held a.part.now c.told-part c.requires.0) c.put_all.ensures) (sym l) (refl, refl)

pub returns-in-Fault : goal.returns-in-Fault
returns-in-Fault c = let a = c.args in
    let l = joined_length a.held a.part.now c.told-part c.requires.0 a.more.now in
    let some = held_some a.held a.part.now c.told-part c.requires.0 c.if-held-eq0.false in
    gains_thrown a.part.now a.out.now _ _ _ _ (before_fault a.marked _ a.more.now some (sym c.in-Fault.ensures)) (refl, refl, sym l)

-- `tunnel::read_from` meets its contract. The loop's invariant: what is left, put where it has come to, is the whole; the measure is what is left. Assumes nothing.
use mathlib.Core.Path.{sym, ◌∙◌}
use native.Mathlib.Omega.{arith}
use borrow.Author.Tests.{eqb-true}
use Rattle.tunnel.proofs.From.{packet_inside, next_length, reads_next, reached_running, reached_fault, reached_end}
use Rattle.tunnel.proofs.read_from.Goals as goal

pub split_at-requires : goal.split_at-requires
split_at-requires c = (packet_inside c.loop-n.rest.now _ (sym c.in-Whole.ensures)).0

pub put_packet-requires : goal.put_packet-requires
put_packet-requires c = let a = c.args in
    let l = c.loop-n in
    let i = packet_inside l.rest.now _ (sym c.in-Whole.ensures) in
    let k = next_length l.rest.now _ (sym c.in-Whole.ensures) in
    (omega (arith, i.2, c.split_at.ensures.front_len), omega (arith, k, l.invariant.place, l.invariant.same, c.requires, c.split_at.ensures.front_len))

pub overflow_add-end : goal.overflow_add-end
overflow_add-end c = omega (arith, packet_inside c.loop-n.rest.now _ (sym c.in-Whole.ensures))

pub overflow_add-end-in-Whole : goal.overflow_add-end-in-Whole
overflow_add-end-in-Whole c = let l = c.loop-n in
    omega (arith, next_length l.rest.now _ (sym c.in-Whole.ensures), l.invariant.place, c.requires)

pub loop-n-smaller : goal.loop-n-smaller
loop-n-smaller c = omega (arith, packet_inside c.loop-n.rest.now _ (sym c.in-Whole.ensures), c.split_at.ensures.back_len)

pub loop-n-preserved : goal.loop-n-preserved
loop-n-preserved c = let a = c.args in
    let l = c.loop-n in
    reads_next l.rest.now _ (sym c.in-Whole.ensures) a.bytes.now a.out.now a.to l.out l.end _ _ _ l.invariant c.split_at.ensures.front c.split_at.ensures.back c.put_packet.ensures

pub returns-in-Running : goal.returns-in-Running
returns-in-Running c = let a = c.args in
    let l = c.loop-n in
    reached_running a.bytes.now a.out.now a.to l.out l.rest.now l.end l.invariant (sym c.in-Running.ensures)

pub returns-in-Fault : goal.returns-in-Fault
returns-in-Fault c = let a = c.args in
    let l = c.loop-n in
    reached_fault a.bytes.now a.out.now a.to l.out l.rest.now l.end l.invariant (sym c.in-Fault.ensures)

pub returns : goal.returns
returns c = let a = c.args in
    let l = c.loop-n in
    reached_end a.bytes.now a.out.now a.to l.out l.rest.now l.end l.invariant (eqb-true _ 0 (sym c.is_empty.ensures ∙ c.loop-n-test.false))

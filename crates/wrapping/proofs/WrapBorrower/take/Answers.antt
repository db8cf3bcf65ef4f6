-- A record of the program `wrap`: a timestamp is kept, a packet is given to the writer. Assumes nothing.
use Rattle.std.proofs.Common.{arith, refl, ap, ◌∙◌}
use Rattle.programs.proofs.Alone.{all_behind}
use Rattle.wrapping.specs.Wrapping.{State}
use Rattle.wrapping.specs.Seen.{seen}
use Rattle.wrapping.proofs.Laws.{packet_long, stamp_takes, packet_takes, next_size}
use Rattle.wrapping.proofs.WrapBorrower.take.Goals as goal

pub stamp_of-self-requires : goal.stamp_of-self-requires
stamp_of-self-requires c = omega (arith, rw c.if-mark-eq-STAMP_MARK.true at c.requires.holds)

pub slice_bounds-feed-start : goal.slice_bounds-feed-start
slice_bounds-feed-start c = packet_long c.args.mark c.args.content.now c.if-mark-eq-STAMP_MARK.false c.requires.holds

pub feed-requires : goal.feed-requires
feed-requires c = (c.requires.ready.0, c.requires.ready.1, c.requires.room, omega (arith, c.requires.tellable.1 refl))

pub returns-then-mark-eq-STAMP_MARK-clause-takes : goal.returns-then-mark-eq-STAMP_MARK-clause-takes
returns-then-mark-eq-STAMP_MARK-clause-takes c =
    let a = c.args in
    stamp_takes (seen a.self.now) a.mark a.content.now a.out.now a.to a.report.now a.told (c.requires.tellable.1 refl) c.if-mark-eq-STAMP_MARK.true _ c.stamp_of-self.ensures _ c.next_count-self.ensures

pub returns-clause-takes : goal.returns-clause-takes
returns-clause-takes c =
    let a = c.args in
    packet_takes (seen a.self.now) a.mark a.content.now a.out.now a.to a.report.now a.told (c.requires.tellable.1 refl) c.if-mark-eq-STAMP_MARK.false _ (all_behind 2 a.content.now) c.feed.ensures.fed

pub returns-clause-ready : goal.returns-clause-ready
returns-clause-ready c =
    let a = c.args in
    let s = seen a.self.now in
    let t = packet_takes s a.mark a.content.now a.out.now a.to a.report.now a.told (c.requires.tellable.1 refl) c.if-mark-eq-STAMP_MARK.false _ (all_behind 2 a.content.now) c.feed.ensures.fed in
    (omega (arith, ap (λ (x : State). x.writer.numbers.size) t.left ∙ next_size s.writer.numbers.size s (record { mark = a.mark; content = a.content.now }) refl, c.requires.ready.0), omega (arith, c.feed.ensures.long, c.requires.ready.1))

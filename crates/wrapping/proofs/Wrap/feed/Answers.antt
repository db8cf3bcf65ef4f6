-- `wrapping::Wrap::feed` meets its contract: the writer's outer packets, put as records, and its answer, told. Assumes nothing.
use Rattle.std.proofs.Common.{arith, rules}
use Rattle.wrapping.proofs.Laws.{feed_room, feed_says}
use Rattle.wrapping.proofs.Wrap.feed.Goals as goal

pub put_outers-wrote-requires : goal.put_outers-wrote-requires
put_outers-wrote-requires c =
    let a = c.args.self.now in
    feed_room a.numbers a.bytes a.outers.now c.requires.0 c.requires.1 c.args.packet.now a.stamp a.count _ _ _ _ c.wrap-given.ensures _ c.values_of-v.ensures _ (omega arith) c.args.out.now c.args.to c.requires.2

pub returns-clause-fed : goal.returns-clause-fed
returns-clause-fed c =
    let a = c.args.self.now in
    feed_says a.numbers a.bytes a.outers.now c.requires.0 c.requires.1 c.args.packet.now a.stamp a.count _ _ _ _ c.wrap-given.ensures _ c.values_of-v.ensures c.args.out.now c.args.to _ _ c.put_outers-wrote.ensures _ c.next_count-n.ensures c.args.report.now c.args.told _ _ (c.put_report.ensures.at, search rules)

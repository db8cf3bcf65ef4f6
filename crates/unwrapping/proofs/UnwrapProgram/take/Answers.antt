-- A record of the program `unwrap`: the tunnel's answer, stored and told. Assumes nothing.
use Rattle.std.proofs.Common.{arith, rules, refl}
use Rattle.programs.proofs.Alone.{all_behind}
use Rattle.unwrapping.proofs.Laws.{stored_room, packet_takes}
use Rattle.unwrapping.proofs.UnwrapProgram.take.Goals as goal

pub overflow_add-result : goal.overflow_add-result
overflow_add-result c =
    let p = c.args.self.now in
    omega (arith, stored_room p.numbers p.part _ c.args.out.now c.args.to c.requires.room p.count _ _ _ _ c.unwrap-fed.ensures _ c.values_of-v.ensures)

pub returns-clause-takes : goal.returns-clause-takes
returns-clause-takes c =
    let a = c.args in
    let p = a.self.now in
    packet_takes p.numbers p.part a.content.now a.out.now a.to c.requires.room p.count a._mark _ (all_behind 2 a.content.now) _ _ _ _ c.unwrap-fed.ensures _ c.values_of-v.ensures _ c.next_count-n.ensures a.report.now a.told (c.requires.tellable.1 refl) (c.put_report.ensures.at, search rules)

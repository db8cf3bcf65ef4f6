-- What comes last in the program `unwrap`: the line of the part that is held, and the last line behind it. Assumes nothing.
use Rattle.std.proofs.Common.{arith, rules, refl, ◌^◌, ◌<◌}
use Rattle.unwrapping.specs.Unwrapping.{state}
use Rattle.unwrapping.proofs.Last.{line-inside, rest_room, end_inside, puts_last}
use Rattle.unwrapping.proofs.UnwrapProgram.put_last.Goals as goal

pub slice_bounds-put_last-count : goal.slice_bounds-put_last-count
slice_bounds-put_last-count c =
    let small : c.held-held.result < 2 ^ 64 = omega arith in
    omega (arith, line-inside c.held-held.result small c.args.report.now _ _ (c.put_held.ensures.at, c.put_held.ensures.bytes) (c.requires.tellable.1 refl))

pub slice_bounds-put_last-start : goal.slice_bounds-put_last-start
slice_bounds-put_last-start c =
    let small : c.held-held.result < 2 ^ 64 = omega arith in
    omega (arith, line-inside c.held-held.result small c.args.report.now _ _ (c.put_held.ensures.at, c.put_held.ensures.bytes) (c.requires.tellable.1 refl))

pub put_last-requires : goal.put_last-requires
put_last-requires c =
    let small : c.held-held.result < 2 ^ 64 = omega arith in
    rest_room c.held-held.result small c.args.report.now _ _ (c.put_held.ensures.at, c.put_held.ensures.bytes) (c.requires.tellable.1 refl)

pub overflow_add-end : goal.overflow_add-end
overflow_add-end c =
    let small : c.held-held.result < 2 ^ 64 = omega arith in
    omega (arith, end_inside c.held-held.result small c.args.report.now _ _ (c.put_held.ensures.at, c.put_held.ensures.bytes) (c.requires.tellable.1 refl) _ _ _ c.put_last.ensures)

pub returns : goal.returns
returns c =
    let p = c.args.self.now in
    let small : c.held-held.result < 2 ^ 64 = omega arith in
    puts_last c.held-held.result small c.args.report.now _ _ (c.put_held.ensures.at, c.put_held.ensures.bytes) (c.requires.tellable.1 refl) _ _ _ c.put_last.ensures (state p.numbers p.part p.count) c.held-held.ensures c.args._out.now (search rules)

-- `replies::answer` meets its contract: a log is never longer than the room for it. Assumes nothing.
use Rattle.std.proofs.Common.{arith, sym, length, ◌≤◌}
use lib.Seq.{length-take-le}
use Rattle.typed.proofs.Replies.{says_inside}
use Rattle.replies.proofs.answer.Goals as goal

pub slice_bounds-log-end : goal.slice_bounds-log-end
slice_bounds-log-end g c = omega (arith, says_inside c.respond.ensures c.in-Ok.is)

pub slice_bounds-put-end : goal.slice_bounds-put-end
slice_bounds-put-end g c =
    let inside : c.in-Ok.length ≤ length c.respond.new.log = omega (arith, says_inside c.respond.ensures c.in-Ok.is) in
    sym (length-take-le _ _ inside)

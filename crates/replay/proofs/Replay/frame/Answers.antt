-- `replay::Replay::frame` meets its contract: a new frame, and the lines of what it shows. Assumes nothing.
use Rattle.std.proofs.Common.{ap}
use Rattle.text.proofs.Adds.{adds_same}
use Rattle.desk.specs.declared.Desk.{Desk}
use Rattle.desk.specs.Calls.{state}
use Rattle.replay.proofs.Laws.{framed, framed_room, framed_small, framed-lines}
use Rattle.replay.proofs.Replay.frame.Goals as goal

pub listing-requires : goal.listing-requires
listing-requires c =
    let a = c.args.self.now in
    let p = c.requires.ready in
    framed_room a.notes _ a.bytes.now a.first.now a.second.now p.0 p.1 p.2 c.frame-after.ensures

pub put_frame-requires : goal.put_frame-requires
put_frame-requires c =
    let a = c.args.self.now in
    let p = c.requires.ready in
    (framed_small a.notes _ a.bytes.now a.first.now a.second.now p.0 p.1 p.2 c.frame-after.ensures _ c.listing.ensures, c.requires.longest_lines_in_bounds)

pub returns-clause-left : goal.returns-clause-left
returns-clause-left c =
    let a = c.args.self.now in
    let p = c.requires.ready in
    rw c.clear.ensures (ap (λ (d : Desk). state d a.first.now a.second.now) (framed a.notes _ a.bytes.now a.first.now a.second.now p.0 p.1 p.2 c.frame-after.ensures))

pub returns-clause-put : goal.returns-clause-put
returns-clause-put c =
    let a = c.args.self.now in
    let p = c.requires.ready in
    rw c.clear.ensures
    (adds_same (framed-lines a.notes _ a.bytes.now a.first.now a.second.now p.0 p.1 p.2 c.frame-after.ensures _ c.listing.ensures) c.put_frame.ensures)

-- `lines::put_frame` meets its contract: each branch puts the words of its case, and the second then the listing. Assumes nothing.
use native.Mathlib.Omega.{arith}
use Rattle.text.proofs.Adds.{adds_both, adds_same, room_left}
use Rattle.lines.proofs.Laws.{length-listing, frame_none, frame_some}
use Rattle.lines.proofs.put_frame.Goals as goal

pub returns-then-listing-eq0 : goal.returns-then-listing-eq0
returns-then-listing-eq0 c = adds_same (frame_none c.args.listing.now c.if-listing-eq0.true) c.put.ensures

pub put_listing-requires : goal.put_listing-requires
put_listing-requires c = let p = c.requires in (p.0, room_left c.put-2.ensures _ _ (omega (arith, length-listing c.args.listing.now p.0)) p.1)

pub returns : goal.returns
returns c = adds_same (frame_some c.args.listing.now c.if-listing-eq0.false) (adds_both c.put-2.ensures c.put_listing.ensures)

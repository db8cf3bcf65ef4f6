-- `lines::put_list` meets its contract: behind the words for the kind there is room for the listing. Assumes nothing.
use native.Mathlib.Omega.{arith}
use Rattle.text.proofs.Adds.{adds_both, room_left}
use Rattle.lines.proofs.Laws.{length-kind, length-listing}
use Rattle.lines.proofs.put_list.Goals as goal

pub put_kind-requires : goal.put_kind-requires
put_kind-requires c = omega (arith, length-kind c.args.kind)

pub put_listing-requires : goal.put_listing-requires
put_listing-requires c = let p = c.requires in
    (p.0, room_left c.put_kind.ensures _ _ (omega (arith, length-kind c.args.kind, length-listing c.args.listing.now p.0)) p.1)

-- `chunk_puts::put_chunk` meets its contract: the chunk's header is put as a whole, and the ensembles' bytes behind it. Assumes nothing.
use native.Mathlib.Omega.{arith}
use mathlib.Core.Path.{refl, ap, ◌∙◌}
use lib.ListN.{get_or, length-take}
use Rattle.octets.proofs.Stores.{put_mid-sets}
use Rattle.meaning.specs.Sizes.{chunk_header_bytes, ts_bytes}
use Rattle.meaning.specs.Said.{ensembles_fit}
use Rattle.listing_checks.proofs.Checks.{behind}
use Rattle.chunk_puts.proofs.Laws.{listing-passes, length-chunk, chunk_room, chunk-stored}
use Rattle.chunk_puts.proofs.put_chunk.Goals as goal

pub bounds-listing-2 : goal.bounds-listing-2
bounds-listing-2 c = omega (arith, (listing-passes c.args.listing.now c.requires.listing_value).0)

pub bounds-listing-3 : goal.bounds-listing-3
bounds-listing-3 c = omega (arith, (listing-passes c.args.listing.now c.requires.listing_value).0)

pub bounds-listing-4 : goal.bounds-listing-4
bounds-listing-4 c = omega (arith, (listing-passes c.args.listing.now c.requires.listing_value).0)

pub bounds-listing-4-2 : goal.bounds-listing-4-2
bounds-listing-4-2 c = omega (arith, (listing-passes c.args.listing.now c.requires.listing_value).0)

pub slice_bounds-put_ensembles-count : goal.slice_bounds-put_ensembles-count
slice_bounds-put_ensembles-count c = omega (arith, (listing-passes c.args.listing.now c.requires.listing_value).0)

pub slice_bounds-put_ensembles-start : goal.slice_bounds-put_ensembles-start
slice_bounds-put_ensembles-start c = omega (arith, (listing-passes c.args.listing.now c.requires.listing_value).0)

pub slice_bounds-copy_from_slice-end : goal.slice_bounds-copy_from_slice-end
slice_bounds-copy_from_slice-end c = omega (arith, length-chunk c.args.kind c.args.listing.now)

pub slice_bounds-copy_from_slice-end-2 : goal.slice_bounds-copy_from_slice-end-2
slice_bounds-copy_from_slice-end-2 c = omega (arith, length-chunk c.args.kind c.args.listing.now, length-take chunk_header_bytes c.args.chunk.now)

pub copy_from_slice-requires : goal.copy_from_slice-requires
copy_from_slice-requires c = omega (arith, length-chunk c.args.kind c.args.listing.now, length-take chunk_header_bytes c.args.chunk.now)

pub put_ensembles-requires-clause-fit : goal.put_ensembles-requires-clause-fit
put_ensembles-requires-clause-fit c = let xs = c.args.listing.now in
    ap (ensembles_fit (get_or xs 4 0)) (behind ts_bytes xs) ∙ (listing-passes xs c.requires.listing_value).1

pub put_ensembles-requires-clause-room : goal.put_ensembles-requires-clause-room
put_ensembles-requires-clause-room c = let a = c.args in
    let head = put_mid-sets 0 chunk_header_bytes a.chunk.now _ _ c.copy_from_slice.ensures.after refl (omega (arith, length-chunk a.kind a.listing.now)) in
    chunk_room a.kind a.listing.now _ a.chunk.now _ c.from.result c.requires.listing_in_bounds head (behind ts_bytes a.listing.now)

pub returns : goal.returns
returns c = let a = c.args in
    let head = put_mid-sets 0 chunk_header_bytes a.chunk.now _ _ c.copy_from_slice.ensures.after refl (omega (arith, length-chunk a.kind a.listing.now)) in
    chunk-stored a.kind a.listing.now _ a.chunk.now _ _ _ c.from.ensures head (behind ts_bytes a.listing.now) c.put_ensembles.ensures

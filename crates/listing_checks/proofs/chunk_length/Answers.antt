-- `listing_checks::chunk_length` meets its contract: the ensembles of a well formed listing, with the header, make the length of its list's chunk. Assumes nothing.
use mathlib.Core.Path.{sym, ap, ◌∙◌}
use lib.ListN.{get_or}
use Rattle.meaning.specs.Sizes.{chunk_header_bytes, ts_bytes}
use Rattle.listing_checks.proofs.Checks.{behind}
use Rattle.listing_checks.proofs.Lengths.{length_with, length_bad, length-known}
use Rattle.listing_checks.proofs.chunk_length.Goals as goal

pub returns-then-not-stands : goal.returns-then-not-stands
returns-then-not-stands c = length_bad c.args.listing.now (sym c.stands.ensures ∙ c.if-not-stands.true)

pub returns : goal.returns
returns c = let xs = c.args.listing.now in
    let own = c.ensembles_length.ensures ∙ ap (length_with chunk_header_bytes (get_or xs 4 0)) (behind ts_bytes xs) in
    length-known xs _ (sym c.stands.ensures ∙ c.if-not-stands.false) own

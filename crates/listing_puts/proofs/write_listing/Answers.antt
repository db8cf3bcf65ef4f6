-- `listing_puts::write_listing` meets its contract: its mark, its word and its count are the stream's record, and the ensembles' records come after it. Assumes nothing.
use native.Mathlib.Omega.{arith}
use borrow.Author.Rules.{rules}
use lib.ListN.{length-set}
use Rattle.meaning.proofs.Checks.{header-passes}
use Rattle.meaning.proofs.Lengths.{listing-fits}
use Rattle.listing_puts.proofs.Laws.{length_listed, listed_length, listing-stored}
use Rattle.listing_puts.proofs.write_listing.Goals as goal

pub bounds-chunk-0 : goal.bounds-chunk-0
bounds-chunk-0 c = omega (arith, (header-passes c.args.chunk.now c.requires.0).0.fields)

pub bounds-chunk-1 : goal.bounds-chunk-1
bounds-chunk-1 c = omega (arith, (header-passes c.args.chunk.now c.requires.0).0.fields)

pub bounds-chunk-2 : goal.bounds-chunk-2
bounds-chunk-2 c = omega (arith, (header-passes c.args.chunk.now c.requires.0).0.fields)

pub bounds-chunk-3 : goal.bounds-chunk-3
bounds-chunk-3 c = omega (arith, (header-passes c.args.chunk.now c.requires.0).0.fields)

pub bounds-chunk-h : goal.bounds-chunk-h
bounds-chunk-h c = omega (arith, (header-passes c.args.chunk.now c.requires.0).0.fields)

pub write_ensembles-requires : goal.write_ensembles-requires
write_ensembles-requires c =
    let xs = c.args.chunk.now in
    let h = header-passes xs c.requires.0 in
    record {
      from_in_bounds = (h.0.fields, h.0.longest, search rules, search rules);
      chunk_value = h.1;
      chunk_in_bounds = simp length-set (omega (arith, c.requires.1, length_listed xs, listing-fits xs c.requires.0));
    }

pub returns : goal.returns
returns c =
    let a = c.args in
    let xs = a.chunk.now in
    record {
      value = listed_length xs _ c.write_ensembles.ensures.value;
      out_after = listing-stored xs a.out.now _ _ _ _ c.word_of-stream.ensures c.put_mark.ensures c.put_word.ensures c.write_ensembles.ensures.out_after;
    }

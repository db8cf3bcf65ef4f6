-- `writer::write` meets its contract: each refusal is the definition's at the first test that fails, and the segments are the cut chunk. Assumes nothing.
use mathlib.Core.Path.{ap, sym, subst, ◌∙◌}
use Prim.Native.Nat.{ℕ, ◌≤◌, ◌<◌}
use Rattle.std.proofs.Common.{Option, ok_or}
use Rattle.std.proofs.lemmas.Result.{err_from_is_err_and}
use Rattle.octets.proofs.Laws.{bytes_all}
use Rattle.meaning.specs.Sizes.{longest_chunk}
use Rattle.segments.specs.Cut.{segment_count}
use Rattle.writer.specs.declared.Unwritten.TheVariants.{BadListing}
use Rattle.writer.proofs.Chunks.{length-laid}
use Rattle.writer.proofs.Answers.{checks-short, checks_bad, checks_many, length_none, length_some, says_refused}
use Rattle.writer.proofs.Outputs.{written_says}
use native.Mathlib.Omega.{arith}
use Rattle.writer.proofs.write.Goals as goal

pub returns-then-out-lt-SHORTEST_OUTPUT : goal.returns-then-out-lt-SHORTEST_OUTPUT
returns-then-out-lt-SHORTEST_OUTPUT c = let a = c.args in
    says_refused a.listing.now a.kind a.out.now (checks-short a.listing.now a.out.now c.if-out-lt-SHORTEST_OUTPUT.true)

pub returns-in_err-length : goal.returns-in_err-length
returns-in_err-length c = let a = c.args in
    let told = c.ok_or.ensures.value ∙ ap (λ (n : Option ℕ). ok_or n BadListing) c.chunk_length.ensures in
    let k = length_none a.listing.now (sym told ∙ c.in_err-length.was) in
    let left = err_from_is_err_and c.from_residual.result c.from_residual.ensures.1 in
    rw (left.1, left.2, k.1) (says_refused a.listing.now a.kind a.out.now (checks_bad a.listing.now a.out.now c.if-out-lt-SHORTEST_OUTPUT.false k.0))

pub returns-then-length-gt-LONGEST_CHUNK : goal.returns-then-length-gt-LONGEST_CHUNK
returns-then-length-gt-LONGEST_CHUNK c = let a = c.args in
    let told = c.ok_or.ensures.value ∙ ap (λ (n : Option ℕ). ok_or n BadListing) c.chunk_length.ensures in
    let k = length_some a.listing.now (sym told ∙ c.in_ok-length.was) in
    says_refused a.listing.now a.kind a.out.now
    (checks_many a.listing.now a.out.now c.if-out-lt-SHORTEST_OUTPUT.false k.0 (subst (λ (m : ℕ). longest_chunk < m) k.1 c.if-length-gt-LONGEST_CHUNK.true))

pub put_chunk-requires-clause-listing_value : goal.put_chunk-requires-clause-listing_value
put_chunk-requires-clause-listing_value c =
    let told = c.ok_or.ensures.value ∙ ap (λ (n : Option ℕ). ok_or n BadListing) c.chunk_length.ensures in
    (length_some c.args.listing.now (sym told ∙ c.in_ok-length.was)).0

pub put_chunk-requires-clause-listing_in_bounds : goal.put_chunk-requires-clause-listing_in_bounds
put_chunk-requires-clause-listing_in_bounds c = let a = c.args in
    let told = c.ok_or.ensures.value ∙ ap (λ (n : Option ℕ). ok_or n BadListing) c.chunk_length.ensures in
    let k = length_some a.listing.now (sym told ∙ c.in_ok-length.was) in
    omega (arith, length-laid a.kind a.listing.now (bytes_all a.listing.now (λ i. (c.type_inv.listing i).fits)) k.0)

pub returns : goal.returns
returns c = let a = c.args in
    let told = c.ok_or.ensures.value ∙ ap (λ (n : Option ℕ). ok_or n BadListing) c.chunk_length.ensures in
    let k = length_some a.listing.now (sym told ∙ c.in_ok-length.was) in
    written_says a.kind a.listing.now a.out.now (bytes_all a.listing.now (λ i. (c.type_inv.listing i).fits)) c.if-out-lt-SHORTEST_OUTPUT.false k.0 (subst (λ (m : ℕ). m ≤ longest_chunk) k.1 c.if-length-gt-LONGEST_CHUNK.false) _ _ _ _
    (ap segment_count k.1)
    c.put_payload.ensures
    c.put_chunk.ensures
    c.move_segments.ensures

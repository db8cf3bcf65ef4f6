-- `slots::complete` meets its contract: a refused chunk, another kind, or the listing. Assumes nothing.
use native.Mathlib.Omega.{arith}
use mathlib.Core.Path.{sym, ap, ◌∙◌}
use Rattle.std.proofs.Common.{Err}
use Rattle.std.proofs.lemmas.Result.{err_from_is_err_and}
use lib.Seq.{length-take-le}
use Rattle.meaning.proofs.Checks.{header-passes}
use Rattle.slots.specs.Gathering.{side, chunk_in}
use Rattle.slots.proofs.Laws.{chunk_refused, kind_refused, chunk_listed}
use Rattle.slots.proofs.complete.Goals as goal

pub slice_bounds-chunk-end : goal.slice_bounds-chunk-end
slice_bounds-chunk-end c = sym (length-take-le _ _ (omega (arith, c.requires)))

pub bounds-chunk-1 : goal.bounds-chunk-1
bounds-chunk-1 c = omega (arith, (header-passes (chunk_in (side c.args.slot c.args.bytes.now c.args.out.now)) (sym c.in_ok-check_chunk.ensures)).0.fields)

pub returns-then-chunk-from : goal.returns-then-chunk-from
returns-then-chunk-from c = kind_refused c.args.kind (side c.args.slot c.args.bytes.now c.args.out.now) (sym c.in_ok-check_chunk.ensures) (λ same. c.if-chunk-from.true (same ∙ sym c.from.ensures))

pub write_listing-length-requires : goal.write_listing-length-requires
write_listing-length-requires c = (sym c.in_ok-check_chunk.ensures, c.requires.2)

pub returns-in_err-check_chunk : goal.returns-in_err-check_chunk
returns-in_err-check_chunk c =
    let p = err_from_is_err_and c.from_residual.result c.from_residual.ensures.1 in
    rw (p.1 ∙ ap Err p.2) (chunk_refused c.args.kind (side c.args.slot c.args.bytes.now c.args.out.now) (sym c.in_err-check_chunk.ensures))

pub returns : goal.returns
returns c = chunk_listed c.args.kind (side c.args.slot c.args.bytes.now c.args.out.now) _ _
    c.requires.2
    (sym c.in_ok-check_chunk.ensures)
    (c.if-chunk-from.false ∙ c.from.ensures)
    c.write_listing-length.ensures.value
    c.write_listing-length.ensures.out_after

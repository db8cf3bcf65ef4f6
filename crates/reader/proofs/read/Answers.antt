-- `reader::read` keeps its promise: each answer is one of the three cases of `ReadSays`. Assumes nothing.
use native.Mathlib.Omega.{arith}
use mathlib.Core.Path.{sym, ap, ◌∙◌}
use Rattle.std.proofs.Common.{Err}
use Rattle.std.proofs.lemmas.Result.{err_from_is_err_and}
use Rattle.meaning.proofs.Checks.{header-passes}
use Rattle.meaning.proofs.Answers.{says_short, says_refused}
use Rattle.reader.proofs.Laws.{read-stored}
use Rattle.reader.proofs.read.Goals as goal

pub returns-then-out-lt-LONGEST_LISTING : goal.returns-then-out-lt-LONGEST_LISTING
returns-then-out-lt-LONGEST_LISTING c = says_short c.args.chunk.now c.args.out.now (omega (arith, c.if-out-lt-LONGEST_LISTING.true))

pub write_listing-length-requires : goal.write_listing-length-requires
write_listing-length-requires c = (sym c.in_ok-check_chunk.ensures, c.if-out-lt-LONGEST_LISTING.false)

pub bounds-chunk-1 : goal.bounds-chunk-1
bounds-chunk-1 c = omega (arith, (header-passes c.args.chunk.now (sym c.in_ok-check_chunk.ensures)).0.fields)

pub bounds-chunk-0 : goal.bounds-chunk-0
bounds-chunk-0 c = omega (arith, (header-passes c.args.chunk.now (sym c.in_ok-check_chunk.ensures)).0.fields)

pub returns-in_err-check_chunk : goal.returns-in_err-check_chunk
returns-in_err-check_chunk c =
    let p = err_from_is_err_and c.from_residual.result c.from_residual.ensures.1 in
    rw (p.1 ∙ ap Err p.2) (says_refused c.args.chunk.now c.args.out.now c.if-out-lt-LONGEST_LISTING.false (sym c.in_err-check_chunk.ensures))

pub returns : goal.returns
returns c = read-stored c.args.chunk.now c.args.out.now _ _ _
    c.if-out-lt-LONGEST_LISTING.false
    (sym c.in_ok-check_chunk.ensures)
    c.from-kind.ensures
    c.write_listing-length.ensures.value
    c.write_listing-length.ensures.out_after

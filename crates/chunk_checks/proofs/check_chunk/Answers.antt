-- `chunk_checks::check_chunk` meets its contract: at each `return` the tests that led there are what a law of `checks` asks. Assumes nothing.
use native.Mathlib.Omega.{arith}
use mathlib.Core.Path.{sym, ◌∙◌}
use Rattle.meaning.proofs.Checks.{checks_long, checks_bare, checks-major, checks-cut, checks-header}
use Rattle.chunk_checks.proofs.check_chunk.Goals as goal

pub returns-then-chunk-gt-LONGEST_CHUNK : goal.returns-then-chunk-gt-LONGEST_CHUNK
returns-then-chunk-gt-LONGEST_CHUNK c = sym (checks_long c.args.chunk.now (omega (arith, c.if-chunk-gt-LONGEST_CHUNK.true)))

pub returns-then-chunk-lt2 : goal.returns-then-chunk-lt2
returns-then-chunk-lt2 c = sym (checks_bare c.args.chunk.now (omega (arith, c.if-chunk-lt2.true)))

pub returns-then-first-ne0 : goal.returns-then-first-ne0
returns-then-first-ne0 c = sym
    (checks-major c.args.chunk.now (omega (arith, c.if-chunk-gt-LONGEST_CHUNK.false)) c.if-chunk-lt2.false c.if-first-ne0.true)

pub returns-then-chunk-h : goal.returns-then-chunk-h
returns-then-chunk-h c = sym
    (checks-cut c.args.chunk.now c.if-chunk-gt-LONGEST_CHUNK.false c.if-chunk-lt2.false c.if-first-ne0.false c.if-chunk-h.true)

pub returns : goal.returns
returns c = c.check_ensembles.ensures
    ∙ sym
    (checks-header c.args.chunk.now
    (record { longest = c.if-chunk-gt-LONGEST_CHUNK.false; major = c.if-first-ne0.false; fields = c.if-chunk-h.false }))

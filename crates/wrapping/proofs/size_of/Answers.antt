-- `wrapping::size_of` meets its contract. The loop's invariant: the digits that are left, behind the number so far, say the whole. Assumes nothing.
use mathlib.Core.Path.{sym, ◌∙◌}
use Rattle.wrapping.proofs.Words.{reads_none, reads_more, reads_size, reads_other}
use Rattle.wrapping.proofs.size_of.Goals as goal

pub returns-then-not-is_ascii_digit : goal.returns-then-not-is_ascii_digit
returns-then-not-is_ascii_digit c = let l = c.loop-byte in
    reads_none c.args.word.now l.n l.byte-index l.invariant c.loop-byte-test.true (sym c.is_ascii_digit.ensures.value ∙ c.if-not-is_ascii_digit.true)

pub loop-byte-preserved : goal.loop-byte-preserved
loop-byte-preserved c = let l = c.loop-byte in
    reads_more c.args.word.now l.n l.byte-index l.invariant c.loop-byte-test.true (sym c.is_ascii_digit.ensures.value ∙ c.if-not-is_ascii_digit.false) _ c.more_of-n.ensures

pub returns-then-is_size : goal.returns-then-is_size
returns-then-is_size c = let l = c.loop-byte in
    reads_size c.args.word.now l.n l.byte-index l.invariant c.loop-byte-test.false (sym c.is_size.ensures ∙ c.if-is_size.true)

pub returns-else-is_size : goal.returns-else-is_size
returns-else-is_size c = let l = c.loop-byte in
    reads_other c.args.word.now l.n l.byte-index l.invariant c.loop-byte-test.false (sym c.is_size.ensures ∙ c.if-is_size.false)

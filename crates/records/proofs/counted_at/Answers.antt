-- `records::counted_at` meets its contract, test by test. Assumes nothing.
use Rattle.records.proofs.Entries.{counted-short, counted_less, counted_more, counted-cut, counted_whole}
use Rattle.records.proofs.counted_at.Goals as goal

pub returns-then-left : goal.returns-then-left
returns-then-left c = let a = c.args in counted-short a.file.now a.at a.least a.most c.if-left.true

pub returns-then-count-least : goal.returns-then-count-least
returns-then-count-least c = counted_less c.args.file.now c.args.at c.args.least c.args.most c.if-left.false _ c.word_of-count.ensures c.if-count-least.true

pub returns-then-most-count : goal.returns-then-most-count
returns-then-most-count c = counted_more c.args.file.now c.args.at c.args.least c.args.most c.if-left.false _ c.word_of-count.ensures c.if-most-count.true

pub returns-then-left-size : goal.returns-then-left-size
returns-then-left-size c = counted-cut c.args.file.now c.args.at c.args.least c.args.most c.if-left.false _ c.word_of-count.ensures c.if-count-least.false c.if-most-count.false c.if-left-size.true

pub returns-else-left-size : goal.returns-else-left-size
returns-else-left-size c = counted_whole c.args.file.now c.args.at c.args.least c.args.most c.if-left.false _ c.word_of-count.ensures c.if-count-least.false c.if-most-count.false c.if-left-size.false

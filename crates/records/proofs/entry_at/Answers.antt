-- `records::entry_at` meets its contract, test by test. Assumes nothing.
use Rattle.records.proofs.Entries.{as_end, as_short, as_foreign, as_cut, as_whole, as_counted}
use Rattle.records.proofs.entry_at.Goals as goal

pub returns-then-file-at : goal.returns-then-file-at
returns-then-file-at c = let a = c.args in as_end a.file.now a.at a.form c.if-file-at.true

pub returns-then-left-lt-MARK_BYTES : goal.returns-then-left-lt-MARK_BYTES
returns-then-left-lt-MARK_BYTES c = let a = c.args in as_short a.file.now a.at a.form c.if-file-at.false c.if-left-lt-MARK_BYTES.true

pub returns-in-Foreign : goal.returns-in-Foreign
returns-in-Foreign c = let a = c.args in as_foreign a.file.now a.at a.form c.if-file-at.false c.if-left-lt-MARK_BYTES.false c.in-Foreign.is

pub returns-then-left-n : goal.returns-then-left-n
returns-then-left-n c = let a = c.args in as_cut a.file.now a.at a.form c.if-file-at.false c.if-left-lt-MARK_BYTES.false _ c.in-Fixed.is c.if-left-n.true

pub returns-else-left-n : goal.returns-else-left-n
returns-else-left-n c = let a = c.args in as_whole a.file.now a.at a.form c.if-file-at.false c.if-left-lt-MARK_BYTES.false _ c.in-Fixed.is c.if-left-n.false

pub returns-in-Counted : goal.returns-in-Counted
returns-in-Counted c = let a = c.args in as_counted a.file.now a.at a.form c.if-file-at.false c.if-left-lt-MARK_BYTES.false _ _ c.in-Counted.is _ c.counted_at.ensures

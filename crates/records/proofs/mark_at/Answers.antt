-- `records::mark_at` meets its contract. Assumes nothing.
use native.Mathlib.Omega.{arith}
use Rattle.records.proofs.Entries.{mark_none, mark_there}
use Rattle.records.proofs.mark_at.Goals as goal

pub returns-then-file-at : goal.returns-then-file-at
returns-then-file-at c = let a = c.args in mark_none a.file.now a.at (omega (arith, c.if-file-at.true))

pub returns-then-left-lt-MARK_BYTES : goal.returns-then-left-lt-MARK_BYTES
returns-then-left-lt-MARK_BYTES c = let a = c.args in mark_none a.file.now a.at c.if-left-lt-MARK_BYTES.true

pub returns : goal.returns
returns c = let a = c.args in mark_there a.file.now a.at _ (omega (arith, c.if-file-at.false, c.if-left-lt-MARK_BYTES.false)) c.word_of.ensures

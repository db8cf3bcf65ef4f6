-- `tunnel::joined_start` meets its contract. Assumes nothing.
use mathlib.Core.Path.{◌∙◌}
use Rattle.tunnel.proofs.Laws.{joined_few, joined_told}
use Rattle.tunnel.proofs.joined_start.Goals as goal

pub returns-then-n-lt4 : goal.returns-then-n-lt4
returns-then-n-lt4 c = let a = c.args in c.start_by.ensures ∙ joined_few a.part.now a.more.now c.requires c.if-n-lt4.true

pub returns : goal.returns
returns c = let a = c.args in
    c.start_by-2.ensures
    ∙ joined_told a.part.now a.more.now c.requires _ _ _ c.joined_byte-third.ensures c.joined_byte-fourth.ensures c.from_be_bytes-total.ensures

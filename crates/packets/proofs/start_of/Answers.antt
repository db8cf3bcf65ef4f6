-- `packets::start_of` meets its contract. Assumes nothing.
use mathlib.Core.Path.{sym, ap, ◌∙◌}
use native.Mathlib.Omega.{arith}
use lib.ListN.{length, get_or}
use Rattle.packets.specs.Packets.{total_length, start_by, start_of}
use Rattle.packets.proofs.Laws.{start_none, early}
use Rattle.packets.proofs.start_of.Goals as goal

pub returns-in-empty : goal.returns-in-empty
unfolding start_of
returns-in-empty c = let xs = c.args.bytes.now in sym (start_none (length xs) (get_or xs 0 0) (total_length xs) (omega (arith, c.in-empty.len_below)))

pub returns-in-len1-up : goal.returns-in-len1-up
unfolding start_of
returns-in-len1-up c = let xs = c.args.bytes.now in
    c.start_by.ensures ∙ early (length xs) (get_or xs 0 0) 0 (total_length xs) c.in-len1-up.len_below

pub returns-in-len4-up : goal.returns-in-len4-up
unfolding start_of
returns-in-len4-up c = let xs = c.args.bytes.now in
    c.start_by-in-len4-up.ensures ∙ ap (start_by (length xs) (get_or xs 0 0)) c.from_be_bytes-total.ensures

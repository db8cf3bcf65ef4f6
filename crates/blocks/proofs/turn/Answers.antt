-- `blocks::turn` meets its contract: what `programs::fill` put is written, and `proceed` goes on behind it. Assumes nothing.
use Rattle.std.proofs.Common.{arith, ◌≡◌, ◌+◌, ◌≤◌, length, take}
use lib.Seq.{length-take-le}
use Rattle.blocks.proofs.Laws.{stands-unread}
use Rattle.blocks.proofs.Channels.{read-inside, both_say}
use Rattle.blocks.proofs.turn.Goals as goal

pub overflow_add-next : goal.overflow_add-next
overflow_add-next g c =
    omega (arith, read-inside g.P.Borrower.channels _ c.args.block.now _ _ _ _ _ _ _ _ _ _ c.fill-f.ensures.fills c.requires.at_le_have.0 c.requires.at_le_have.1)

pub proceed-unread-requires-clause-next_le_have : goal.proceed-unread-requires-clause-next_le_have
proceed-unread-requires-clause-next_le_have g c =
    (read-inside g.P.Borrower.channels _ c.args.block.now _ _ _ _ _ _ _ _ _ _ c.fill-f.ensures.fills c.requires.at_le_have.0 c.requires.at_le_have.1, c.requires.at_le_have.1)

pub proceed-unread-requires-clause-next_in_bounds : goal.proceed-unread-requires-clause-next_in_bounds
proceed-unread-requires-clause-next_in_bounds g c short =
    let most : c.args.at + c.fill-f.result.read ≤ c.args.have = read-inside g.P.Borrower.channels _ c.args.block.now _ _ _ _ _ _ _ _ _ _ c.fill-f.ensures.fills c.requires.at_le_have.0 c.requires.at_le_have.1 in
    let there : length (take c.args.have c.args.block.now) ≡ c.args.have = length-take-le c.args.have c.args.block.now c.requires.at_le_have.1 in
    omega (arith, c.entry_at-entry.ensures.short short)

pub returns-clause-both_say : goal.returns-clause-both_say
returns-clause-both_say g c =
    let most : c.args.at + c.fill-f.result.read ≤ c.args.have = read-inside g.P.Borrower.channels _ c.args.block.now _ _ _ _ _ _ _ _ _ _ c.fill-f.ensures.fills c.requires.at_le_have.0 c.requires.at_le_have.1 in
    let stands = stands-unread g.P.Borrower.channels.forms c.args.block.now _ c.args.have most c.requires.at_le_have.1 _ c.entry_at-entry.ensures.entry in
    both_say g.P.Borrower.channels _ c.args.block.now c.args.at c.args.have _ _ _ _ _ _ _ _ c.fill-f.ensures.fills _ stands c.write_both-sent.result _ _ c.proceed-unread.ensures

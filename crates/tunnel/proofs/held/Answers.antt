-- `tunnel::held` meets its contract. Assumes nothing.
use mathlib.Core.Path.{sym, ap}
use lib.ListN.{length}
use Rattle.tunnel.proofs.Laws.{part_long}
use Rattle.tunnel.proofs.held.Goals as goal

pub returns-then-held-ge-LONGEST_PACKET : goal.returns-then-held-ge-LONGEST_PACKET
returns-then-held-ge-LONGEST_PACKET c = sym (ap length (part_long c.args.numbers c.args.part.now c.told-part c.if-held-ge-LONGEST_PACKET.true))

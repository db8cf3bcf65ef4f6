use lib.ListN.{length}
use Rattle.tunnel.proofs.From.{Reads}
use Rattle.tunnel.proofs.read_from.Given as goal

abbrev pub invariant-loop-n : goal.invariant-loop-n
invariant-loop-n l = Reads l.bytes l.initial.out l.to l.out l.rest l.end

abbrev pub decreases-loop-n : goal.decreases-loop-n
decreases-loop-n l = length l.rest

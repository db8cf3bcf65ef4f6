use Prim.Native.Nat.{◌-◌, ◌≤◌}
use mathlib.Core.Path.{◌≡◌}
use lib.ListN.{length}
use lib.Seq.{sets}
use Rattle.text.proofs.Laws.{last_digits}
use Rattle.text.proofs.put_digits.Given as goal

abbrev pub invariant-loop-at : goal.invariant-loop-at
invariant-loop-at l = (l.to ≤ l.at) × (length l.out ≡ length l.initial.out) × (sets l.out l.to (last_digits (l.at - l.to) l.rest) ≡ sets l.initial.out l.to (last_digits l.count l.n))

abbrev pub decreases-loop-at : goal.decreases-loop-at
decreases-loop-at l = l.at

use Prim.Native.Nat.{◌-◌}
use Rattle.wrapper.proofs.Later.{Puts}
use Rattle.wrapper.proofs.put_later.Given as goal

abbrev pub invariant-loop : goal.invariant-loop
invariant-loop l = Puts l.k l.size l.sequence l.timestamp l.packet l.from l.initial.out l.at l.out (l.k - l.counter) l.next l.here l.to

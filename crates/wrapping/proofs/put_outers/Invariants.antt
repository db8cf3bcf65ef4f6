use Prim.Native.Nat.{◌-◌}
use Rattle.wrapping.proofs.Outers.{Puts}
use Rattle.wrapping.proofs.put_outers.Given as goal

abbrev pub invariant-loop : goal.invariant-loop
invariant-loop l = Puts l.k l.n l.outers l.initial.out l.to l.out (l.k - l.counter) l.from l.end

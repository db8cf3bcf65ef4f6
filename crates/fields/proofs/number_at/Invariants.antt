use mathlib.Core.Path.{◌≡◌}
use Prim.Native.Nat.{◌<◌, ◌^◌}
use Rattle.octets.specs.Tables.{number_at}
use Rattle.fields.proofs.number_at.Given as goal

abbrev pub invariant-loop-i : goal.invariant-loop-i
invariant-loop-i l = (l.number < 2 ^ l.i) × (l.number ≡ number_at l.bytes l.from l.i)

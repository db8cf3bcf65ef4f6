use mathlib.Core.Path.{◌≡◌}
use Prim.Native.Nat.{◌+◌}
use lib.ListN.{take, drop}
use Rattle.segments.specs.Segment.{payload_bytes, payload_in}
use Rattle.explains.specs.Explaining.{first_differing}
use Rattle.explains.proofs.first_differing.Given as goal

abbrev pub invariant-loop-i : goal.invariant-loop-i
invariant-loop-i l = l.i + first_differing (drop l.i (payload_in l.seg)) (drop l.i (take payload_bytes (drop l.from l.bytes))) ≡ first_differing (payload_in l.seg) (take payload_bytes (drop l.from l.bytes))

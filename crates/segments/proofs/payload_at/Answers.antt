-- `segments::payload_at` meets its contract: a slice of 35 bytes from `at` on is what was taken. Assumes nothing.
use native.Mathlib.Omega.{arith}
use Prim.Native.Nat.{◌+◌, ◌-◌}
use mathlib.Core.Path.{◌≡◌}
use Rattle.segments.specs.Segment.{payload_bytes}
use Rattle.segments.proofs.payload_at.Goals as goal

pub returns : goal.returns
returns c =
    let count : c.args.at + payload_bytes - c.args.at ≡ payload_bytes = omega arith in
    rw count at c.copy_from_slice.ensures.after

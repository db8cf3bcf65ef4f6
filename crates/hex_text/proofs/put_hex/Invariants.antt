use Prim.Native.Nat.{◌+◌, ◌*◌, ◌≤◌}
use mathlib.Core.Path.{◌≡◌}
use lib.ListN.{length, drop}
use lib.Seq.{sets}
use Rattle.hex_text.specs.Hex.{hex}
use Rattle.hex_text.proofs.put_hex.Given as goal

abbrev pub invariant-loop-i : goal.invariant-loop-i
invariant-loop-i l = (l.i ≤ length l.bytes) × (length l.out ≡ length l.initial.out) × (sets l.out (l.to + 2 * l.i) (hex (drop l.i l.bytes)) ≡ sets l.initial.out l.to (hex l.bytes))

use Prim.Native.Nat.{◌+◌, ◌-◌, ◌*◌}
use mathlib.Core.Path.{◌≡◌}
use mathlib.Core.Bool.{true}
use lib.ListN.{length, drop}
use lib.Seq.{sets}
use Rattle.hex_text.specs.Hex.{hex_fits, hex_said}
use Rattle.hex_text.proofs.take_hex.Given as goal

abbrev pub invariant-loop-to : goal.invariant-loop-to
invariant-loop-to l = (length l.bytes ≡ length l.initial.bytes)
    × (hex_fits (l.count - l.to) (drop (l.from + 2 * l.to) l.text) ≡ true)
    × (sets l.bytes l.to (hex_said (l.count - l.to) (drop (l.from + 2 * l.to) l.text)) ≡ sets l.initial.bytes 0 (hex_said l.count (drop l.from l.text)))

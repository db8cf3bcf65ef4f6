use Prim.Native.Nat.{◌*◌, ◌≤◌}
use mathlib.Core.Path.{◌≡◌}
use mathlib.Core.List.{map}
use Rattle.octets.specs.Tables.{before}
use Rattle.fields.specs.Fields.{bits_of}
use Rattle.fields.proofs.sum_before.Given as goal

abbrev pub invariant-loop-width : goal.invariant-loop-width
invariant-loop-width l = record { passed : l.at ≡ before l.width-index (map (bits_of l.n) l.rows); small : l.at ≤ 255 * l.width-index }

use Prim.Native.Nat.{◌*◌, ◌≤◌}
use mathlib.Core.Path.{◌≡◌}
use mathlib.Core.List.{map}
use Rattle.octets.specs.Tables.{before, first_not_whole}
use Rattle.fields.specs.Fields.{bits_of}
use Rattle.fields.proofs.cut_in.Given as goal

abbrev pub invariant-loop-row : goal.invariant-loop-row
invariant-loop-row l =
    record {
      passed : l.at ≡ before l.row (map (bits_of l.n) l.rows);
      whole : l.row ≤ first_not_whole (map (bits_of l.n) l.rows) l.bits;
      small : l.at ≤ 255 * l.row;
    }

use Prim.Native.Nat.{◌-◌}
use mathlib.Core.Path.{◌≡◌}
use lib.ListN.{get_or}
use Rattle.sections.specs.Reading.{provider_place, names_from, names_in}
use Rattle.guide_lines.specs.Lines.{name_lines}
use Rattle.guide_lines.proofs.Laws.{Left}
use Rattle.guide_lines.proofs.put_names.Given as goal

abbrev pub invariant-loop-n : goal.invariant-loop-n
invariant-loop-n l = (l.place ≡ provider_place l.section l.n)
    × Left (name_lines 0 (names_in l.section)) l.initial.out (name_lines l.n (names_from l.section (get_or l.section 8 0 - l.n) l.place)) l.out

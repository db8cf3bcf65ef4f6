use Prim.Native.Nat.{◌-◌, ◌*◌, min}
use mathlib.Core.Path.{◌≡◌}
use Rattle.guides.specs.Gathering.{is_noted, count_below}
use Rattle.guides.proofs.Gathering.count_below.Given as goal

abbrev pub invariant-loop-word : goal.invariant-loop-word
invariant-loop-word l = (l.room ≡ l.top - 64 * l.word-index) × (l.count ≡ count_below (is_noted l.fn.self.noted) (min (64 * l.word-index) l.top))

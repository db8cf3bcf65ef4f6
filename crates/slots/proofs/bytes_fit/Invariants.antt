use mathlib.Core.Bool.{true}
use mathlib.Core.Path.{◌≡◌}
use Rattle.slots.specs.Slots.{all_below}
use Rattle.slots.proofs.Keeps.{clean}
use Rattle.slots.proofs.bytes_fit.Given as goal

abbrev pub invariant-loop-place : goal.invariant-loop-place
invariant-loop-place l = true ≡ all_below l.place (clean l.held l.bytes)

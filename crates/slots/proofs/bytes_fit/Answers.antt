-- `slots::bytes_fit` meets its contract. The loop's invariant: every place so far is held or all zeros. Assumes nothing.
use Prim.Native.Nat.{ℕ}
use mathlib.Core.Path.{◌≡◌, ap, ◌∙◌}
use native.Mathlib.Omega.{arith}
use Rattle.segments.specs.Segment.{most_segments}
use Rattle.slots.specs.Slots.{all_below}
use Rattle.slots.proofs.Keeps.{clean}
use Rattle.slots.proofs.Leaves.{unclean}
use Rattle.slots.proofs.bytes_fit.Goals as goal

pub returns-then-not-same : goal.returns-then-not-same
returns-then-not-same c = unclean c.args.held c.args.bytes.now c.loop-place.place (omega arith) c.holds.ensures c.if-not-holds.true c.same.ensures c.if-not-same.true

pub returns : goal.returns
returns c =
    let end : c.loop-place.place ≡ most_segments = omega arith in
    c.loop-place.invariant ∙ ap (λ (n : ℕ). all_below n (clean c.args.held c.args.bytes.now)) end

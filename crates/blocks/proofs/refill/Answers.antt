-- `blocks::refill` meets its contract: moved down, then read behind. Assumes nothing.
use Rattle.std.proofs.Common.{arith, ℕ, length, ◌+◌, ◌≡◌, ◌≤◌, ap, ◌∙◌}
use Rattle.blocks.proofs.Laws.{refilled}
use Rattle.blocks.proofs.refill.Goals as goal

pub returns : goal.returns
returns g c =
    let m = c.move_down-left in
    let r = c.read_behind-came in
    let e = c.stay.ensures in
    let inside : m.result ≤ length m.new.block = omega arith in
    let long : length r.new.block ≡ length m.new.block = omega arith in
    refilled c.args.block.now m.new.block r.new.block c.args.at c.args.have m.result r.result c.stay.result
    c.requires.2
    m.ensures.value
    m.ensures.block_after
    r.ensures.block_unchanged
    long
    r.ensures.room
    (e.0, e.1 ∙ ap (λ (n : ℕ). m.result + n) c.bytes_in.ensures, e.2 ∙ c.step_after.ensures)
    inside

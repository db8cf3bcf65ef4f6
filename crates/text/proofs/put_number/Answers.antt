-- `text::put_number` meets its contract: one digit, or as many as there are. Assumes nothing.
use native.Mathlib.Omega.{arith}
use Rattle.text.proofs.Laws.{length_small, length_power, digit_only}
use Rattle.text.proofs.put_number.Goals as goal

pub bounds-out-to : goal.bounds-out-to
bounds-out-to c = omega (arith, length_small c.args.n c.if-n-lt10.true)

pub returns-then-n-lt10 : goal.returns-then-n-lt10
returns-then-n-lt10 c = digit_only c.args.n c.args.to c.args.out.now c.if-n-lt10.true

pub put_digits-requires : goal.put_digits-requires
put_digits-requires c =
    let places = length_power _ c.args.n c.ilog10.ensures.power_le c.ilog10.ensures.next_power_gt in
    (omega (arith, places), omega (arith, places))

pub returns : goal.returns
returns c = (omega (arith, length_power _ c.args.n c.ilog10.ensures.power_le c.ilog10.ensures.next_power_gt), c.put_digits.ensures)

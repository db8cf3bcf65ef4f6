-- `text::put_digits` meets its contract. The loop's invariant: the digits that are left, put at the start, make the whole that was asked for. Assumes nothing.
use mathlib.Core.Path.{◌≡◌, sym, ap, ◌∙◌}
use Prim.Native.Nat.{ℕ, ◌-◌}
use native.Mathlib.Omega.{arith}
use lib.ListN.{length-set}
use lib.Seq.{sets}
use Rattle.text.proofs.Laws.{last_digits, last_digits_all, digit_next}
use Rattle.text.proofs.put_digits.Goals as goal

pub loop-at-preserved : goal.loop-at-preserved
loop-at-preserved c = let l = c.loop-at in
    (omega arith, simp length-set l.invariant.1, digit_next l.rest c.args.to l.at l.out c.loop-at-test.true ∙ l.invariant.2)

pub returns : goal.returns
unfolding last_digits
returns c = let a = c.args in
    let l = c.loop-at in
    let none : l.at - a.to ≡ 0 = omega arith in
    sym (ap (λ (k : ℕ). sets l.out a.to (last_digits k l.rest)) none) ∙ l.invariant.2 ∙ ap (sets a.out.now a.to) (last_digits_all a.count a.n c.requires.0)

-- `text::put_text` meets its contract. The loop's invariant: what is left of the word, put here, makes the whole that was asked for. Assumes
-- nothing.
use native.Mathlib.Omega.{arith}
use Prim.Native.Nat.{◌+◌}
use mathlib.Core.Path.{refl, sym, ◌∙◌}
use lib.ListN.{length-set}
use Rattle.octets.proofs.Stores.{copy_next, copy_done}
use Rattle.text.proofs.put_text.Goals as goal

pub loop-i-preserved : goal.loop-i-preserved
loop-i-preserved c = let a = c.args in
    let l = c.loop-i in
    (omega arith, simp length-set l.invariant.1, copy_next a.word.now l.out a.to l.i c.loop-i-test.true ∙ l.invariant.2)

pub returns : goal.returns
returns c = let word = c.args.word.now in
    let l = c.loop-i in
    (refl, sym (copy_done word l.out (c.args.to + l.i) l.i c.loop-i-test.false) ∙ l.invariant.2)

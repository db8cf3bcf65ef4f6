-- `hex_text::take_hex` meets its contract. The loop's invariant: the digits that are left are digits, and what is left, put here, makes the whole
-- that was asked for. Assumes nothing.
use mathlib.Core.Path.{sym, ap, ◌∙◌}
use Prim.Native.Nat.{◌+◌, ◌-◌, ◌*◌}
use native.Mathlib.Omega.{arith}
use lib.ListN.{drop, length-set}
use lib.Seq.{sets}
use Rattle.hex_text.proofs.Read.{fits_next, said_next, said_none}
use Rattle.hex_text.proofs.take_hex.Goals as goal

pub unwrap-requires : goal.unwrap-requires
unwrap-requires c = let a = c.args in
    let l = c.loop-to in
    rw c.digit.ensures (fits_next a.text.now a.from a.count l.to c.loop-to-test.true l.invariant.1).0

pub unwrap-requires-in-loop-to : goal.unwrap-requires-in-loop-to
unwrap-requires-in-loop-to c = let a = c.args in
    let l = c.loop-to in
    rw c.digit-in-loop-to.ensures (fits_next a.text.now a.from a.count l.to c.loop-to-test.true l.invariant.1).1

pub loop-to-preserved : goal.loop-to-preserved
loop-to-preserved c = let a = c.args in
    let l = c.loop-to in (
      simp length-set l.invariant.0,
      (fits_next a.text.now a.from a.count l.to c.loop-to-test.true l.invariant.1).2,
      said_next a.text.now a.from a.count l.to c.loop-to-test.true l.bytes _ _ (sym c.digit.ensures ∙ c.unwrap.ensures) (sym c.digit-in-loop-to.ensures ∙ c.unwrap-in-loop-to.ensures) ∙ l.invariant.2,
    )

pub returns : goal.returns
returns c = let a = c.args in
    let l = c.loop-to in
    sym (ap (sets l.bytes l.to) (said_none (a.count - l.to) (drop (a.from + 2 * l.to) a.text.now) (omega arith))) ∙ l.invariant.2

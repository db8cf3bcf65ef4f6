-- `hex_text::put_hex` meets its contract. The loop's invariant: the bytes left, put here in hex, make the whole that was asked for. Assumes nothing.
use native.Mathlib.Omega.{arith}
use mathlib.Core.Path.{sym, ◌∙◌}
use Prim.Native.Nat.{◌+◌, ◌*◌}
use lib.ListN.{length-set}
use Rattle.hex_text.proofs.Written.{length-hex, hex_next, hex_none}
use Rattle.hex_text.proofs.put_hex.Goals as goal

pub loop-i-preserved : goal.loop-i-preserved
loop-i-preserved c = let l = c.loop-i in
    (omega arith, simp length-set l.invariant.1, hex_next c.args.bytes.now l.out c.args.to l.i _ _ c.loop-i-test.true c.glyph.ensures c.glyph-in-loop-i.ensures ∙ l.invariant.2)

pub returns : goal.returns
returns c = let bytes = c.args.bytes.now in
    let l = c.loop-i in
    (omega (arith, length-hex bytes), sym (hex_none bytes l.out (c.args.to + 2 * l.i) l.i c.loop-i-test.false) ∙ l.invariant.2)

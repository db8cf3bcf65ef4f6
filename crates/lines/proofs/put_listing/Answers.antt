-- `lines::put_listing` meets its contract: the number, the bytes in hex and the end of the line come one after the other. Assumes nothing.
use native.Mathlib.Omega.{arith}
use Rattle.text.specs.Text.{newline}
use Rattle.text.proofs.Adds.{adds_both, room_left, room_behind}
use Rattle.hex_text.proofs.Written.{length-hex}
use Rattle.lines.proofs.Laws.{length_parts}
use Rattle.lines.proofs.put_listing.Goals as goal

pub numbered-requires : goal.numbered-requires
numbered-requires c = omega (arith, length_parts c.args.listing.now)

pub put_hex_to-requires : goal.put_hex_to-requires
put_hex_to-requires c = let l = c.args.listing.now in room_left c.numbered.ensures _ _ (omega (arith, length_parts l)) c.requires.1

pub put-requires : goal.put-requires
put-requires c = room_behind newline (adds_both c.numbered.ensures c.put_hex_to.ensures) c.requires.1

pub returns : goal.returns
returns c = adds_both (adds_both c.numbered.ensures c.put_hex_to.ensures) c.put.ensures

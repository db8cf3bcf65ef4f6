-- `guide_lines::put_byte` meets its contract: where two digits stand for the byte, there is room for them. Assumes nothing.
use mathlib.Core.Path.{◌≡◌, ap}
use mathlib.Core.Logic.{◌⊎◌, inl, inr}
use mathlib.Core.List.{[], ◌∷◌}
use Prim.Native.Nat.{ℕ, ◌≤◌, ◌<◌}
use Prim.Native.Char.{code}
use native.Mathlib.Omega.{arith}
use lib.ListN.{length}
use Rattle.text.proofs.Adds.{room_left}
use Rattle.hex_text.proofs.Written.{length-hex}
use Rattle.guide_lines.specs.Lines.{escaped}
use Rattle.guide_lines.proofs.Laws.{escaped_digits}
use Rattle.guide_lines.proofs.put_byte.Goals as goal
use Rattle.guide_lines.proofs.put_byte.Goals.{in_default-via-then-byte-lt32, in_default-via-else-byte-lt32+else-byte-lt127}

-- a byte for which two digits stand
length-digits : (b : ℕ) → (b ≡ code "\\" → ⊥) → (b < 0x20) ⊎ (0x7F ≤ b) → length (escaped b) ≡ 4
length-digits b other d = omega (arith, ap length (escaped_digits b other d), length-hex (b ∷ []))

pub put_hex_to-requires : goal.put_hex_to-requires
put_hex_to-requires c =
    let b = c.args.byte in
    elim c.in_default.branch [
      | in_default-via-then-byte-lt32 w ↦ room_left c.put-in_default.ensures _ _ (omega (arith, length-digits b (omega arith) (inl (omega arith)))) c.requires
      | in_default-via-else-byte-lt32+else-byte-lt127 w ↦ room_left c.put-in_default.ensures _ _ (omega (arith, length-digits b (omega arith) (inr (omega arith)))) c.requires
    ]

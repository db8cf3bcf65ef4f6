-- `hex_text::hex_fits` meets its contract: it looks at that many pairs. Assumes nothing.
use mathlib.Core.Path.{◌≡◌, ap, ◌∙◌}
use Prim.Native.Nat.{ℕ, ◌+◌, ◌-◌, ◌*◌}
use native.Mathlib.Omega.{arith}
use lib.ListN.{take, drop, length-drop}
use Rattle.std.specs.Prelude.{is_some}
use Rattle.std.specs.List.{list_all}
use Rattle.hex_text.specs.Hex.{digit_of}
use Rattle.hex_text.proofs.Read.{fits_digits}
use Rattle.hex_text.proofs.hex_fits.Goals as goal

pub returns : goal.returns
returns c = let a = c.args in
    let text = drop a.from a.text.now in
    let whole : a.from + 2 * a.count - a.from ≡ 2 * a.count = omega arith in
    c.are_digits.ensures
    ∙ ap (λ (k : ℕ). list_all (λ d. is_some (digit_of d)) (take k text)) whole
    ∙ fits_digits a.count text (omega (arith, length-drop a.from a.text.now))

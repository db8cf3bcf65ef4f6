-- Numbers in decimal, by computation. Assumes nothing.
use mathlib.Core.Path.{◌≡◌, refl}
use mathlib.Core.List.{[], ◌∷◌, map}
use native.Mathlib.Omega.{arith}
use Rattle.text.specs.Text.{text, decimal, decimal_in}
use Rattle.text.proofs.Laws.{decimal_few}

pub samples : map decimal (0 ∷ 7 ∷ 10 ∷ 1475 ∷ 65535 ∷ []) ≡ (text "0" ∷ text "7" ∷ text "10" ∷ text "1475" ∷ text "65535" ∷ [])
unfolding decimal decimal_in
samples = refl

-- the last number of 64 bits, from its 20 digits
pub sample_last : decimal 18446744073709551615 ≡ text "18446744073709551615"
unfolding decimal_in
sample_last = decimal_few 19 18446744073709551615 (omega arith)

-- Bytes in hex, by computation. Assumes nothing.
use mathlib.Core.Path.{◌≡◌, refl}
use mathlib.Core.List.{[], ◌∷◌, flat_map}
use mathlib.Core.Bool.{false}
use Rattle.text.specs.Text.{text}
use Rattle.hex_text.specs.Hex.{hex, hex_fits, hex_said}

pub sample_written : hex (0x00 ∷ 0x9F ∷ 0xAB ∷ []) ≡ text "009fab"
unfolding hex flat_map
sample_written = refl

pub sample_read : hex_said 3 (text "009FaB") ≡ 0x00 ∷ 0x9F ∷ 0xAB ∷ []
unfolding hex_said
sample_read = refl

pub sample_refused : hex_fits 2 (text "9Fg0") ≡ false
unfolding hex_fits
sample_refused = refl

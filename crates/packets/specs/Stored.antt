-- Stored packets, one after the other: the mark IP, the length in two bytes, the packet.
use Rattle.std.specs.Prelude.{ℕ, length}
use mathlib.Core.List.{List, ◌++◌, flat_map}
use Rattle.octets.specs.Word.{word_bytes}
use Rattle.text.specs.Text.{text}

-- the bytes before a packet of n bytes
abbrev pub stored_head : ℕ → List ℕ
stored_head n = text "IP" ++ word_bytes n

abbrev pub stored_head_bytes : ℕ
stored_head_bytes = 4

abbrev pub stored_packet : List ℕ → List ℕ
stored_packet xs = stored_head (length xs) ++ xs

unfoldable pub stored : List (List ℕ) → List ℕ
stored packets = flat_map stored_packet packets

-- packets end to end, without marks and lengths
unfoldable pub line : List (List ℕ) → List ℕ
line packets = flat_map (λ p. p) packets

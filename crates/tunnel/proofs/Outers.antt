-- Outer packets as bytes: the byte of the marker and the payload_type, and how many they are. Assumes nothing.
use mathlib.Core.Path.{◌≡◌, ◌∙◌}
use mathlib.Core.Bool.{Bool, true, false, cond}
use mathlib.Core.List.{List, ◌++◌}
use Prim.Native.Nat.{ℕ, ◌+◌, ◌*◌, ◌<◌}
use native.Mathlib.Omega.{arith}
use lib.ListN.{length}
use Rattle.octets.specs.Bits.{run}
use Rattle.octets.proofs.Laws.{width_append, width_run, length-bytes_of}
use Rattle.rtp.specs.Header.{header_bytes, head_fields}
use Rattle.tunnel.specs.Outer.{stltp, Outer, outer_fields, outer_packet}

abbrev pub kind_byte : Bool → ℕ
kind_byte t = cond t 1 0 * 128 + stltp

pub marker_bit : (t : Bool) → cond t 1 0 < 2
marker_bit true = omega arith
marker_bit false = omega arith

pub length-outer : (o : Outer) (payload : List ℕ) → length (outer_packet o payload) ≡ header_bytes + length payload
unfolding outer_packet outer_fields head_fields
length-outer o payload = length-bytes_of (outer_fields o ++ run payload) ∙ omega (arith, width_append (outer_fields o) (run payload), width_run payload)

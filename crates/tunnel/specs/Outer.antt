-- A/324, Table 6.1, for STLTP: an outer packet. RTP's fixed header up to the timestamp, then the fields of the tunnel, in the standard's order.
use Rattle.std.specs.Prelude.{ℕ, Bool, not, ◌&&◌, List, [], ◌∷◌, ◌++◌, ltb, length, get_or}
use Rattle.octets.specs.Bits.{Field, field, run, bytes_of}
use Rattle.octets.specs.Word.{word}
use Rattle.rtp.specs.Header.{Head, head_fields, is_plain}

-- Table 6.2: the payload_type of STLTP
abbrev pub stltp : ℕ
stltp = 97

abbrev pub longest_outer : ℕ
longest_outer = 1500

pub record Outer : Type 0 where
  pub head : Head
  pub protocol : ℕ
  pub redundancy : ℕ
  pub channels : ℕ
  pub reserved : ℕ
  pub offset : ℕ

unfoldable pub outer_fields : Outer → List Field
outer_fields o =
    head_fields o.head
    ++ (field 2 o.protocol  -- protocol_version
    ∷ field 2 o.redundancy  -- redundancy
    ∷ field 2 o.channels  -- number_of_channels
    ∷ field 10 o.reserved  -- reserved
    ∷ field 16 o.offset  -- packet_offset
    ∷ [])

-- the bytes of an outer packet with this header and payload
unfoldable pub outer_packet : Outer → List ℕ → List ℕ
outer_packet o payload = bytes_of (outer_fields o ++ run payload)

-- ---- of the outer packet xs

abbrev pub offset_in : List ℕ → ℕ
offset_in xs = word (get_or xs 10 0) (get_or xs 11 0)

-- whether it is one of the tunnel's: not too long or too short, and its header as it has to be
abbrev pub is_outer : List ℕ → Bool
is_outer xs = not (ltb longest_outer (length xs)) && is_plain stltp xs

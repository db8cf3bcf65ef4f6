-- A/324, Table 6.1: RTP's fixed header, up to the timestamp, in the standard's order; and its fields by their places. The last four bytes are each user's own.
use Rattle.std.specs.Prelude.{ℕ, ◌/◌, ◌%◌, Bool, not, ◌&&◌, List, [], ◌∷◌, ltb, eqb, length, get_or, drop}
use Rattle.octets.specs.Bits.{Field, field}
use Rattle.octets.specs.Word.{word}

abbrev pub header_bytes : ℕ
header_bytes = 12

-- sequence numbers are modulo this
abbrev pub sequences : ℕ
sequences = 65536

-- ---- the table

pub record Head : Type 0 where
  pub version : ℕ
  pub padding : ℕ
  pub extension : ℕ
  pub csrc_count : ℕ
  pub marker : ℕ
  pub payload_type : ℕ
  pub sequence : ℕ
  pub timestamp : ℕ

unfoldable pub head_fields : Head → List Field
head_fields h =
    field 2 h.version  -- version (V)
    ∷ field 1 h.padding  -- padding (P)
    ∷ field 1 h.extension  -- extension (X)
    ∷ field 4 h.csrc_count  -- CSRC_count (CC)
    ∷ field 1 h.marker  -- marker (M)
    ∷ field 7 h.payload_type  -- payload_type (PT)
    ∷ field 16 h.sequence  -- sequence_number
    ∷ field 32 h.timestamp  -- timestamp
    ∷ []

-- ---- the fields of the packet xs

abbrev pub version_in : List ℕ → ℕ
version_in xs = get_or xs 0 0 / 64

abbrev pub padding_in : List ℕ → ℕ
padding_in xs = get_or xs 0 0 / 32 % 2

abbrev pub extension_in : List ℕ → ℕ
extension_in xs = get_or xs 0 0 / 16 % 2

abbrev pub csrc_count_in : List ℕ → ℕ
csrc_count_in xs = get_or xs 0 0 % 16

abbrev pub marker_in : List ℕ → ℕ
marker_in xs = get_or xs 1 0 / 128

abbrev pub payload_type_in : List ℕ → ℕ
payload_type_in xs = get_or xs 1 0 % 128

abbrev pub sequence_in : List ℕ → ℕ
sequence_in xs = word (get_or xs 2 0) (get_or xs 3 0)

abbrev pub payload_in : List ℕ → List ℕ
payload_in xs = drop header_bytes xs

-- ---- a header of RTP's version 2 without padding, extension and CSRC, of this payload type

unfoldable pub is_plain : ℕ → List ℕ → Bool
is_plain kind xs =
    not (ltb (length xs) header_bytes)
    && (eqb (version_in xs) 2
    && (eqb (padding_in xs) 0
    && (eqb (extension_in xs) 0
    && (eqb (csrc_count_in xs) 0
    && eqb (payload_type_in xs) kind))))

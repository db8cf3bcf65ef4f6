-- A/153 Part 3:2013, Tables 6.5 and 6.6: the fields of a FIC chunk in the standard's order, the bytes that they make, and the list that they
-- carry. The record of a table has what the table has: reserved bits, extension bytes and stuffing too.
use Rattle.std.specs.Prelude.{ℕ, ◌≤◌, ◌≡◌, cond, eqb, length}
use mathlib.Core.List.{List, [], ◌∷◌, ◌++◌, map, flat_map}
use Rattle.octets.specs.Bits.{Field, run, bytes_of, Held}
use Rattle.octets.specs.Each.{Each}
use Rattle.octets.specs.Tables.{Row, row, byte_run, one, filled}
use Rattle.meaning.specs.declared.Kind.{Kind}
use Rattle.meaning.specs.Sizes.{longest_chunk}
use Rattle.meaning.specs.Lists.{Service, Known, Unknown, Ensemble, known, unknown, FicList, kind_of}

-- ---- the inner loop of Table 6.6

pub record ServiceRow : Type 0 where
  pub id : ℕ
  pub reserved : ℕ
  pub multi : ℕ
  pub status : ℕ
  pub sp : ℕ
  pub extension : List ℕ

abbrev pub service_table : List Row
service_table =
    row "MH_service_id" 16
    ∷ row "reserved" 3
    ∷ row "multi_ensemble_service" 2
    ∷ row "MH_service_status" 2
    ∷ row "SP_indicator" 1
    ∷ byte_run "MH_service_loop_extension_byte"
    ∷ []

unfoldable pub service_fields : ServiceRow → List Field
service_fields v = filled service_table (one v.id ∷ one v.reserved ∷ one v.multi ∷ one v.status ∷ one v.sp ∷ v.extension ∷ [])

-- ---- the outer loop of Table 6.6

pub record EnsembleRow : Type 0 where
  pub id : ℕ
  pub reserved : ℕ
  pub version : ℕ
  pub slt : ℕ
  pub gat : ℕ
  pub eat : ℕ
  pub channel : ℕ
  pub extension : List ℕ
  pub services : List ServiceRow

-- before its services
abbrev pub ensemble_table : List Row
ensemble_table =
    row "ensemble_id" 8
    ∷ row "reserved" 3
    ∷ row "ensemble_protocol_version" 5
    ∷ row "SLT_ensemble_indicator" 1
    ∷ row "GAT_ensemble_indicator" 1
    ∷ row "EAT_ensemble_indicator" 1
    ∷ row "MH_service_signaling_channel_version" 5
    ∷ byte_run "ensemble_loop_header_extension_byte"
    ∷ row "num_MH_services" 8
    ∷ []

unfoldable pub ensemble_head : EnsembleRow → List Field
ensemble_head e =
    filled ensemble_table
    (one e.id
    ∷ one e.reserved
    ∷ one e.version
    ∷ one e.slt
    ∷ one e.gat
    ∷ one e.eat
    ∷ one e.channel
    ∷ e.extension
    ∷ one (length e.services)
    ∷ [])

unfoldable pub ensemble_fields : EnsembleRow → List Field
ensemble_fields e = ensemble_head e ++ flat_map service_fields e.services

-- ---- Table 6.5, then Table 6.6

pub record Chunk : Type 0 where
  pub major : ℕ
  pub minor : ℕ
  -- the extension lengths of the header, of each ensemble and of each service
  pub h : ℕ
  pub e : ℕ
  pub s : ℕ
  pub reserved : ℕ
  pub current : ℕ
  pub stream : ℕ
  pub extension : List ℕ
  pub ensembles : List EnsembleRow
  pub stuffing : List ℕ

-- Table 6.5
abbrev pub chunk_table : List Row
chunk_table =
    row "FIC_chunk_major_protocol_version" 2
    ∷ row "FIC_chunk_minor_protocol_version" 3
    ∷ row "FIC_chunk_header_extension_length" 3
    ∷ row "ensemble_loop_header_extension_length" 3
    ∷ row "MH_service_loop_extension_length" 3
    ∷ row "reserved" 1
    ∷ row "current_next_indicator" 1
    ∷ row "transport_stream_id" 16
    ∷ byte_run "header_extension_byte"
    ∷ row "num_ensembles" 8
    ∷ []

unfoldable pub chunk_head : Chunk → List Field
chunk_head c =
    filled chunk_table
    (one c.major
    ∷ one c.minor
    ∷ one c.h
    ∷ one c.e
    ∷ one c.s
    ∷ one c.reserved
    ∷ one c.current
    ∷ one c.stream
    ∷ c.extension
    ∷ one (length c.ensembles)
    ∷ [])

unfoldable pub chunk_fields : Chunk → List Field
chunk_fields c = chunk_head c ++ (flat_map ensemble_fields c.ensembles ++ run c.stuffing)  -- FIC_chunk_stuffing

-- ---- the bytes of a chunk, and which records are chunks

unfoldable pub wire : Chunk → List ℕ
wire c = bytes_of (chunk_fields c)

-- the fields and the extensions agree with what the header says; how long the chunk is, is not asked
pub record Formed (c : Chunk) : Type 0 where
  -- every number fits its field: so an extension length is 0 to 7 and a count at most 255
  pub held : Held (chunk_fields c)
  -- the extensions have the lengths that the header says
  pub header : length c.extension ≡ c.h
  pub loops : Each (λ x. (length x.extension ≡ c.e) × Each (λ v. length v.extension ≡ c.s) x.services) c.ensembles

pub record Allowed (c : Chunk) : Type 0 where
  pub formed : Formed c
  pub room : length (wire c) ≤ longest_chunk

-- ---- what a chunk carries

abbrev pub service_of : ServiceRow → Service
service_of v = record { id = v.id; multi = v.multi; status = v.status; sp = v.sp }

-- an ensemble of version 0
abbrev pub known_in : EnsembleRow → Known
known_in e =
    record { id = e.id; slt = e.slt; gat = e.gat; eat = e.eat; channel = e.channel; services = map service_of e.services }

-- of any other version: its flags, its channel and its services are no part of the list
abbrev pub unknown_in : EnsembleRow → Unknown
unknown_in e = record { id = e.id; version = e.version }

abbrev pub ensemble_of : EnsembleRow → Ensemble
ensemble_of e = cond (eqb e.version 0) (known (known_in e)) (unknown (unknown_in e))

abbrev pub list_of : Chunk → FicList
list_of c = record { stream = c.stream; ensembles = map ensemble_of c.ensembles }

-- the bytes xs are a chunk of major version 0, and it carries the list l for the frame k in the minor edition m: any extension bytes, any
-- reserved bits, any stuffing, and anything inside an ensemble of another version than 0
pub record Carries (xs : List ℕ) (k : Kind) (m : ℕ) (l : FicList) : Type 0 where
  pub chunk : Chunk
  pub allowed : Allowed chunk
  pub bytes : wire chunk ≡ xs
  pub major : chunk.major ≡ 0
  pub kind : kind_of chunk.current ≡ k
  pub minor : chunk.minor ≡ m
  pub list : list_of chunk ≡ l

-- The names of all rows as A/153 Part 3:2013 prints them, and none past the last, by computation. Assumes nothing.
use mathlib.Core.Path.{◌≡◌, refl}
use mathlib.Core.List.{[], ◌∷◌, map}
use lib.ListN.{length}
use Rattle.text.specs.Text.{text}
use Rattle.fields.specs.declared.Table.TheVariants.{Chunk, Ensemble, Service, Segment}
use Rattle.field_names.specs.Names.{name_of}

-- Table 6.5
pub chunk-names :
    map (name_of Chunk) (0 ∷ 1 ∷ 2 ∷ 3 ∷ 4 ∷ 5 ∷ 6 ∷ 7 ∷ 8 ∷ 9 ∷ 10 ∷ [])
    ≡ map text
    ("FIC_chunk_major_protocol_version"
    ∷ "FIC_chunk_minor_protocol_version"
    ∷ "FIC_chunk_header_extension_length"
    ∷ "ensemble_loop_header_extension_length"
    ∷ "MH_service_loop_extension_length"
    ∷ "reserved"
    ∷ "current_next_indicator"
    ∷ "transport_stream_id"
    ∷ "header_extension_byte"
    ∷ "num_ensembles"
    ∷ ""
    ∷ [])
chunk-names = refl

-- Table 6.6, an ensemble
pub ensemble-names :
    map (name_of Ensemble) (0 ∷ 1 ∷ 2 ∷ 3 ∷ 4 ∷ 5 ∷ 6 ∷ 7 ∷ 8 ∷ 9 ∷ [])
    ≡ map text
    ("ensemble_id"
    ∷ "reserved"
    ∷ "ensemble_protocol_version"
    ∷ "SLT_ensemble_indicator"
    ∷ "GAT_ensemble_indicator"
    ∷ "EAT_ensemble_indicator"
    ∷ "MH_service_signaling_channel_version"
    ∷ "ensemble_loop_header_extension_byte"
    ∷ "num_MH_services"
    ∷ ""
    ∷ [])
ensemble-names = refl

-- Table 6.6, a service
pub service-names :
    map (name_of Service) (0 ∷ 1 ∷ 2 ∷ 3 ∷ 4 ∷ 5 ∷ 6 ∷ [])
    ≡ map text
    ("MH_service_id"
    ∷ "reserved"
    ∷ "multi_ensemble_service"
    ∷ "MH_service_status"
    ∷ "SP_indicator"
    ∷ "MH_service_loop_extension_byte"
    ∷ ""
    ∷ [])
service-names = refl

-- Table 6.9
pub segment-names :
    map (name_of Segment) (0 ∷ 1 ∷ 2 ∷ 3 ∷ 4 ∷ 5 ∷ 6 ∷ 7 ∷ 8 ∷ [])
    ≡ map text
    ("FIC_segment_type"
    ∷ "reserved"
    ∷ "wake_up_indicator"
    ∷ "FIC_chunk_major_protocol_version"
    ∷ "current_next_indicator"
    ∷ "error_indicator"
    ∷ "FIC_segment_num"
    ∷ "FIC_last_segment_num"
    ∷ ""
    ∷ [])
segment-names = refl

-- a name that is as long as any (`name-short`)
pub longest-name : length (name_of Chunk 3) ≡ 37
longest-name = refl

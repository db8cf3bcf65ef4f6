-- The list that a chunk carries: what a receiver is to know, and nothing of how it was sent.
use Rattle.std.specs.Prelude.{ℕ, suc, ◌≡◌, Bool, true, false, cond, eqb}
use mathlib.Core.List.{List, [], ◌∷◌, flat_map}
use Rattle.octets.specs.Each.{Each}
use Rattle.meaning.specs.declared.Kind.{Kind}
use Rattle.meaning.specs.declared.Kind.TheVariants.{This, Next}

-- current_next_indicator: 1 is for the frame it comes in, 0 for the next one
abbrev pub kind_of : ℕ → Kind
kind_of current = cond (eqb current 1) This Next

abbrev pub current_of : Kind → ℕ
current_of This = 1
current_of Next = 0

-- an M/H service
pub record Service : Type 0 where
  -- MH_service_id
  pub id : ℕ
  -- multi_ensemble_service
  pub multi : ℕ
  -- MH_service_status
  pub status : ℕ
  -- SP_indicator
  pub sp : ℕ

-- an M/H ensemble of version 0 and its services
pub record Known : Type 0 where
  -- ensemble_id
  pub id : ℕ
  -- SLT_ensemble_indicator, GAT_ensemble_indicator, EAT_ensemble_indicator
  pub slt : ℕ
  pub gat : ℕ
  pub eat : ℕ
  -- MH_service_signaling_channel_version
  pub channel : ℕ
  pub services : List Service

-- an M/H ensemble of another version: no more is known of it than that it is there
pub record Unknown : Type 0 where
  -- ensemble_id
  pub id : ℕ
  -- ensemble_protocol_version, which is not 0
  pub version : ℕ

-- the two sorts
pub data Ensemble : Type 0 where
  known : Known → Ensemble
  unknown : Unknown → Ensemble

-- its services, as far as they are known
abbrev pub ensemble_services : Ensemble → List Service
ensemble_services (known e) = e.services
ensemble_services (unknown u) = []

abbrev pub is_known : Ensemble → Bool
is_known (known e) = true
is_known (unknown u) = false

-- the list of a transport stream's ensembles
pub record FicList : Type 0 where
  -- transport_stream_id
  pub stream : ℕ
  pub ensembles : List Ensemble

-- all services of a list, in order
unfoldable pub services_of : FicList → List Service
services_of l = flat_map ensemble_services l.ensembles

-- how many of some ensembles are known, and how many are not
unfoldable pub known_count : List Ensemble → ℕ
known_count [] = 0
known_count (known e ∷ es) = suc (known_count es)
known_count (unknown u ∷ es) = known_count es

unfoldable pub unknown_count : List Ensemble → ℕ
unknown_count [] = 0
unknown_count (known e ∷ es) = unknown_count es
unknown_count (unknown u ∷ es) = suc (unknown_count es)

-- all ensembles of the list are
abbrev pub AllKnown : FicList → Type 0
AllKnown l = Each (λ e. is_known e ≡ true) l.ensembles

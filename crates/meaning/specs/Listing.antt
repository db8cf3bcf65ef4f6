-- Document 01, "Listing", with document 02's record for an unknown ensemble and the ensemble's id in a service's: a list in the house form, a
-- two-byte mark before each record.
use Rattle.std.specs.Prelude.{ℕ, ◌+◌, ◌*◌, length}
use mathlib.Core.List.{List, [], ◌∷◌, ◌++◌, flat_map}
use Rattle.octets.specs.Word.{word_bytes}
use Rattle.text.specs.Text.{text}
use Rattle.meaning.specs.Lists.{Service, Known, Unknown, Ensemble, known, unknown, FicList}

-- the marks
abbrev pub mark_ts : List ℕ
mark_ts = text "TS"

abbrev pub mark_en : List ℕ
mark_en = text "EN"

abbrev pub mark_eu : List ℕ
mark_eu = text "EU"

abbrev pub mark_sv : List ℕ
mark_sv = text "SV"

-- TS, transport_stream_id, number of ensembles, of both sorts
abbrev pub ts_record : FicList → List ℕ
ts_record l = mark_ts ++ word_bytes l.stream ++ (length l.ensembles ∷ [])

-- 4 SLT + 2 GAT + EAT
abbrev pub flags : Known → ℕ
flags e = 4 * e.slt + 2 * e.gat + e.eat

-- EN, id, flags, channel version, number of services
abbrev pub en_record : Known → List ℕ
en_record e = mark_en ++ (e.id ∷ flags e ∷ e.channel ∷ length e.services ∷ [])

-- EU, id, version
abbrev pub eu_record : Unknown → List ℕ
eu_record u = mark_eu ++ (u.id ∷ u.version ∷ [])

-- SV, the id of the service's ensemble, id, multi, status, SP
abbrev pub sv_record : ℕ → Service → List ℕ
sv_record ensemble v = mark_sv ++ (ensemble ∷ []) ++ word_bytes v.id ++ (v.multi ∷ v.status ∷ v.sp ∷ [])

-- an ensemble, then its services; of an unknown one its record alone
unfoldable pub ensemble_listing : Ensemble → List ℕ
ensemble_listing (known e) = en_record e ++ flat_map (sv_record e.id) e.services
ensemble_listing (unknown u) = eu_record u

-- the stream, then its ensembles
unfoldable pub listing : FicList → List ℕ
listing l = ts_record l ++ flat_map ensemble_listing l.ensembles

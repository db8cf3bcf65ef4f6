-- The bytes of the tables' rows, one row after the other: what `wire` makes of the fields. Assumes nothing.
use mathlib.Core.Path.{◌≡◌, refl, subst⁻¹}
use mathlib.Core.List.{List, [], ◌∷◌, ◌++◌, flat_map, append-nil}
use Prim.Native.Nat.{ℕ}
use lib.ListN.{length}
use Rattle.octets.specs.Bits.{Field, field, Held, run}
use Rattle.octets.specs.Word.{word_bytes}
use Rattle.octets.proofs.Laws.{packed, Makes, bytes_made, makes_append, makes_byte, makes_octet, makes_word, makes_run, makes_rows}
use Rattle.meaning.specs.Layout.{ServiceRow, service_fields, EnsembleRow, ensemble_head, ensemble_fields, Chunk, chunk_head, chunk_fields, wire}

-- ---- the rows

-- a service's third byte; an ensemble's second and third; a chunk's first and second
abbrev pub service_third : ServiceRow → ℕ
service_third v = packed (field 3 v.reserved ∷ field 2 v.multi ∷ field 2 v.status ∷ field 1 v.sp ∷ [])

abbrev pub ensemble_second : EnsembleRow → ℕ
ensemble_second e = packed (field 3 e.reserved ∷ field 5 e.version ∷ [])

abbrev pub ensemble_third : EnsembleRow → ℕ
ensemble_third e = packed (field 1 e.slt ∷ field 1 e.gat ∷ field 1 e.eat ∷ field 5 e.channel ∷ [])

abbrev pub chunk_first : Chunk → ℕ
chunk_first c = packed (field 2 c.major ∷ field 3 c.minor ∷ field 3 c.h ∷ [])

abbrev pub chunk_second : Chunk → ℕ
chunk_second c = packed (field 3 c.e ∷ field 3 c.s ∷ field 1 c.reserved ∷ field 1 c.current ∷ [])

unfoldable pub service_row : ServiceRow → List ℕ
service_row v = word_bytes v.id ++ (service_third v ∷ v.extension)

unfoldable pub ensemble_front : EnsembleRow → List ℕ
ensemble_front e = (e.id ∷ ensemble_second e ∷ ensemble_third e ∷ e.extension) ++ (length e.services ∷ [])

unfoldable pub ensemble_row : EnsembleRow → List ℕ
ensemble_row e = ensemble_front e ++ flat_map service_row e.services

unfoldable pub chunk_front : Chunk → List ℕ
chunk_front c = (chunk_first c ∷ chunk_second c ∷ word_bytes c.stream ++ c.extension) ++ (length c.ensembles ∷ [])

unfoldable pub chunk_row : Chunk → List ℕ
chunk_row c = chunk_front c ++ (flat_map ensemble_row c.ensembles ++ c.stuffing)

-- ---- the fields make the rows

pub service_makes : (v : ServiceRow) → Makes (service_fields v) (service_row v)
unfolding service_fields service_row
service_makes v =
    makes_append (makes_word v.id)
    (makes_append
    (makes_byte (field 3 v.reserved ∷ field 2 v.multi ∷ field 2 v.status ∷ field 1 v.sp ∷ []) refl)
    (subst⁻¹ (λ (gs : List Field). Makes gs v.extension) (append-nil (run v.extension)) (makes_run v.extension)))

pub ensemble_front_makes : (e : EnsembleRow) → Makes (ensemble_head e) (ensemble_front e)
unfolding ensemble_head ensemble_front
ensemble_front_makes e =
    makes_append (makes_octet e.id)
    (makes_append (makes_byte (field 3 e.reserved ∷ field 5 e.version ∷ []) refl)
    (makes_append
    (makes_byte (field 1 e.slt ∷ field 1 e.gat ∷ field 1 e.eat ∷ field 5 e.channel ∷ []) refl)
    (makes_append (makes_run e.extension) (makes_octet (length e.services)))))

ensemble_makes : (e : EnsembleRow) → Makes (ensemble_fields e) (ensemble_row e)
unfolding ensemble_fields ensemble_row
ensemble_makes e = makes_append (ensemble_front_makes e) (makes_rows service_fields service_row service_makes e.services)

pub chunk_front_makes : (c : Chunk) → Makes (chunk_head c) (chunk_front c)
unfolding chunk_head chunk_front
chunk_front_makes c =
    makes_append (makes_byte (field 2 c.major ∷ field 3 c.minor ∷ field 3 c.h ∷ []) refl)
    (makes_append
    (makes_byte (field 3 c.e ∷ field 3 c.s ∷ field 1 c.reserved ∷ field 1 c.current ∷ []) refl)
    (makes_append (makes_word c.stream)
    (makes_append (makes_run c.extension) (makes_octet (length c.ensembles)))))

pub chunk_makes : (c : Chunk) → Makes (chunk_fields c) (chunk_row c)
unfolding chunk_fields chunk_row
chunk_makes c =
    makes_append (chunk_front_makes c)
    (makes_append (makes_rows ensemble_fields ensemble_row ensemble_makes c.ensembles) (makes_run c.stuffing))

pub wire-row : (c : Chunk) → Held (chunk_fields c) → wire c ≡ chunk_row c
unfolding wire
wire-row c h = bytes_made (chunk_makes c) h

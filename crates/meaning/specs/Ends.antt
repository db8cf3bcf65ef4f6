-- A chunk that ends early, in the words of the tables: which thing of it is the first that does not fit whole, and where that begins.
use Rattle.std.specs.Prelude.{ℕ, ◌+◌, ◌≤◌, ◌<◌, ◌≡◌, length}
use mathlib.Core.List.{List, ◌∷◌, ◌++◌, map, flat_map}
use Rattle.octets.specs.Bits.{Field, bytes_of}
use Rattle.meaning.specs.declared.Part.{Part}
use Rattle.meaning.specs.declared.Part.TheVariants.{Header, EnsembleFields, SingleService}
use Rattle.meaning.specs.Layout.{ServiceRow, service_fields, EnsembleRow, ensemble_head, Chunk, chunk_head, wire, Formed}

-- ---- what has to be in a chunk whole, in order: its header, and for each ensemble its fields and each of its services

pub record Thing : Type 0 where
  pub part : Part
  pub fields : List Field

abbrev pub thing_bytes : Thing → List ℕ
thing_bytes t = bytes_of t.fields

abbrev pub service_thing : ServiceRow → Thing
service_thing v = record { part = SingleService; fields = service_fields v }

unfoldable pub ensemble_things : EnsembleRow → List Thing
ensemble_things x = record { part = EnsembleFields; fields = ensemble_head x } ∷ map service_thing x.services

unfoldable pub things : Chunk → List Thing
things c = record { part = Header; fields = chunk_head c } ∷ flat_map ensemble_things c.ensembles

-- ---- of the things ts, laid end to end, n bytes hold all before the one of the part p at the offset at, and do not hold that one whole

pub record FirstCut (ts : List Thing) (n : ℕ) (p : Part) (at : ℕ) : Type 0 where
  pub before : List Thing
  pub thing : Thing
  pub after : List Thing
  pub order : ts ≡ before ++ thing ∷ after
  pub part : thing.part ≡ p
  pub offset : length (flat_map thing_bytes before) ≡ at
  pub whole : at ≤ n
  pub cut : n < at + length (thing_bytes thing)

-- ---- the bytes xs are the beginning of a chunk, of major version 0 where there are two of them, and that thing of it is the first that they do
-- not hold whole

pub record EndsIn (xs : List ℕ) (p : Part) (at : ℕ) : Type 0 where
  pub chunk : Chunk
  pub formed : Formed chunk
  pub lacking : List ℕ
  pub bytes : wire chunk ≡ xs ++ lacking
  pub major : 2 ≤ length xs → chunk.major ≡ 0
  pub first : FirstCut (things chunk) (length xs) p at

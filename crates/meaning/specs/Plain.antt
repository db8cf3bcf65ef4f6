-- A list as the oldest edition sends it, in the words of the tables: minor edition 0, no extensions, reserved bits ones, no stuffing; and nothing
-- inside an unknown ensemble.
use Rattle.std.specs.Prelude.{ℕ, ◌+◌, ◌*◌, ◌≡◌, [], map, length}
use Rattle.octets.specs.Bits.{Held}
use Rattle.octets.specs.Each.{Each}
use Rattle.meaning.specs.declared.Kind.{Kind}
use Rattle.meaning.specs.declared.Kind.TheVariants.{This}
use Rattle.meaning.specs.Sizes.{chunk_header_bytes, ensemble_bytes, service_bytes}
use Rattle.meaning.specs.Lists.{Service, Ensemble, known, unknown, FicList, current_of, services_of}
use Rattle.meaning.specs.Layout.{ServiceRow, EnsembleRow, Chunk, chunk_fields}

abbrev pub plain_service : Service → ServiceRow
plain_service v = record { id = v.id; reserved = 7; multi = v.multi; status = v.status; sp = v.sp; extension = [] }

abbrev pub plain_ensemble : Ensemble → EnsembleRow
plain_ensemble (known e) =
    record {
      id = e.id;
      reserved = 7;
      version = 0;
      slt = e.slt;
      gat = e.gat;
      eat = e.eat;
      channel = e.channel;
      extension = [];
      services = map plain_service e.services;
    }
plain_ensemble (unknown u) =
    record {
      id = u.id;
      reserved = 7;
      version = u.version;
      slt = 0;
      gat = 0;
      eat = 0;
      channel = 0;
      extension = [];
      services = [];
    }

abbrev pub plain : Kind → FicList → Chunk
plain k l =
    record {
      major = 0;
      minor = 0;
      h = 0;
      e = 0;
      s = 0;
      reserved = 1;
      current = current_of k;
      stream = l.stream;
      extension = [];
      ensembles = map plain_ensemble l.ensembles;
      stuffing = [];
    }

-- an unknown ensemble is of another version than 0
abbrev pub OfItsSort : Ensemble → Type 0
OfItsSort (known e) = Unit {0}
OfItsSort (unknown u) = u.version ≡ 0 → ⊥

-- every number of the list fits its field of the tables, the two counts too
abbrev pub Fits : FicList → Type 0
Fits l = Held (chunk_fields (plain This l)) × Each OfItsSort l.ensembles

-- how many bytes such a chunk has: 5 + 4 x ensembles + 3 x known services
abbrev pub plain_length : FicList → ℕ
plain_length l = chunk_header_bytes + ensemble_bytes * length l.ensembles + service_bytes * length (services_of l)

-- the chunk is of minor edition 0, with no extension and all reserved bits ones; its stuffing may be any
pub record Oldest (c : Chunk) : Type 0 where
  pub minor : c.minor ≡ 0
  pub header : c.h ≡ 0
  pub ensemble : c.e ≡ 0
  pub service : c.s ≡ 0
  pub reserved : c.reserved ≡ 1
  pub loops : Each (λ x. (x.reserved ≡ 7) × Each (λ v. v.reserved ≡ 7) x.services) c.ensembles

-- its ensembles are all of version 0
abbrev pub VersionsZero : Chunk → Type 0
VersionsZero c = Each (λ x. x.version ≡ 0) c.ensembles

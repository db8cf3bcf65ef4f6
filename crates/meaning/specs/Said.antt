-- Document 01, "The writer": which byte strings are well formed listings for it, and the list that one says. The records' layouts are those of
-- Listing.antt. An unknown ensemble can't be sent, so its record is not well formed here.
use Rattle.std.specs.Prelude.{ℕ, zero, suc, ◌*◌, ◌/◌, ◌%◌, Bool, true, ◌&&◌, List, [], ◌∷◌, leb, eqb, length, get_or, take, drop}
use Rattle.octets.specs.Same.{same}
use Rattle.octets.specs.Word.{word}
use Rattle.records.specs.Records.{mark_bytes}
use Rattle.meaning.specs.Sizes.{ts_bytes, en_bytes, sv_bytes, most_flags, most_channel, most_multi, most_status, most_sp}
use Rattle.meaning.specs.Lists.{Service, Known, Ensemble, known, FicList}
use Rattle.meaning.specs.Listing.{mark_ts, mark_en, mark_sv}

-- the record at the start of zs has the mark
abbrev pub marked : List ℕ → List ℕ → Bool
marked mark zs = same (take mark_bytes zs) mark

-- a record of n bytes with the mark stands at the start of zs
abbrev pub stands : List ℕ → ℕ → List ℕ → Bool
stands mark n zs = leb n (length zs) && marked mark zs

-- ---- a service's record at the start of zs, and n of them, of the ensemble with this id: each has to have it

unfoldable pub sv_fits : ℕ → List ℕ → Bool
sv_fits ensemble zs =
    stands mark_sv sv_bytes zs
    && (eqb (get_or zs 2 0) ensemble
    && (leb (get_or zs 5 0) most_multi
    && (leb (get_or zs 6 0) most_status
    && leb (get_or zs 7 0) most_sp)))

abbrev pub service_said : List ℕ → Service
service_said zs =
    record { id = word (get_or zs 3 0) (get_or zs 4 0); multi = get_or zs 5 0; status = get_or zs 6 0; sp = get_or zs 7 0 }

unfoldable pub services_fit : ℕ → ℕ → List ℕ → Bool
services_fit ensemble zero zs = true
services_fit ensemble (suc n) zs = sv_fits ensemble zs && services_fit ensemble n (drop sv_bytes zs)

unfoldable pub services_said : ℕ → List ℕ → List Service
services_said zero zs = []
services_said (suc n) zs = service_said zs ∷ services_said n (drop sv_bytes zs)

-- ---- an ensemble's record at the start of ys

unfoldable pub en_fits : List ℕ → Bool
en_fits ys = stands mark_en en_bytes ys && (leb (get_or ys 3 0) most_flags && leb (get_or ys 4 0) most_channel)

-- the id and how many services it says; what follows it, and what follows its services
abbrev pub id_said : List ℕ → ℕ
id_said ys = get_or ys 2 0

abbrev pub count_said : List ℕ → ℕ
count_said ys = get_or ys 5 0

abbrev pub after_en : List ℕ → List ℕ
after_en ys = drop en_bytes ys

abbrev pub after_services : List ℕ → List ℕ
after_services ys = drop (sv_bytes * count_said ys) (after_en ys)

abbrev pub ensemble_said : List ℕ → Known
ensemble_said ys =
    record {
      id = id_said ys;
      slt = get_or ys 3 0 / 4;
      gat = get_or ys 3 0 / 2 % 2;
      eat = get_or ys 3 0 % 2;
      channel = get_or ys 4 0;
      services = services_said (count_said ys) (after_en ys);
    }

-- ---- n ensembles with their services, and nothing after them

unfoldable pub ensembles_fit : ℕ → List ℕ → Bool
ensembles_fit zero ys = eqb (length ys) 0
ensembles_fit (suc n) ys = en_fits ys && (services_fit (id_said ys) (count_said ys) (after_en ys) && ensembles_fit n (after_services ys))

unfoldable pub ensembles_said : ℕ → List ℕ → List Ensemble
ensembles_said zero ys = []
ensembles_said (suc n) ys = known (ensemble_said ys) ∷ ensembles_said n (after_services ys)

-- ---- a listing: it is well formed; the list that it says

unfoldable pub listing_fits : List ℕ → Bool
listing_fits xs = stands mark_ts ts_bytes xs && ensembles_fit (get_or xs 4 0) (drop ts_bytes xs)

unfoldable pub list_said : List ℕ → FicList
list_said xs = record { stream = word (get_or xs 2 0) (get_or xs 3 0); ensembles = ensembles_said (get_or xs 4 0) (drop ts_bytes xs) }

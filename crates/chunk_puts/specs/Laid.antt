-- Internal: the bytes that are put for a listing's chunk, straight from the listing's bytes. No promise cites this; that they are those of the
-- chunk of its list is a law (writer/proofs/Chunks.antt).
use Rattle.std.specs.Prelude.{ℕ, zero, suc, ◌+◌, ◌*◌, ◌≤◌, List, [], ◌∷◌, ◌++◌, length, get_or, drop}
use Rattle.meaning.specs.declared.Kind.{Kind}
use Rattle.meaning.specs.Sizes.{ts_bytes, en_bytes, sv_bytes, most_flags, most_channel, most_multi, most_status, most_sp}
use Rattle.meaning.specs.Lists.{current_of}
use Rattle.meaning.specs.Said.{id_said, count_said, after_en, after_services}

-- what is asked of a service's record at the start of zs, so that its numbers have room
pub record ServiceSaid (zs : List ℕ) : Type 0 where
  pub there : sv_bytes ≤ length zs
  pub multi : get_or zs 5 0 ≤ most_multi
  pub status : get_or zs 6 0 ≤ most_status
  pub sp : get_or zs 7 0 ≤ most_sp

-- of a service's record at the start of zs, and of n of them
abbrev pub service_laid : List ℕ → List ℕ
service_laid zs = get_or zs 3 0 ∷ get_or zs 4 0 ∷ (224 + get_or zs 5 0 * 8 + get_or zs 6 0 * 2 + get_or zs 7 0) ∷ []

unfoldable pub services_laid : ℕ → List ℕ → List ℕ
services_laid zero zs = []
services_laid (suc n) zs = service_laid zs ++ services_laid n (drop sv_bytes zs)

-- and of an ensemble's record at the start of ys
pub record EnsembleSaid (ys : List ℕ) : Type 0 where
  pub there : en_bytes ≤ length ys
  pub flags : get_or ys 3 0 ≤ most_flags
  pub channel : get_or ys 4 0 ≤ most_channel

-- of an ensemble's record at the start of ys with its services, and of n of them
unfoldable pub ensemble_laid : List ℕ → List ℕ
ensemble_laid ys =
    (id_said ys ∷ 224 ∷ (get_or ys 3 0 * 32 + get_or ys 4 0) ∷ count_said ys ∷ []) ++ services_laid (count_said ys) (after_en ys)

unfoldable pub ensembles_laid : ℕ → List ℕ → List ℕ
ensembles_laid zero ys = []
ensembles_laid (suc n) ys = ensemble_laid ys ++ ensembles_laid n (after_services ys)

-- of a listing
unfoldable pub chunk_laid : Kind → List ℕ → List ℕ
chunk_laid k xs =
    (0 ∷ (2 + current_of k) ∷ get_or xs 2 0 ∷ get_or xs 3 0 ∷ get_or xs 4 0 ∷ []) ++ ensembles_laid (get_or xs 4 0) (drop ts_bytes xs)

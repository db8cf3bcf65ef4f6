-- Internal: how long the chunk of a listing is, counted from a place of the listing on. No promise cites this.
use Rattle.std.specs.Prelude.{ℕ, ◌+◌, ◌*◌, length}
use mathlib.Core.List.{List, flat_map}
use Rattle.meaning.specs.Sizes.{ensemble_bytes, service_bytes}
use Rattle.meaning.specs.Lists.{ensemble_services}
use Rattle.meaning.specs.Said.{ensembles_said}

-- how many bytes of a chunk the n ensembles take, with their services, whose records are at the start of ys
abbrev pub ensembles_length : ℕ → List ℕ → ℕ
ensembles_length n ys =
    ensemble_bytes * length (ensembles_said n ys) + service_bytes * length (flat_map ensemble_services (ensembles_said n ys))

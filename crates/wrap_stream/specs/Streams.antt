-- The statuses that the program `wrap` can have, by the payload size that it was given.
use Rattle.std.specs.Prelude.{ℕ, cond, List, [], ◌∷◌}
use Rattle.blocks.specs.Blocks.{run_statuses}
use Rattle.wrapper.specs.Wrap.{is_size}

abbrev pub wrap_statuses : ℕ → List ℕ
wrap_statuses size = cond (is_size size) run_statuses (18 ∷ [])

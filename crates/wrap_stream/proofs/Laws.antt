-- The statuses of the program `wrap`. Assumes nothing.
use mathlib.Core.Path.{◌≡◌}
use mathlib.Core.Bool.{true, false}
use Prim.Native.Nat.{ℕ}
use lib.Dec.{T}
use Rattle.octets.specs.Checks.{among}
use Rattle.manners.specs.declared.Ending.{Ending}
use Rattle.manners.specs.Manners.{status_of}
use Rattle.blocks.specs.Blocks.{run_statuses}
use Rattle.wrapper.specs.Wrap.{is_size}
use Rattle.wrap_stream.specs.Streams.{wrap_statuses}

pub status_sized : (size : ℕ) (r : Ending) → is_size size ≡ true → T (among run_statuses (status_of r)) → T (among (wrap_statuses size) (status_of r))
status_sized size r t h = rw t h

pub status-other : (size : ℕ) → is_size size ≡ false → T (among (wrap_statuses size) 18)
status-other size t = rw t tt

-- `chunk_puts::put_ensemble` meets its contract: the four bytes of the ensemble itself are put as a whole, and its services' bytes behind them.
-- Assumes nothing.
use native.Mathlib.Omega.{arith}
use Prim.Native.Nat.{◌+◌, ◌-◌}
use Rattle.octets.proofs.Stores.{put_mid-sets}
use Rattle.meaning.specs.Sizes.{ensemble_bytes, en_bytes}
use Rattle.listing_checks.proofs.Checks.{behind}
use Rattle.chunk_puts.proofs.Laws.{ensemble-stored}
use Rattle.chunk_puts.proofs.put_ensemble.Goals as goal

pub returns : goal.returns
returns c = let a = c.args in
    let head = put_mid-sets a.to (a.to + ensemble_bytes - a.to) a.chunk.now _ _ c.copy_from_slice.ensures.after (omega arith) (omega (arith, c.requires.room)) in
    ensemble-stored a.record.now _ a.chunk.now _ _ a.to head (behind en_bytes a.record.now) c.put_services.ensures

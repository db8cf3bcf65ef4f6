-- `segments::put_payload` meets its contract: a part written as a whole is a run of stores. Assumes nothing.
use native.Mathlib.Omega.{arith}
use Rattle.octets.proofs.Stores.{put_mid-sets}
use Rattle.segments.proofs.put_payload.Goals as goal

pub returns : goal.returns
returns c = let a = c.args in
    put_mid-sets a.place _ a.to.now _ a.payload c.copy_from_slice.ensures.after (omega arith) (omega arith)

-- `octets::put_mark` meets its contract: a part written as a whole is a run of stores. Assumes nothing.
use native.Mathlib.Omega.{arith}
use Rattle.octets.proofs.Stores.{put_mid-sets}
use Rattle.octets.proofs.put_mark.Goals as goal

pub returns : goal.returns
returns c = let a = c.args in
    put_mid-sets a.at _ a.out.now _ a.mark c.copy_from_slice.ensures.after (omega arith) (omega arith)

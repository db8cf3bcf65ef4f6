-- `desk::Desk::show` meets its contract: so much of the buffer that serves. Assumes nothing.
use native.Mathlib.Omega.{arith}
use Rattle.desk.proofs.Laws.{shown-fits, shown_is}
use Rattle.desk.proofs.Desk.show.Goals as goal

pub part-requires : goal.part-requires
part-requires c = omega (arith, c.shown_length-length.ensures, shown-fits c.args.kind c.args.self c.args.first.now c.args.second.now)

pub returns : goal.returns
returns c = record { result_value = shown_is _ _ _ _ _ _ c.shown_length-length.ensures c.part.ensures.result_value; ref_ptr_value = c.part.ensures.ref_ptr_value }

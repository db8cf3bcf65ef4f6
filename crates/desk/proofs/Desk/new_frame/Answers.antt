-- `desk::Desk::new_frame` meets its contract: fresh, or the frame's numbers and no bytes. Assumes nothing.
use mathlib.Core.Path.{ap, ◌∙◌}
use mathlib.Core.Bool.{cond}
use mathlib.Core.List.{◌++◌}
use Rattle.slots.specs.Slots.{no_bytes}
use Rattle.notes.specs.declared.Notes.{Notes}
use Rattle.desk.specs.Desks.{desk, fresh, well_formed, new_frame}
use Rattle.desk.proofs.Desk.new_frame.Goals as goal

pub returns : goal.returns
unfolding new_frame
returns c = c.emptied.ensures ∙ ap (λ (m : Notes). cond (well_formed c.args.self) (desk m (no_bytes ++ no_bytes)) fresh) c.frame.ensures

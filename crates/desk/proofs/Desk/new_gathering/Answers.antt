-- `desk::Desk::new_gathering` meets its contract: fresh, or the gathering's numbers and no bytes. Assumes nothing.
use mathlib.Core.Path.{ap, ◌∙◌}
use mathlib.Core.Bool.{cond}
use mathlib.Core.List.{◌++◌}
use Rattle.slots.specs.Slots.{no_bytes}
use Rattle.notes.specs.declared.Notes.{Notes}
use Rattle.desk.specs.Desks.{desk, fresh, well_formed, new_gathering}
use Rattle.desk.proofs.Desk.new_gathering.Goals as goal

pub returns : goal.returns
unfolding new_gathering
returns c = c.emptied.ensures ∙ ap (λ (m : Notes). cond (well_formed c.args.self) (desk m (no_bytes ++ no_bytes)) fresh) c.gathering.ensures

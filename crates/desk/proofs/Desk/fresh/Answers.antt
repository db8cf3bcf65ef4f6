-- `desk::Desk::fresh` meets its contract. Assumes nothing.
use mathlib.Core.Path.{ap, ◌∙◌}
use mathlib.Core.List.{◌++◌}
use Rattle.slots.specs.Slots.{no_bytes}
use Rattle.notes.specs.declared.Notes.{Notes}
use Rattle.desk.specs.Desks.{desk}
use Rattle.desk.proofs.Desk.fresh.Goals as goal

pub returns : goal.returns
returns c = c.bare.ensures ∙ ap (λ (m : Notes). desk m (no_bytes ++ no_bytes)) c.emptied-notes.ensures

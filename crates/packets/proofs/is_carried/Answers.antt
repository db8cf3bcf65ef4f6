-- `packets::is_carried` meets its contract: by what stands there. Assumes nothing.
use mathlib.Core.Path.{sym, ◌∙◌}
use mathlib.Core.Logic.{⊎_elim}
use Rattle.packets.proofs.Laws.{whole_is}
use Rattle.packets.proofs.is_carried.Goals as goal

pub returns-in-Whole : goal.returns-in-Whole
returns-in-Whole c = whole_is c.args.packet.now _ (sym c.in-Whole.ensures)

pub returns-in-Running : goal.returns-in-Running
returns-in-Running c = ⊎_elim (λ e. whole_is c.args.packet.now _ (sym c.start_of.ensures ∙ e)) (λ e. whole_is c.args.packet.now _ (sym c.start_of.ensures ∙ e)) c.in-Running.is

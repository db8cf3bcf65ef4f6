-- `segments::copy_payload` meets its contract: what is put is what was taken. Assumes nothing.
use mathlib.Core.Path.{ap, ◌∙◌}
use lib.Seq.{sets}
use Rattle.segments.proofs.copy_payload.Goals as goal

pub returns : goal.returns
returns c = let a = c.args in
    c.put_payload.ensures ∙ ap (sets a.to.now a.place) c.payload_at.ensures

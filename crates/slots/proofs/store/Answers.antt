-- `slots::store` meets its contract: the 35 bytes after a segment's header are its payload. Assumes nothing.
use mathlib.Core.Path.{ap, ◌∙◌}
use lib.Seq.{sets}
use Rattle.segments.proofs.Places.{part_payload}
use Rattle.slots.proofs.store.Goals as goal

pub returns : goal.returns
returns c = c.copy_payload.ensures ∙ ap (sets c.args.bytes.now c.args.at) (part_payload c.args.seg.now c.requires.1)

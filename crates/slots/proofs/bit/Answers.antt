-- `slots::bit` meets its contract: nothing is shifted out. Assumes nothing.
use Rattle.octets.proofs.Sets.{bit_exact}
use Rattle.segments.specs.Segment.{most_segments}
use Rattle.slots.proofs.bit.Goals as goal

pub returns : goal.returns
returns c = bit_exact most_segments c.args.place c.requires

-- `segment_puts::move_segment` meets its contract: the piece that was taken is put behind the header's place, and two stores are the header. Assumes nothing.
use Rattle.segment_puts.proofs.Laws.{segment-stored}
use Rattle.segment_puts.proofs.move_segment.Goals as goal

pub returns : goal.returns
returns c = let a = c.args in
    segment-stored a.kind a.last a.out.now _ _ a.number _ _ c.from.ensures c.payload_at-payload.ensures c.put_payload.ensures

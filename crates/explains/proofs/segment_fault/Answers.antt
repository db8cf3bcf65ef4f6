-- `explains::segment_fault` meets its contract: a row ends within the two bytes of the header. Assumes nothing.
use native.Mathlib.Omega.{arith}
use Rattle.fields.proofs.Rows.{segment-row-ends}
use Rattle.explains.proofs.segment_fault.Goals as goal

pub row_fault-requires : goal.row_fault-requires
row_fault-requires c = let row = c.segment_row.ensures.upper_bound in
    let ends = segment-row-ends c.segment_row.result row in
    (row, omega (arith, ends), omega (arith, ends, c.requires c.in_default.not-SegmentLength))

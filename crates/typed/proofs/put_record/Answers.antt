-- `typed::put_record` meets its contract: the mark is put first, and the segment behind it as a whole. Assumes nothing.
use mathlib.Core.Path.{◌≡◌, ap, ◌∙◌}
use Prim.Native.Nat.{ℕ, ◌+◌, ◌-◌}
use lib.ListN.{take, drop}
use native.Mathlib.Omega.{arith}
use Rattle.octets.proofs.Stores.{sets_behind, put_mid-sets}
use Rattle.text.specs.Text.{text}
use Rattle.records.specs.Records.{mark_bytes}
use Rattle.segments.specs.Segment.{segment_bytes}
use Rattle.typed.proofs.Logs.{segment_at, length_segment_at}
use Rattle.typed.proofs.put_record.Goals as goal

pub returns : goal.returns
returns c = let a = c.args in
    let segment = segment_at a.segments.now a.from in
    let long = length_segment_at a.segments.now a.from c.requires.0 in
    let size : a.from + segment_bytes - a.from ≡ segment_bytes = omega arith in
    let own = c.copy_from_slice.ensures.after ∙ ap (λ (k : ℕ). take k (drop a.from a.segments.now)) size in
    put_mid-sets (a.to + mark_bytes) _ c.put_mark.new.out _ segment own (omega (arith, long)) (omega (arith, long, c.requires.1, c.put_mark.auto.out))
    ∙ sets_behind (text "SG") segment a.log.now _ a.to c.put_mark.ensures

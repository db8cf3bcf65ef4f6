-- `tunnel::accept` meets its contract: 17, or what the payload gives. Assumes nothing.
use mathlib.Core.Path.{sym, ◌∙◌}
use native.Mathlib.Omega.{arith}
use lib.ListN.{length-drop}
use Rattle.rtp.specs.Header.{header_bytes}
use Rattle.tunnel.proofs.Accepted.{payload_all, numbered, held_inside, accept_drops, lost_most, accept_reads}
use Rattle.tunnel.proofs.accept.Goals as goal

pub returns-then-is_outside : goal.returns-then-is_outside
returns-then-is_outside c = let a = c.args in
    let n =
    numbered a.numbers a.part.now a.outer.now _ _ _ _ _ c.sequence_of-sequence.ensures c.gap_before-gap.ensures c.held-held.ensures c.marker_of-marked.ensures c.start_in-start.ensures in
    accept_drops a.numbers a.part.now a.outer.now a.out.now _ _ _ _ _ n _ (payload_all a.outer.now) (sym c.is_outside.ensures ∙ c.if-is_outside.true)

pub returns : goal.returns
returns c = let a = c.args in
    let n =
    numbered a.numbers a.part.now a.outer.now _ _ _ _ _ c.sequence_of-sequence.ensures c.gap_before-gap.ensures c.held-held.ensures c.marker_of-marked.ensures c.start_in-start.ensures in
    accept_reads a.numbers a.part.now a.outer.now a.out.now _ _ _ _ _ n _ (payload_all a.outer.now) _ c.kept_over-kept.ensures (sym c.is_outside.ensures ∙ c.if-is_outside.false) _ _ _ _ _ c.read_behind-g.ensures

pub overflow_add-lost-2 : goal.overflow_add-lost-2
overflow_add-lost-2 c = let a = c.args in
    let n =
    numbered a.numbers a.part.now a.outer.now _ _ _ _ _ c.sequence_of-sequence.ensures c.gap_before-gap.ensures c.held-held.ensures c.marker_of-marked.ensures c.start_in-start.ensures in
    omega (arith, lost_most a.numbers a.part.now a.outer.now a.out.now _ _ _ _ _ n _ (payload_all a.outer.now) _ c.kept_over-kept.ensures (sym c.is_outside.ensures ∙ c.if-is_outside.false) _ _ _ _ _ c.read_behind-g.ensures, held_inside a.numbers a.part.now a.outer.now a.out.now _ _ _ _ _ n _ (payload_all a.outer.now), c.told-part, length-drop header_bytes a.outer.now, c.requires.1)

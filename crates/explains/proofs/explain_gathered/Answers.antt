-- `explains::explain_gathered` meets its contract, by what the checks on the segment itself give. Assumes nothing.
use mathlib.Core.Path.{sym, ap, ◌∙◌}
use native.Mathlib.Omega.{arith}
use Rattle.std.proofs.Common.{Result, Some}
use Rattle.meaning.specs.declared.Refusal.{Refusal}
use Rattle.meaning.specs.Numbers.{checked_number}
use Rattle.explains.specs.Explaining.{segment_by, clash_explained, gathered_explained}
use Rattle.explains.proofs.Laws.{segment_whole, refused}
use Rattle.explains.proofs.explain_gathered.Goals as goal

pub explain_clash-requires : goal.explain_clash-requires
explain_clash-requires c = segment_whole c.args.seg.now (λ e. cc (e, c.in-Ok.is, c.check_segment.ensures))

pub segment_fault-requires : goal.segment_fault-requires
segment_fault-requires c = λ other. omega (arith, segment_whole c.args.seg.now (λ e. other (cc (e, c.in-Err.is, c.check_segment.ensures))))

pub returns-in-Ok : goal.returns-in-Ok
unfolding gathered_explained
returns-in-Ok c = let a = c.args in
    c.explain_clash.ensures ∙ ap (λ (v : Result Unit Refusal). segment_by (checked_number v) (clash_explained a.slot a.bytes.now a.seg.now) a.seg.now) (sym c.in-Ok.is ∙ c.check_segment.ensures)

pub returns-in-Err : goal.returns-in-Err
unfolding gathered_explained
returns-in-Err c = let a = c.args in
    let passed = clash_explained a.slot a.bytes.now a.seg.now in
    ap Some c.segment_fault.ensures
    ∙ refused c.in-Err.refusal passed a.seg.now
    ∙ ap (λ (v : Result Unit Refusal). segment_by (checked_number v) passed a.seg.now) (sym c.in-Err.is ∙ c.check_segment.ensures)

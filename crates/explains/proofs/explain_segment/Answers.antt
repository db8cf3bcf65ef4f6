-- `explains::explain_segment` meets its contract, by what the checks give. Assumes nothing.
use mathlib.Core.Path.{sym, ap, ◌∙◌}
use native.Mathlib.Omega.{arith}
use Rattle.std.proofs.Common.{Result, None, Some}
use Rattle.meaning.specs.declared.Refusal.{Refusal}
use Rattle.meaning.specs.Numbers.{checked_number}
use Rattle.explains.specs.Explaining.{segment_by, segment_explained}
use Rattle.explains.proofs.Laws.{segment_whole, refused}
use Rattle.explains.proofs.explain_segment.Goals as goal

pub segment_fault-requires : goal.segment_fault-requires
segment_fault-requires c = λ other. omega (arith, segment_whole c.args.seg.now (λ e. other (cc (e, c.in-Err.is, c.check_segment.ensures))))

pub returns-in-Ok : goal.returns-in-Ok
unfolding segment_explained
returns-in-Ok c = ap (λ (v : Result Unit Refusal). segment_by (checked_number v) None c.args.seg.now) (sym c.in-Ok.is ∙ c.check_segment.ensures)

pub returns-in-Err : goal.returns-in-Err
unfolding segment_explained
returns-in-Err c =
    ap Some c.segment_fault.ensures
    ∙ refused c.in-Err.refusal None c.args.seg.now
    ∙ ap (λ (v : Result Unit Refusal). segment_by (checked_number v) None c.args.seg.now) (sym c.in-Err.is ∙ c.check_segment.ensures)

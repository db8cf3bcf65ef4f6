-- `notes::part` meets its contract: it is a part of the first buffer, or of the second. Assumes nothing.
use mathlib.Core.Path.{sym, ◌∙◌, subst}
use mathlib.Core.Bool.{Bool, cond}
use Prim.Native.Nat.{◌≤◌}
use lib.ListN.{length, take}
use lib.Seq.{length-take-le}
use Rattle.notes.proofs.part.Goals as goal

pub slice_bounds-result-end : goal.slice_bounds-result-end
slice_bounds-result-end c = let e = sym c.if-first_serves.true ∙ c.first_serves.ensures in
    sym (length-take-le _ _ (subst (λ (mine : Bool). c.args.length ≤ length (cond mine c.args.first.now c.args.second.now)) (sym e) c.requires))

pub slice_bounds-result-end-else-first_serves : goal.slice_bounds-result-end-else-first_serves
slice_bounds-result-end-else-first_serves c = let e = sym c.if-first_serves.false ∙ c.first_serves.ensures in
    sym (length-take-le _ _ (subst (λ (mine : Bool). c.args.length ≤ length (cond mine c.args.first.now c.args.second.now)) (sym e) c.requires))

pub returns-then-first_serves : goal.returns-then-first_serves
returns-then-first_serves c = let e = sym c.if-first_serves.true ∙ c.first_serves.ensures in
    record {
      result_value = λ i. take c.args.length (cond (e i) c.args.first.now c.args.second.now);
      ref_ptr_value = λ i. cond (e i) c.args.first.ref_ptr c.args.second.ref_ptr;
    }

pub returns-else-first_serves : goal.returns-else-first_serves
returns-else-first_serves c = let e = sym c.if-first_serves.false ∙ c.first_serves.ensures in
    record {
      result_value = λ i. take c.args.length (cond (e i) c.args.first.now c.args.second.now);
      ref_ptr_value = λ i. cond (e i) c.args.first.ref_ptr c.args.second.ref_ptr;
    }

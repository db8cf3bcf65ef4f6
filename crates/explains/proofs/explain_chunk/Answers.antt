-- `explains::explain_chunk` meets its contract, by what the checks give. Assumes nothing.
use mathlib.Core.Path.{sym, ap, ◌∙◌}
use Rattle.std.proofs.Common.{Result}
use Rattle.meaning.specs.declared.Refusal.{Refusal}
use Rattle.explains.specs.Explaining.{chunk_by, chunk_explained}
use Rattle.explains.proofs.explain_chunk.Goals as goal

pub returns-in-Ok : goal.returns-in-Ok
unfolding chunk_explained
returns-in-Ok c = ap (λ (v : Result Unit Refusal). chunk_by v c.args.chunk.now) (sym c.in-Ok.is ∙ c.check_chunk.ensures)

pub returns-in-Err : goal.returns-in-Err
unfolding chunk_explained
returns-in-Err c = c.chunk_fault.ensures ∙ ap (λ (v : Result Unit Refusal). chunk_by v c.args.chunk.now) (sym c.in-Err.is ∙ c.check_chunk.ensures)

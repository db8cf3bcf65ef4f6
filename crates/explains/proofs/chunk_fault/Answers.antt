-- `explains::chunk_fault` meets its contract, refusal by refusal. Assumes nothing.
use mathlib.Core.Path.{ap, ◌∙◌}
use native.Mathlib.Omega.{arith}
use Rattle.std.proofs.Common.{Err}
use Rattle.octets.specs.Tables.{before}
use Rattle.meaning.proofs.Ends.{told_within}
use Rattle.explains.proofs.Laws.{not_too_long, major_whole}
use Rattle.explains.proofs.chunk_fault.Goals as goal

pub cut_fault-requires : goal.cut_fault-requires
cut_fault-requires c = let a = c.args in
    let is = c.requires ∙ ap Err c.in-EndsEarly.is in
    (told_within a.chunk.now is, not_too_long a.chunk.now (λ e. omega arith) is)

pub row_fault-requires : goal.row_fault-requires
unfolding before
row_fault-requires c = let two = major_whole c.args.chunk.now (c.requires ∙ ap Err c.in-OtherMajor.is) in (omega arith, omega arith, omega arith)

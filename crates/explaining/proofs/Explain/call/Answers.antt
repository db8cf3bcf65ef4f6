-- `explaining::Explain::call` meets its contract: under the line of a new frame or a new gathering nothing is explained. Assumes nothing.
use Rattle.std.proofs.Common.{refl, ap}
use Rattle.text.proofs.Adds.{adds_same}
use Rattle.explain_lines.specs.Lines.{chunk_lines}
use Rattle.programs.proofs.Alone.{all_behind}
use Rattle.replay.specs.Seen.{seen}
use Rattle.explaining.proofs.Laws.{says_chunk, says_frame, says_gathering}
use Rattle.explaining.proofs.Explain.call.Goals as goal

pub returns-in-17224-clause-says : goal.returns-in-17224-clause-says
returns-in-17224-clause-says c =
    let a = c.args in
    says_chunk (seen a.self.now.replay) a.mark a.content.now _ a.out.now _ c.in-17224.is refl (adds_same (ap chunk_lines (all_behind 2 a.content.now)) c.put_chunk.ensures)

pub returns-in-18002-clause-says : goal.returns-in-18002-clause-says
returns-in-18002-clause-says c =
    let a = c.args in
    says_frame (seen a.self.now.replay) a.mark a.content.now _ a.out.now _ c.in-18002.is c.call.ensures.says

pub returns-in-18241-clause-says : goal.returns-in-18241-clause-says
returns-in-18241-clause-says c =
    let a = c.args in
    says_gathering (seen a.self.now.replay) a.mark a.content.now _ a.out.now _ c.in-18241.is c.call-in-18241.ensures.says

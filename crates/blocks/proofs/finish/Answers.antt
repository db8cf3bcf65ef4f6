-- `blocks::finish` meets its contract: what comes last stands at the starts of the output and the report, and the run is concluded. Assumes nothing.
use Rattle.std.proofs.Common.{refl, subst}
use Rattle.records.specs.declared.Entry.{Entry}
use Rattle.blocks.specs.Blocks.{Concludes}
use Rattle.blocks.specs.Channels.{LastSaid}
use Rattle.blocks.proofs.Laws.{stands-unread}
use Rattle.blocks.proofs.Channels.{last_said}
use Rattle.blocks.proofs.finish.Goals as goal

pub returns : goal.returns
returns g c =
    let p = g.P.Borrower in
    let a = c.args in
    let stands = stands-unread p.channels.forms a.block.now a.at a.have c.requires.at_le_have.0 c.requires.at_le_have.1 _ c.entry_at-entry.ensures.entry in
    let said = last_said p.channels (p.seen a.program.now) _ a.out.now a.report.now _ _ _ _ c.put_last-put.ensures in (
      subst (λ (e : Entry). Concludes a.step e c.conclude-ending.result) stands c.conclude-ending.ensures,
      subst (λ (e : Entry). LastSaid p.channels (p.seen a.program.now) e c.put_last-put.new.out c.put_last-put.new.report) stands said,
      refl,
      refl,
      refl,
    )

-- `programs::fill` meets its contract. Assumes nothing.
use Rattle.std.proofs.Common.{arith, sym, ap, ◌∙◌, ◌≡◌, ◌<◌, ◌-◌, ◌+◌, ◌≤◌, length, drop, refl}
use Rattle.records.specs.Records.{entry_in, is_whole}
use Rattle.records.specs.declared.Entry.TheVariants.{Whole}
use Rattle.records.proofs.Entries.{entry_by}
use Rattle.programs.proofs.Filling.{not_whole, record_there, doing_full, doing_stops, doing_more}
use Rattle.programs.proofs.fill.Goals as goal

pub loop-out-preserved : goal.loop-out-preserved
loop-out-preserved g c =
    let l = c.loop-out in
    let forms = g.P.Borrower.channels.forms in
    let file = c.args.file.now in
    let stands = sym c.in-Whole.is ∙ entry_by forms (drop l.read file) _ _ _ c.mark_at-mark.ensures c.form_of.ensures.form c.entry_at.ensures in
    let room : g.P.Borrower.channels.longest ≤ length l.out - (l.wrote + l.told) = omega (arith, c.longest.ensures) in
    record {
      doing =
          doing_more g.P.Borrower.channels _ _ _ _ _ _ _ _ _ _ l.invariant.doing c.in-Whole.size stands _ (record_there forms file l.read c.in-Whole.size stands _ c.mark_at-mark.ensures) _ _ _ _ _ c.take-put.ensures.takes room;
      ready = c.take-put.ensures.ready;
      same_memories = c.take-put.ensures.same_memories ∙ l.invariant.same_memories;
    }

pub returns-in-End : goal.returns-in-End
returns-in-End g c =
    let l = c.loop-out in
    let forms = g.P.Borrower.channels.forms in
    let stands = entry_by forms (drop l.read c.args.file.now) _ _ _ c.mark_at-mark.ensures c.form_of.ensures.form c.entry_at.ensures in
    record { fills = doing_stops g.P.Borrower.channels _ _ _ _ _ _ _ _ _ _ l.invariant.doing (ap is_whole (sym stands) ∙ not_whole c.in-End.is); ready = l.invariant.ready; same_memories = l.invariant.same_memories; inside = (omega arith, l.invariant.doing.told_inside) }

pub returns-clause-fills : goal.returns-clause-fills
returns-clause-fills g c =
    let l = c.loop-out in
    let full : length l.out - (l.wrote + l.told) < g.P.Borrower.channels.longest = omega (arith, c.longest.ensures) in
    doing_full g.P.Borrower.channels _ _ _ _ _ _ _ _ _ _ l.invariant.doing full

-- `replay::Replay::segment` meets its contract: the desk driven, and the lines of its answer. Assumes nothing.
use Rattle.std.proofs.Common.{Ok, sym, ap, ◌∙◌}
use Rattle.slots.specs.declared.Answer.{Answer}
use Rattle.text.proofs.Adds.{adds_same}
use Rattle.lines.proofs.Laws.{missing_lines, refused_lines}
use Rattle.replay.specs.Seen.{desk_of}
use Rattle.replay.proofs.Laws.{answer_is, listed_room, listed_small, listed_same}
use Rattle.replay.proofs.Replay.segment.Goals as goal

pub listing-requires : goal.listing-requires
listing-requires c =
    let a = c.args.self.now in
    rw c.anew-self.ensures
    (listed_room (desk_of a) c.args.seg.now a.first.now a.second.now _ c.drive-driven.ensures _ _ (c.in-Ok-NewList.is ∙ ap (λ (x : Answer). Ok x) (rw c.in-Ok-NewList.is at c.in-Ok-NewList.field-0-is)))

pub put_list-requires : goal.put_list-requires
put_list-requires c =
    let a = c.args.self.now in
    (listed_small (desk_of a) c.args.seg.now a.first.now a.second.now _ c.drive-driven.ensures _ _ (c.in-Ok-NewList.is ∙ ap (λ (x : Answer). Ok x) (rw c.in-Ok-NewList.is at c.in-Ok-NewList.field-0-is)) _ (rw c.anew-self.ensures at c.listing.ensures), c.requires.longest_lines_in_bounds)

pub returns-in-Ok-NewList-clause-put : goal.returns-in-Ok-NewList-clause-put
returns-in-Ok-NewList-clause-put c =
    let a = c.args.self.now in
    rw c.anew-self.ensures
    (adds_same (listed_same (desk_of a) c.args.seg.now a.first.now a.second.now _ c.drive-driven.ensures _ _ (c.in-Ok-NewList.is ∙ ap (λ (x : Answer). Ok x) (rw c.in-Ok-NewList.is at c.in-Ok-NewList.field-0-is)) _ (rw c.anew-self.ensures at c.listing.ensures)) c.put_list.ensures)

pub returns-in-Ok-Missing-clause-put : goal.returns-in-Ok-Missing-clause-put
returns-in-Ok-Missing-clause-put c =
    let a = c.args.self.now in
    let is = answer_is (desk_of a) c.args.seg.now a.first.now a.second.now _ c.drive-driven.ensures in
    adds_same (missing_lines _ _ _ (sym is ∙ c.in-Ok-Missing.is ∙ ap (λ (x : Answer). Ok x) (rw c.in-Ok-Missing.is at c.in-Ok-Missing.field-0-is))) c.put_missing.ensures

pub returns-in-Err-clause-answer_value : goal.returns-in-Err-clause-answer_value
returns-in-Err-clause-answer_value c =
    let a = c.args.self.now in
    answer_is (desk_of a) c.args.seg.now a.first.now a.second.now _ c.drive-driven.ensures

pub returns-in-Err-clause-put : goal.returns-in-Err-clause-put
returns-in-Err-clause-put c =
    let a = c.args.self.now in
    let is = answer_is (desk_of a) c.args.seg.now a.first.now a.second.now _ c.drive-driven.ensures in
    adds_same (refused_lines _ _ _ (sym is ∙ c.in-Err.is)) c.put_refused.ensures

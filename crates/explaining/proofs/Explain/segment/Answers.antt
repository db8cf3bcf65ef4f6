-- `explaining::Explain::segment` meets its contract: the lines of its answer, and the explanation under them. Assumes nothing.
use mathlib.Core.Path.{ap}
use Rattle.std.proofs.Common.{Option}
use native.Mathlib.Omega.{arith}
use mathlib.Core.List.{◌++◌}
use Rattle.std.proofs.Common.{Option}
use Rattle.text.proofs.Adds.{adds_both, adds_same, room_left}
use Rattle.segments.specs.Segment.{segment_kind}
use Rattle.lines.specs.Lines.{answer_lines}
use Rattle.explains.specs.declared.Explained.{Explained}
use Rattle.desk.specs.Desks.{shown, segment_after}
use Rattle.desk.proofs.Parts.{length-desk}
use Rattle.explain_lines.specs.Lines.{explained_line}
use Rattle.replay.specs.Seen.{desk_of}
use Rattle.explaining.proofs.Segments.{answer_room, left_length, left_last, under_is}
use Rattle.explaining.proofs.Explain.segment.Goals as goal

pub explain_before-before-requires : goal.explain_before-before-requires
explain_before-before-requires c = length-desk (desk_of c.args.self.now.replay) c.requires.ready.0

pub explain_answer-explained-requires : goal.explain_answer-explained-requires
explain_answer-explained-requires c =
    let a = c.args.self.now.replay in
    let left = c.segment-answer.ensures.left.0 in
    (left_length (desk_of a) c.args.seg.now a.first.now a.second.now c.requires.ready.0 left, left_last (desk_of a) c.args.seg.now a.first.now a.second.now c.requires.ready.0 left c.kind_in-kind.result)

pub put_explained-requires : goal.put_explained-requires
put_explained-requires c =
    let a = c.args.self.now.replay in
    let s = c.segment-answer in
    room_left s.ensures.put _ _ (omega (arith, answer_room (desk_of a) c.args.seg.now a.first.now a.second.now (desk_of s.new.self) s.new.self.first.now s.new.self.second.now)) c.requires.longest_text_in_bounds

pub returns-clause-put : goal.returns-clause-put
returns-clause-put c =
    let a = c.args.self.now.replay in
    let xs = c.args.seg.now in
    let s = c.segment-answer in
    let explained = under_is (desk_of a) xs a.first.now a.second.now c.kind_in-kind.ensures s.ensures.left.0 s.ensures.answer_value c.explain_before-before.ensures c.explain_answer-explained.ensures in
    let front = answer_lines (segment_after (desk_of a) xs a.first.now a.second.now).answer (shown (segment_kind xs) (desk_of s.new.self) s.new.self.first.now s.new.self.second.now) in
    adds_same (ap (λ (e : Option Explained). front ++ explained_line e) explained) (adds_both s.ensures.put c.put_explained.ensures)

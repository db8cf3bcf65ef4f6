-- `reports::put_report` meets its contract: nothing, or the mark, a space, the number, the words and the end of the line. Assumes nothing.
use mathlib.Core.Path.{sym, ◌∙◌}
use mathlib.Core.List.{List}
use Prim.Native.Nat.{ℕ, ◌≤◌}
use native.Mathlib.Omega.{arith}
use lib.ListN.{length, length-append}
use Rattle.text.specs.declared.Output.{Output}
use Rattle.text.specs.Output.{HasRoom, Adds}
use Rattle.text.specs.Text.{text, decimal}
use Rattle.text.proofs.Laws.{length_wide}
use Rattle.text.proofs.Adds.{adds_both, adds_same, adds_none, room_left}
use Rattle.reports.specs.Reports.{said_of, longest_report}
use Rattle.reports.proofs.Laws.{length-said, report_none, report_some}
use Rattle.reports.proofs.put_report.Goals as goal

-- the room behind the mark and the space
rest_room : {mark : List ℕ} {o p q : Output} → Adds mark o p → Adds (text " ") p q → length mark ≤ 2 → HasRoom longest_report o → HasRoom 125 q
rest_room a b few room = room_left b 126 125 (omega arith) (room_left a _ 126 (omega (arith, few)) room)

pub returns-then-is_silent : goal.returns-then-is_silent
returns-then-is_silent c = let a = c.args in
    adds_same (report_none a.mark.now a.n (said_of a.said) (sym c.is_silent.ensures ∙ c.if-is_silent.true)) (adds_none a.out.now)

pub put-requires-2 : goal.put-requires-2
put-requires-2 c = room_left c.put.ensures _ 1 (omega (arith, c.requires.0)) c.requires.1

pub number-requires : goal.number-requires
number-requires c = omega (arith, length_wide c.args.n (omega arith), rest_room c.put.ensures c.put-2.ensures c.requires.0 c.requires.1)

pub put-requires-3 : goal.put-requires-3
put-requires-3 c =
    room_left c.number.ensures _ 79 (omega (arith, length_wide c.args.n (omega arith))) (rest_room c.put.ensures c.put-2.ensures c.requires.0 c.requires.1)

pub put-requires-4 : goal.put-requires-4
put-requires-4 c = let s = c.args.said in
    room_left (adds_both c.number.ensures c.put-3.ensures) _ 1
    (
    omega (
      arith,
      length-append (decimal c.args.n) (said_of s),
      length_wide c.args.n (omega arith),
      length-said s.number s.repeat s.gap s.lost (omega arith) (omega arith) (omega arith),
    )
    )
    (rest_room c.put.ensures c.put-2.ensures c.requires.0 c.requires.1)

pub returns : goal.returns
returns c = let a = c.args in
    adds_same (report_some a.mark.now a.n (said_of a.said) (sym c.is_silent.ensures ∙ c.if-is_silent.false)) (adds_both c.put.ensures (adds_both c.put-2.ensures (adds_both c.number.ensures (adds_both c.put-3.ensures c.put-4.ensures))))

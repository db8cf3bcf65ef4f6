-- `reports::Said::put` meets its contract: the four pieces come one after the other. Assumes nothing.
use mathlib.Core.List.{◌++◌}
use native.Mathlib.Omega.{arith}
use lib.ListN.{length-append}
use Rattle.text.specs.Text.{text}
use Rattle.text.proofs.Adds.{adds_both, room_left}
use Rattle.reports.specs.Reports.{said}
use Rattle.reports.proofs.Laws.{behind, repeated, length-behind, length_repeated}
use Rattle.reports.proofs.Said.put.Goals as goal

pub put_repeat-requires : goal.put_repeat-requires
put_repeat-requires c = let s = c.args.self in
    room_left c.put_counted.ensures _ _ (omega (arith, length-behind (text " ") s.number (omega arith))) c.requires

pub put_counted-requires-2 : goal.put_counted-requires-2
put_counted-requires-2 c = let s = c.args.self in
    room_left (adds_both c.put_counted.ensures c.put_repeat.ensures) _ _
    (omega (arith, length-append (behind (text " ") s.number) (repeated s.repeat), length-behind (text " ") s.number (omega arith), length_repeated s.repeat)) c.requires

pub put_counted-requires-3 : goal.put_counted-requires-3
put_counted-requires-3 c = let s = c.args.self in
    let first = behind (text " ") s.number in
    let third = behind (text " gap ") s.gap in
    room_left (adds_both c.put_counted.ensures (adds_both c.put_repeat.ensures c.put_counted-2.ensures)) _ _
    (
    omega (
      arith,
      length-append first (repeated s.repeat ++ third),
      length-append (repeated s.repeat) third,
      length-behind (text " ") s.number (omega arith),
      length_repeated s.repeat,
      length-behind (text " gap ") s.gap (omega arith),
    )
    )
    c.requires

pub returns : goal.returns
unfolding said
returns c = adds_both c.put_counted.ensures (adds_both c.put_repeat.ensures (adds_both c.put_counted-2.ensures c.put_counted-3.ensures))

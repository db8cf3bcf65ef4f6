use mathlib.Core.Path.{◌≡◌}
use lib.Seq.{sets}
use Rattle.typed.specs.Typed.{log_put}
use Rattle.typed.proofs.Logs.{log_left}
use Rattle.typed.proofs.put_log.Given as goal

abbrev pub invariant-loop-i : goal.invariant-loop-i
invariant-loop-i l = log_left l.segments l.count l.i l.log ≡ sets l.initial.log 0 (log_put l.count l.segments)

-- `wrapper::last_in` meets its contract. Assumes nothing.
use mathlib.Core.Path.{sym, ◌∙◌}
use native.Mathlib.Omega.{arith}
use Rattle.wrapper.proofs.Answers.{sized_is}
use Rattle.wrapper.proofs.last_in.Goals as goal

pub overflow_add-left : goal.overflow_add-left
overflow_add-left c = omega (arith, sized_is c.args.numbers (sym c.is_size.ensures ∙ c.if-not-is_size.false))

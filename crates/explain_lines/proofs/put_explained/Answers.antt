-- `explain_lines::put_explained` meets its contract: nothing, a field, or a slot that was spoiled. Assumes nothing.
use mathlib.Core.Path.{sym, ap, ◌∙◌}
use Rattle.std.proofs.Common.{Some}
use Rattle.text.proofs.Adds.{adds_both, adds_same, adds_none}
use Rattle.explain_lines.specs.Lines.{explained_line}
use Rattle.explain_lines.proofs.put_explained.Goals as goal

pub returns-in_default : goal.returns-in_default
unfolding explained_line
returns-in_default c = adds_same (ap explained_line (sym c.in_default.is)) (adds_none c.args.out.now)

pub returns-in-Found : goal.returns-in-Found
unfolding explained_line
returns-in-Found c =
    adds_same (ap explained_line (sym (c.in-Some.is ∙ ap Some c.in-Found.is))) (adds_both c.put.ensures (adds_both c.put_field.ensures c.put_found.ensures))

pub returns-in-Spoiled : goal.returns-in-Spoiled
unfolding explained_line
returns-in-Spoiled c = adds_same (ap explained_line (sym (c.in-Some.is ∙ ap Some c.in-Spoiled.is))) c.put-in-Spoiled.ensures

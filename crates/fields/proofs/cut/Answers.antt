-- `fields::cut` meets its contract: the rows have the table's widths. Assumes nothing.
use mathlib.Core.Path.{ap, ◌∙◌}
use Rattle.fields.specs.Fields.{cut_in}
use Rattle.fields.proofs.cut.Goals as goal

pub returns-clause-value : goal.returns-clause-value
returns-clause-value c = c.cut_in.ensures.value ∙ ap (λ ws. cut_in ws c.args.bits) (c.rows.ensures.widths c.args.n)

-- `fields::row_found` meets its contract: the rows have the table's widths. Assumes nothing.
use mathlib.Core.Path.{ap, ◌∙◌}
use native.Mathlib.Omega.{arith}
use Rattle.fields.specs.Fields.{found_in}
use Rattle.fields.proofs.row_found.Goals as goal

pub found_in-requires : goal.found_in-requires
found_in-requires c = let same = c.rows.ensures.widths c.args.n in
    (omega arith, omega arith, omega arith, rw same c.requires.2, rw same c.requires.3)

pub returns : goal.returns
returns c = let a = c.args in
    c.found_in.ensures ∙ ap (λ ws. found_in ws a.row a.bytes.now) (c.rows.ensures.widths a.n)

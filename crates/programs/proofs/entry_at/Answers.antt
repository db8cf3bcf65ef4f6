-- `programs::entry_at` meets its contract. Assumes nothing.
use Rattle.std.proofs.Common.{arith, ℕ, ◌≤◌, ap, subst, ◌∙◌, drop}
use lib.ListN.{length-drop}
use Rattle.records.specs.declared.Form.{Form}
use Rattle.records.specs.Records.{mark_in, form_bytes}
use Rattle.records.proofs.Entries.{entry_by, entry_short}
use Rattle.programs.proofs.entry_at.Goals as goal

pub returns-clause-entry : goal.returns-clause-entry
returns-clause-entry g c = entry_by g.P.Borrower.channels.forms (drop c.args.at c.args.file.now) _ _ _ c.mark_at.ensures c.form_of-form.ensures.form c.entry_at.ensures

pub returns-clause-short : goal.returns-clause-short
returns-clause-short g c short =
    let forms = g.P.Borrower.channels.forms in
    let xs = drop c.args.at c.args.file.now in
    let within : form_bytes (forms (mark_in xs)) ≤ g.P.Borrower.longest_record = subst (λ (f : Form). form_bytes f ≤ g.P.Borrower.longest_record) (c.form_of-form.ensures.form ∙ ap forms c.mark_at.ensures) c.form_of-form.ensures.within in
    omega (arith, length-drop c.args.at c.args.file.now, entry_short forms g.P.Borrower.longest_record xs within c.entry_at.result (entry_by forms xs _ _ _ c.mark_at.ensures c.form_of-form.ensures.form c.entry_at.ensures) short)

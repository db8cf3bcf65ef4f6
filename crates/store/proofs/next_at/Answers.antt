-- `store::next_at` meets its contract. Assumes nothing.
use mathlib.Core.List.{List}
use Prim.Native.Nat.{ℕ}
use lib.ListN.{drop}
use Rattle.records.proofs.Entries.{entry_by}
use Rattle.store.specs.Store.{store_form}
use Rattle.store.proofs.Laws.{next_by_lem}
use Rattle.store.proofs.next_at.Goals as goal

pub returns : goal.returns
returns c = let xs : List ℕ = drop c.args.at c.args.store.now in
    next_by_lem xs _ _ (entry_by store_form xs _ _ _ c.mark_at.ensures c.form_of-form.ensures c.entry_at.ensures) c.next_by.ensures

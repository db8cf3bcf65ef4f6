-- `store::packet_at` meets its contract: a packet that stands there lies inside the store. Assumes nothing.
use mathlib.Core.Path.{◌≡◌, sym, ap, ◌∙◌}
use native.Mathlib.Omega.{arith}
use lib.ListN.{drop}
use Rattle.std.specs.Prelude.{Some, Ok}
use Rattle.store.specs.Store.{next_in}
use Rattle.store.proofs.Laws.{packet_room, packet_there}
use Rattle.store.proofs.packet_at.Goals as goal

stands : (c : goal.In-Ok-Some) → Ok (Some c.in-Ok-Some.n) ≡ next_in (drop c.args.at c.args.store.now)
stands c = ap Ok (sym c.in-Ok-Some.field-0-is) ∙ c.in-Ok-Some.ensures

pub overflow_add-from : goal.overflow_add-from
overflow_add-from c = omega (arith, packet_room c.args.store.now c.args.at _ (stands c))

pub overflow_add-result : goal.overflow_add-result
overflow_add-result c = omega (arith, packet_room c.args.store.now c.args.at _ (stands c))

pub slice_bounds-result-end-2 : goal.slice_bounds-result-end-2
slice_bounds-result-end-2 c = omega (arith, packet_room c.args.store.now c.args.at _ (stands c))

pub returns-clause-result_value : goal.returns-clause-result_value
returns-clause-result_value c = packet_there c.args.store.now c.args.at _ (ap Ok (sym c.in-Ok-Some.field-0-is) ∙ c.in-Ok-Some.ensures)

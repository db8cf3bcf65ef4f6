-- `lukasembo::lukasembo_name_place` meets its contract: a name lies within the longest section. Assumes nothing.
use Rattle.std.proofs.Common.{arith}
use Rattle.sections.proofs.Steps.{stands_small}
use Rattle.lukasembo.proofs.lukasembo_name_place.Goals as goal

pub overflow_mul-result : goal.overflow_mul-result
overflow_mul-result c = omega (arith, stands_small _ _ _ _ c.name_place-place.ensures)

pub overflow_add-result : goal.overflow_add-result
overflow_add-result c = omega (arith, stands_small _ _ _ _ c.name_place-place.ensures)

-- The state of the program `wrap` as its definition sees it, without the memory of the outer packets; and that memory.
use Rattle.std.specs.Prelude.{ℕ}
use Rattle.wrapping.specs.declared.Wrap.{Wrap}
use Rattle.wrapping.specs.Wrapping.{State, state}

abbrev pub seen : Wrap → State
seen p = state p.numbers p.bytes p.stamp p.count

-- the memory that it was lent, by its name in proofs
abbrev pub lent : Wrap → ℕ
lent p = p.outers.ghost_name

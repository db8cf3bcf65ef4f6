-- The state of the program `log` as its definition sees it, and its memories.
use Rattle.std.specs.Prelude.{ℕ, ◌≡◌}
use Rattle.desk.specs.declared.Desk.{Desk}
use Rattle.desk.specs.Desks.{desk}
use Rattle.desk.specs.Calls.{State, state}
use Rattle.replay.specs.declared.Replay.{Replay}

-- its desk
abbrev pub desk_of : Replay → Desk
desk_of p = desk p.notes p.bytes.now

abbrev pub seen : Replay → State
seen p = state (desk_of p) p.first.now p.second.now

-- the memories that it was lent, by their names in proofs
abbrev pub lent : Replay → ℕ × ℕ × ℕ
lent p = (p.bytes.ghost_name, p.first.ghost_name, p.second.ghost_name)

-- q has the memories of p
abbrev pub SameMemories : Replay → Replay → Type 0
SameMemories p q = (q.bytes.ghost_name ≡ p.bytes.ghost_name) × (q.first.ghost_name ≡ p.first.ghost_name) × (q.second.ghost_name ≡ p.second.ghost_name)

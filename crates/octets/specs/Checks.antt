-- Rules checked one after the other; one of some numbers.
use Rattle.std.specs.Prelude.{ℕ, Bool, false, cond, ◌||◌, List, [], ◌∷◌, eqb}

-- what is answered where a rule is broken, else what follows
abbrev pub check : {A : Type 0} → Bool → A → A → A
check broken answer rest = cond broken answer rest

-- whether n is one of some numbers
abbrev pub among : List ℕ → ℕ → Bool
among [] n = false
among (m ∷ ms) n = eqb n m || among ms n

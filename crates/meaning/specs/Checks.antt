use Rattle.std.specs.Prelude.{Result, Ok, Err}
use Rattle.meaning.specs.declared.Refusal.{Refusal}

-- Some checks, and then others.

abbrev pub and_then : Result Unit Refusal → Result Unit Refusal → Result Unit Refusal
and_then (Err f) rest = Err f
and_then (Ok _) rest = rest

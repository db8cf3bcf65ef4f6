-- What came of a read and of a write, and the status that a program ends with.
use Rattle.std.specs.Prelude.{ℕ, ◌+◌, ◌≤◌, ◌≡◌, cond, ◌⊎◌, eqb, ℤ, pos, negsuc, Result, Ok, Err, List, length, take}
use Rattle.std.specs.Fn.{Once}
use Rattle.manners.specs.declared.Came.{Came}
use Rattle.manners.specs.declared.Came.TheVariants.{Bytes, End, Failed}
use Rattle.manners.specs.declared.Unfinished.{Unfinished}
use Rattle.manners.specs.declared.Unsent.{Unsent}
use Rattle.manners.specs.declared.Unsent.TheVariants.{Gone}
use Rattle.manners.specs.declared.Unsent.TheVariants.{Failed as NotSent}
use Rattle.manners.specs.declared.Ending.{Ending}
use Rattle.manners.specs.declared.Ending.TheVariants.{Over, Unheard, NotRead, NotWritten, Spent}

-- ---- a read that had room: the system answers how many bytes came, 0 at the end of the input, or an error

abbrev pub came_of : {E : Type 0} → Result ℕ E → Came
came_of (Ok n) = cond (eqb n 0) End (Bytes n)
came_of (Err e) = Failed

abbrev pub bytes_in : Came → ℕ
bytes_in (Bytes n) = n
bytes_in End = 0
bytes_in Failed = 0

-- what came behind the first bytes of a block lies inside it
abbrev pub Room : ℕ → ℕ → Came → Type 0
Room block have (Bytes n) = (1 ≤ n) × (have + n ≤ block)
Room block have End = Unit {0}
Room block have Failed = Unit {0}

-- so many bytes at the start of a buffer lie inside it, and are so many
abbrev pub Counts : ℕ → List ℕ → Type 0
Counts n buf = (n ≤ length buf) × (n ≡ length (take n buf))

-- how many bytes of a text came, whether a read failed or not
abbrev pub count_of : Result ℕ Unfinished → ℕ
count_of (Ok n) = n
count_of (Err u) = u.have

-- ---- a write that failed, by the system's number of the error

-- EPIPE: nobody reads what is written
abbrev pub gone_error : ℕ
gone_error = 32

abbrev pub sent_of : ℤ → Unsent
sent_of (pos n) = cond (eqb n gone_error) Gone NotSent
sent_of (negsuc n) = NotSent

-- how a program ends with a number, once its last bytes were written or could not be
abbrev pub ended_by : Result (Unit {0}) Unsent → ℕ → Ending
ended_by (Ok done) n = Over n
ended_by (Err Gone) n = Unheard
ended_by (Err NotSent) n = NotWritten

-- one of these
abbrev pub EndsWriting : ℕ → Ending → Type 0
EndsWriting n r = (r ≡ Over n) ⊎ ((r ≡ Unheard) ⊎ (r ≡ NotWritten))

-- ---- the status of a program, by how its work ended

-- a read or a write failed
abbrev pub failed : ℕ
failed = 1

-- it was not used as it has to be: with words that it does not take, or on a text of another form
abbrev pub misused : ℕ
misused = 2

abbrev pub status_of : Ending → ℕ
status_of (Over n) = n
status_of Unheard = 0
status_of NotRead = failed
status_of NotWritten = failed
status_of Spent = failed

-- the status of an ending that a program's work comes to, when it is called
abbrev pub Worked : {F X Y : Type 0} → Once F X (Ending × Y) → F → ℕ → Type 0
Worked {X = X} {Y = Y} g work n = (x : X) × (ending : Ending) × (y : Y) × g.post work x (ending, y) × (n ≡ status_of ending)

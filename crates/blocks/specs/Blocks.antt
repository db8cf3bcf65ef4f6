-- The block that a file of records is read through: what is unread of it, what a turn of a program leaves, and how a run ends.
use Rattle.std.specs.Prelude.{ℕ, ◌+◌, ◌-◌, ◌^◌, ◌≤◌, ◌≡◌, Bool, true, false, List, [], ◌∷◌, ◌++◌, ◌⊎◌, length, take, drop, Result, Ok, Err}
use Rattle.text.specs.Text.{Put}
use Rattle.records.specs.declared.Entry.{Entry}
use Rattle.records.specs.declared.Entry.TheVariants.{End, Whole, Unknown, Cut}
use Rattle.records.specs.Records.{Forms, entry_in, is_whole, end_number, last_line}
use Rattle.records.specs.Transcripts.{Filled}
use Rattle.manners.specs.declared.Came.{Came}
use Rattle.manners.specs.declared.Came.TheVariants.{Bytes}
use Rattle.manners.specs.declared.Came.TheVariants.{End as CameEnd, Failed as CameFailed}
use Rattle.manners.specs.declared.Unsent.{Unsent}
use Rattle.manners.specs.declared.Unsent.TheVariants.{Gone, Failed}
use Rattle.manners.specs.declared.Ending.{Ending}
use Rattle.manners.specs.declared.Ending.TheVariants.{Over, Spent}
use Rattle.manners.specs.declared.Ending.TheVariants.{Unheard as EndUnheard, NotRead as EndNotRead, NotWritten as EndNotWritten}
use Rattle.manners.specs.Manners.{EndsWriting}
use Rattle.blocks.specs.declared.Step.{Step}
use Rattle.blocks.specs.declared.Step.TheVariants.{Next, Last, NotRead, Unheard, NotWritten}
use Rattle.blocks.specs.declared.Unread.{Unread}

-- how many turns a run has: the greatest number of 64 bits
abbrev pub most_turns : ℕ
most_turns = 2 ^ 64 - 1

-- the bytes of a block from a place up to an end
abbrev pub unread : List ℕ → ℕ → ℕ → List ℕ
unread block at end = take (end - at) (drop at block)

-- whether a step is the end of the run
abbrev pub stops_at : Step → Bool
stops_at Next = false
stops_at Last = true
stops_at NotRead = true
stops_at Unheard = true
stops_at NotWritten = true

-- ---- what follows at a place, the records before it being printed

-- nothing moves: the place stays, and the block byte for byte
abbrev pub Stays : List ℕ → ℕ → ℕ → Step → List ℕ → Unread → Type 0
Stays old at have step new u = (new ≡ old) × (u ≡ record { at = at; have = have; step = step })

-- what is to be done after a read that had room for a byte
abbrev pub step_after : Came → Step
step_after (Bytes n) = Next
step_after CameEnd = Last
step_after CameFailed = NotRead

-- by that step: it brought some; or none, at the end of the file; or none, since it failed
abbrev pub Brings : List ℕ → Step → Type 0
Brings brought Next = 1 ≤ length brought
Brings brought Last = length brought ≡ 0
Brings brought NotRead = length brought ≡ 0
Brings brought Unheard = ⊥
Brings brought NotWritten = ⊥

-- what was unread comes to the start, byte for byte, and what a read brought stands behind it
pub record Refilled (old : List ℕ) (at have : ℕ) (new : List ℕ) (u : Unread) : Type 0 where
  pub brought : List ℕ
  pub room : have - at + 1 ≤ length old
  pub start : u.at ≡ 0
  pub inside : u.have ≤ length new
  pub bytes : unread new 0 u.have ≡ unread old at have ++ brought
  pub brings : Brings brought u.step

-- by what stands there: a whole record waits for the next turn, an unknown mark ends the run, and anything else needs more to be read
abbrev pub Advances : Entry → List ℕ → ℕ → ℕ → List ℕ → Unread → Type 0
Advances (Whole n) old at have new u = Stays old at have Next new u
Advances Unknown old at have new u = Stays old at have Last new u
Advances End old at have new u = Refilled old at have new u
Advances Cut old at have new u = Refilled old at have new u

abbrev pub Follows : Forms → List ℕ → ℕ → ℕ → List ℕ → Unread → Type 0
Follows forms old at have new u = Advances (entry_in forms (unread old at have)) old at have new u

-- by what came of writing the records between two places: it goes on behind them; or, where they could not be written, nothing moves
abbrev pub Proceeds : Result (Unit {0}) Unsent → Entry → List ℕ → ℕ → ℕ → ℕ → List ℕ → Unread → Type 0
Proceeds (Ok done) e old at next have new u = Advances e old next have new u
Proceeds (Err Gone) e old at next have new u = Stays old at have Unheard new u
Proceeds (Err Failed) e old at next have new u = Stays old at have NotWritten new u

-- ---- a turn: the unread part of the block old, from at up to have, gave f, of which the text was put to the start of the output

pub record TurnSays {S : Type 0} (forms : Forms) (f : Filled S) (old : List ℕ) (at have : ℕ) (before : List ℕ) (t : S) (new after : List ℕ) (wrote : ℕ) (u : Unread) : Type 0 where
  -- the state is as the records leave it
  pub state : t ≡ f.state
  -- their text is what was written
  pub text : Put f.text before 0 after wrote
  -- and the place is exactly behind them; where they could not be written, nothing moves
  pub place : Follows forms old (at + f.read) have new u ⊎ (Stays old at have Unheard new u ⊎ Stays old at have NotWritten new u)

-- ---- a run: how it ended, after how many turns, what stood where it stopped, and the output then

-- by the step at which it stops: what comes last was written, or could not be; or a read failed, or a write; or no turn is left
abbrev pub Concludes : Step → Entry → Ending → Type 0
Concludes Next e r = r ≡ Spent
Concludes Last e r = EndsWriting (end_number e) r
Concludes NotRead e r = r ≡ EndNotRead
Concludes Unheard e r = r ≡ EndUnheard
Concludes NotWritten e r = r ≡ EndNotWritten

-- it is over, with its number, where no whole record stands; where a read failed none stands either
abbrev pub Concluded : Ending → ℕ → Entry → Type 0
Concluded (Over n) turns e = (is_whole e ≡ false) × (n ≡ end_number e)
Concluded EndNotRead turns e = is_whole e ≡ false
Concluded EndUnheard turns e = Unit {0}
Concluded EndNotWritten turns e = Unit {0}
Concluded Spent turns e = turns ≡ most_turns

-- the same with the last line, which was put to the output
abbrev pub Settles : Step → Entry → List ℕ → Ending → Type 0
Settles Next e out r = r ≡ Spent
Settles Last e out r = (take (length (last_line e)) out ≡ last_line e) × EndsWriting (end_number e) r
Settles NotRead e out r = r ≡ EndNotRead
Settles Unheard e out r = r ≡ EndUnheard
Settles NotWritten e out r = r ≡ EndNotWritten

-- it is over, with the number of its last line, where no whole record stands, and that line was put out last; where a read failed no whole record stands either
abbrev pub Ends : Ending → ℕ → Entry → List ℕ → Type 0
Ends (Over n) turns e out = (is_whole e ≡ false) × (n ≡ end_number e) × (take (length (last_line e)) out ≡ last_line e)
Ends EndNotRead turns e out = is_whole e ≡ false
Ends EndUnheard turns e out = Unit {0}
Ends EndNotWritten turns e out = Unit {0}
Ends Spent turns e out = turns ≡ most_turns

-- the statuses that it can have
abbrev pub run_statuses : List ℕ
run_statuses = 0 ∷ 1 ∷ 15 ∷ []

-- A program on two channels turn by turn: what it puts out, its report, and what comes last on both.
use Rattle.std.specs.Prelude.{ℕ, ◌≡◌, List, length, take}
use Rattle.records.specs.declared.Entry.{Entry}
use Rattle.records.specs.Transcripts.{filled}
use Rattle.records.specs.Channels.{Channels, output_of, report_of}
use Rattle.manners.specs.declared.Ending.{Ending}
use Rattle.blocks.specs.declared.Unread.{Unread}
use Rattle.blocks.specs.Blocks.{unread, TurnSays, Concluded}

-- the unread part of the block old gave texts, put to the start of the output, and a report, put to the start of its own
pub record BothSay {S : Type 0} (c : Channels S) (s : S) (old : List ℕ) (at have : ℕ) (out report : List ℕ) (t : S) (new out' : List ℕ) (wrote : ℕ) (report' : List ℕ) (told : ℕ) (u : Unread) : Type 0 where
  pub output : TurnSays c.forms (filled (output_of c) (length out) s (unread old at have)) old at have out t new out' wrote u
  pub lines : TurnSays c.forms (filled (report_of c) (length out) s (unread old at have)) old at have report t new report' told u

-- what comes last stands at the start of each, however the run ended
pub record LastSaid {S : Type 0} (c : Channels S) (s : S) (e : Entry) (out report : List ℕ) : Type 0 where
  pub output : take (length (c.last s e)) out ≡ c.last s e
  pub lines : take (length (c.last_report s e)) report ≡ c.last_report s e

-- a run: how it ended, after how many turns, and what stood where it stopped
pub record RunSays {S : Type 0} (c : Channels S) (r : Ending) (turns : ℕ) (e : Entry) (out report : List ℕ) : Type 0 where
  pub state : S
  pub ended : Concluded r turns e
  pub last : LastSaid c state e out report

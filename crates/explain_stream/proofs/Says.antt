-- What `blocks::turn`, `finish` and `run` say of `Explain`, in the words of its program. Assumes nothing.
use mathlib.Core.Path.{refl}
use mathlib.Core.List.{List}
use Prim.Native.Nat.{ℕ}
use lib.ListN.{length}
use Rattle.records.specs.declared.Entry.{Entry}
use Rattle.records.specs.Records.{entry_in}
use Rattle.records.specs.Transcripts.{filled}
use Rattle.programs.specs.Programs.{alone}
use Rattle.manners.specs.declared.Ending.{Ending}
use Rattle.blocks.specs.declared.Step.{Step}
use Rattle.blocks.specs.declared.Unread.{Unread}
use Rattle.blocks.specs.Blocks.{unread, TurnSays, Concludes, Settles, Ends}
use Rattle.blocks.specs.Channels.{BothSay, LastSaid, RunSays}
use Rattle.blocks.proofs.Channels as blocks
use Rattle.desk.specs.Calls.{State}
use Rattle.explaining.specs.Explained.{explain_form, explain_program}
use Rattle.explaining.proofs.Laws.{lines_cost}

-- a turn: what the program gives of the unread part, and the place behind it
pub turn_says : {s : State} {old : List ℕ} {at have : ℕ} {out report : List ℕ} {t : State} {new out' : List ℕ} {wrote : ℕ} {report' : List ℕ} {told : ℕ} {u : Unread} → BothSay (alone explain_program) s old at have out report t new out' wrote report' told u → TurnSays explain_form (filled explain_program (length out) s (unread old at have)) old at have out t new out' wrote u
turn_says = blocks.turn_alone explain_program lines_cost

-- the end at a step, with the last line
pub finish_settles : (step : Step) (s : State) (e : Entry) (out report : List ℕ) (r : Ending) → Concludes step e r → LastSaid (alone explain_program) s e out report → Settles step e out r
finish_settles = blocks.step_settles explain_program (λ s e. refl)

-- a run
pub run_ends : (r : Ending) (turns : ℕ) (block : List ℕ) (at have : ℕ) (out report : List ℕ) → RunSays (alone explain_program) r turns (entry_in explain_form (unread block at have)) out report → Ends r turns (entry_in explain_form (unread block at have)) out
run_ends r turns block at have = blocks.run_ends explain_program (λ s e. refl) r turns (entry_in explain_form (unread block at have))

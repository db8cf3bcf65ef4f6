-- What `blocks::turn`, `finish` and `run` say of `Guide`, in the words of its program. Assumes nothing.
use mathlib.Core.Path.{refl}
use mathlib.Core.List.{List}
use Prim.Native.Nat.{ℕ}
use lib.ListN.{length}
use Rattle.records.specs.declared.Entry.{Entry}
use Rattle.records.specs.Records.{entry_in}
use Rattle.records.specs.Transcripts.{filled}
use Rattle.programs.specs.Programs.{alone}
use Rattle.manners.specs.declared.Ending.{Ending}
use Rattle.blocks.specs.declared.Step.{Step}
use Rattle.blocks.specs.declared.Unread.{Unread}
use Rattle.blocks.specs.Blocks.{unread, TurnSays, Concludes, Settles, Ends}
use Rattle.blocks.specs.Channels.{BothSay, LastSaid, RunSays}
use Rattle.blocks.proofs.Channels as blocks
use Rattle.guides.specs.declared.Gathering.{Gathering}
use Rattle.guiding.specs.Guiding.{guide_form, guide_program}
use Rattle.guiding.proofs.Laws.{lines_cost}

-- a turn: what the program gives of the unread part, and the place behind it
pub turn_says : {g : Gathering} {old : List ℕ} {at have : ℕ} {out report : List ℕ} {t : Gathering} {new out' : List ℕ} {wrote : ℕ} {report' : List ℕ} {told : ℕ} {u : Unread} → BothSay (alone guide_program) g old at have out report t new out' wrote report' told u → TurnSays guide_form (filled guide_program (length out) g (unread old at have)) old at have out t new out' wrote u
turn_says = blocks.turn_alone guide_program lines_cost

-- the end at a step, with the last line
pub finish_settles : (step : Step) (g : Gathering) (e : Entry) (out report : List ℕ) (r : Ending) → Concludes step e r → LastSaid (alone guide_program) g e out report → Settles step e out r
finish_settles = blocks.step_settles guide_program (λ g e. refl)

-- a run
pub run_ends : (r : Ending) (turns : ℕ) (block : List ℕ) (at have : ℕ) (out report : List ℕ) → RunSays (alone guide_program) r turns (entry_in guide_form (unread block at have)) out report → Ends r turns (entry_in guide_form (unread block at have)) out
run_ends r turns block at have = blocks.run_ends guide_program (λ g e. refl) r turns (entry_in guide_form (unread block at have))

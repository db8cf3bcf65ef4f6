-- How the program `write` ends, by what it answers to a text.
use Rattle.std.specs.Prelude.{ℕ, ◌≡◌, List, [], ◌∷◌, replicate, Result, Ok, Err}
use Rattle.manners.specs.declared.Ending.{Ending}
use Rattle.manners.specs.declared.Ending.TheVariants.{Over}
use Rattle.manners.specs.Manners.{EndsWriting, misused, failed}
use Rattle.writer.specs.Writing.{unwritten_number}
use Rattle.typed.specs.declared.Unanswered.{Unanswered}
use Rattle.typed.specs.declared.Unanswered.TheVariants.{Not, Unclear, TooLong, NoRoom}
use Rattle.typed.specs.Typed.{longest_log, reply_to}

-- the answer to a text, with room for any log
abbrev pub replied : List ℕ → Result ℕ Unanswered
replied typed = reply_to typed (replicate longest_log 0)

-- a log was written, or could not be; else with the number of the writer's refusal, or as one that was not used as it has to be
abbrev pub RepliesEnd : Result ℕ Unanswered → Ending → Type 0
RepliesEnd (Ok n) r = EndsWriting 0 r
RepliesEnd (Err (Not f)) r = r ≡ Over (unwritten_number f)
RepliesEnd (Err Unclear) r = r ≡ Over misused
RepliesEnd (Err TooLong) r = r ≡ Over misused
RepliesEnd (Err NoRoom) r = r ≡ Over failed

-- the statuses that it can have
abbrev pub reply_statuses : List ℕ
reply_statuses = 0 ∷ 1 ∷ 2 ∷ 13 ∷ 14 ∷ []

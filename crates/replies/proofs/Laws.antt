-- The statuses of the program `write`. Assumes nothing.
use mathlib.Core.Logic.{inl, inr}
use lib.Dec.{T}
use Prim.Native.Nat.{ℕ}
use Rattle.std.proofs.Common.{Result, Ok, Err}
use Rattle.octets.specs.Checks.{among}
use Rattle.manners.specs.declared.Ending.{Ending}
use Rattle.manners.specs.Manners.{status_of}
use Rattle.writer.specs.declared.Unwritten.{Unwritten}
use Rattle.writer.specs.declared.Unwritten.TheVariants.{ShortOutput, BadListing, TooMany}
use Rattle.writer.specs.Writing.{unwritten_number}
use Rattle.typed.specs.declared.Unanswered.{Unanswered}
use Rattle.typed.specs.declared.Unanswered.TheVariants.{Not, Unclear, TooLong, NoRoom}
use Rattle.replies.specs.Replies.{RepliesEnd, reply_statuses}

refusal_status : (f : Unwritten) → T (among reply_statuses (unwritten_number f))
refusal_status ShortOutput = tt
refusal_status BadListing = tt
refusal_status TooMany = tt

pub reply_status : (reply : Result ℕ Unanswered) (r : Ending) → RepliesEnd reply r → T (among reply_statuses (status_of r))
reply_status (Ok n) r (inl e) = rw e tt
reply_status (Ok n) r (inr (inl e)) = rw e tt
reply_status (Ok n) r (inr (inr e)) = rw e tt
reply_status (Err (Not f)) r e = rw e (refusal_status f)
reply_status (Err Unclear) r e = rw e tt
reply_status (Err TooLong) r e = rw e tt
reply_status (Err NoRoom) r e = rw e tt

-- What the system's answers come to. Assumes nothing.
use Rattle.std.proofs.Common.{ℕ, ◌+◌, ◌-◌, ◌≤◌, ◌≡◌, refl, sym, ap, ◌∙◌, Bool, cond, arith, inl, inr, List, ◌++◌, length, take, length-take-le}
use Rattle.std.specs.Prelude.{Result, Ok, Err, IfOk, eqb, ℤ, pos, negsuc}
use borrow.Author.Tests.{eqb-false, ne_eqb}
use borrow.Rule.Slice.PartMut.{put_mid}
use lib.Seq.{take-append-add, take-append-le}
use Rattle.octets.proofs.Laws.{either}
use Rattle.manners.specs.declared.Unsent.{Unsent}
use Rattle.manners.specs.declared.Unsent.TheVariants.{Gone}
use Rattle.manners.specs.declared.Unsent.TheVariants.{Failed as NotSent}
use Rattle.manners.specs.Manners.{came_of, sent_of, Room, gone_error, ended_by, EndsWriting}

-- ---- a read

-- what came into the room behind the first bytes of a block lies inside it
pub moved_inside : {E : Type 0} (block have : ℕ) (r : Result ℕ E) → have ≤ block → IfOk r (λ n. n ≤ block - have) → Room block have (came_of r)
moved_inside block have (Ok n) h m =
    either (eqb n 0) (λ t. rw t tt) (λ f. rw f (omega (arith, eqb-false n 0 f), omega arith))
moved_inside block have (Err e) h m = tt

-- what came behind the first bytes of a buffer stands behind them
pub take-put_mid_more : (have k n : ℕ) (buf came : List ℕ) → have ≤ length buf → n ≤ length came → take (have + n) (put_mid have k buf came) ≡ take have buf ++ take n came
take-put_mid_more have k n buf came within fits =
    ap (λ (m : ℕ). take (m + n) (put_mid have k buf came)) (sym (length-take-le have buf within)) ∙ take-append-add (take have buf) _ n ∙ ap (λ (l : List ℕ). take have buf ++ l) (take-append-le n came _ fits)

-- ---- a write

pub sent_gone : (z : ℤ) → z ≡ pos gone_error → Gone ≡ sent_of z
sent_gone z e = ap sent_of (sym e)

pub sent-failed : (z : ℤ) → (z ≡ pos gone_error → ⊥) → NotSent ≡ sent_of z
sent-failed (pos n) no' = sym (ap (λ (t : Bool). cond t Gone NotSent) (ne_eqb n gone_error (λ e. no' (ap pos e))))
sent-failed (negsuc n) no' = refl

pub ends_writing : (sent : Result (Unit {0}) Unsent) (n : ℕ) → EndsWriting n (ended_by sent n)
ends_writing (Ok done) n = inl refl
ends_writing (Err Gone) n = inr (inl refl)
ends_writing (Err NotSent) n = inr (inr refl)

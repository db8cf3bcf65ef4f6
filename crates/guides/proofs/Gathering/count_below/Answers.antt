-- `guides::Gathering::count_below` meets its contract: word by word, those below here are counted. Assumes nothing.
use Prim.Native.Nat.{ℕ, ◌+◌, ◌*◌, ◌%◌, ◌^◌, min}
use mathlib.Core.Path.{◌≡◌, ap, ap₂, ◌∙◌}
use native.Mathlib.Omega.{arith}
use lib.ListN.{get_or}
use lib.Count.{ones}
use Rattle.guides.specs.Gathering.{is_noted, count_below}
use Rattle.guides.proofs.Counts.{count_most, count_none}
use Rattle.guides.proofs.Words.{count_next}
use Rattle.guides.proofs.Gathering.count_below.Goals as goal

pub loop-word-init : goal.loop-word-init
loop-word-init c = (omega arith, count_none (is_noted c.args.self.noted) c.args.top)

-- one word more
pub overflow_add-count : goal.overflow_add-count
overflow_add-count c =
    let l = c.loop-word in
    let next = count_next c.args.self.noted c.args.top l.word-index c.loop-word-test.element_fits.fits in
    let ones_here = c.ones_within-count.ensures ∙ ap (λ (r : ℕ). ones (get_or c.args.self.noted l.word-index 0 % 2 ^ r)) l.invariant.0 in
    record { fits = omega (arith, next, ones_here, count_most (is_noted c.args.self.noted) (min (64 * (l.word-index + 1)) c.args.top)) }

pub loop-word-preserved : goal.loop-word-preserved
loop-word-preserved c =
    let l = c.loop-word in
    let next = count_next c.args.self.noted c.args.top l.word-index c.loop-word-test.element_fits.fits in
    let ones_here = c.ones_within-count.ensures ∙ ap (λ (r : ℕ). ones (get_or c.args.self.noted l.word-index 0 % 2 ^ r)) l.invariant.0 in
    (omega arith, ap₂ ◌+◌ l.invariant.1 ones_here ∙ next)

pub returns : goal.returns
returns c =
    let whole : min (64 * c.loop-word.word-index) c.args.top ≡ c.args.top = omega arith in
    c.loop-word.invariant.1 ∙ ap (count_below (is_noted c.args.self.noted)) whole

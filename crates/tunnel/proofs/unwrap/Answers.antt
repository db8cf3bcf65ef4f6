-- `tunnel::unwrap` meets its contract: its checks in order. Assumes nothing.
use mathlib.Core.Path.{sym, ap, ◌∙◌}
use Rattle.tunnel.specs.Unwrap.{reader, is_repeat}
use Rattle.tunnel.proofs.Answers.{outer-inside, comes_short, comes_foreign, comes_repeat, comes_accepted, says_unchanged, says_accepted}
use Rattle.tunnel.proofs.unwrap.Goals as goal

pub returns-then-out-lt-SHORTEST_OUTPUT : goal.returns-then-out-lt-SHORTEST_OUTPUT
returns-then-out-lt-SHORTEST_OUTPUT c = let a = c.args in
    says_unchanged a.numbers a.part.now a.outer.now a.out.now (comes_short (reader a.numbers a.part.now) a.outer.now a.out.now c.if-out-lt-SHORTEST_OUTPUT.true)

pub returns-then-not-is_outer : goal.returns-then-not-is_outer
returns-then-not-is_outer c = let a = c.args in
    says_unchanged a.numbers a.part.now a.outer.now a.out.now (comes_foreign (reader a.numbers a.part.now) a.outer.now a.out.now c.if-out-lt-SHORTEST_OUTPUT.false (sym c.is_outer.ensures ∙ c.if-not-is_outer.true))

pub sequence_of-requires : goal.sequence_of-requires
sequence_of-requires c = let a = c.args in (outer-inside a.outer.now (sym c.is_outer.ensures ∙ c.if-not-is_outer.false)).0

pub returns-then-is_repeat : goal.returns-then-is_repeat
returns-then-is_repeat c = let a = c.args in
    says_unchanged a.numbers a.part.now a.outer.now a.out.now (comes_repeat (reader a.numbers a.part.now) a.outer.now a.out.now c.if-out-lt-SHORTEST_OUTPUT.false (sym c.is_outer.ensures ∙ c.if-not-is_outer.false) (ap (is_repeat a.numbers) (sym c.sequence_of.ensures) ∙ sym c.is_repeat.ensures ∙ c.if-is_repeat.true))

pub accept-requires : goal.accept-requires
accept-requires c = let a = c.args in
    let i = outer-inside a.outer.now (sym c.is_outer.ensures ∙ c.if-not-is_outer.false) in
    (i.0, i.1, c.if-out-lt-SHORTEST_OUTPUT.false)

pub returns : goal.returns
returns c = let a = c.args in
    says_accepted a.numbers a.part.now a.outer.now a.out.now (comes_accepted (reader a.numbers a.part.now) a.outer.now a.out.now c.if-out-lt-SHORTEST_OUTPUT.false (sym c.is_outer.ensures ∙ c.if-not-is_outer.false) (ap (is_repeat a.numbers) (sym c.sequence_of.ensures) ∙ sym c.is_repeat.ensures ∙ c.if-is_repeat.false)) c.accept.ensures

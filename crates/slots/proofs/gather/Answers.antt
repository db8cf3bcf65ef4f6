-- `slots::gather` meets its contract: a clash, a repeat, one more, or the last. Assumes nothing.
use native.Mathlib.Omega.{arith}
use mathlib.Core.Path.{refl, sym, ◌∙◌}
use mathlib.Core.Bool.{cond}
use Rattle.meaning.specs.declared.Refusal.TheVariants.{Clash}
use Rattle.slots.specs.Slots.{spoiled_slot}
use Rattle.slots.specs.Gathering.{side, outcome}
use Rattle.slots.proofs.Keeps.{segment-passes, number_small, slot-numbers}
use Rattle.slots.proofs.Laws.{gathered-clash, gathered-repeat, more_small, more_word, gathered_more, gathered_last}
use borrow.Author.Rules.{rules}
use Rattle.std.proofs.Common.{Err}
use Rattle.slots.proofs.gather.Goals as goal

pub clashes-requires : goal.clashes-requires
clashes-requires c = ((slot-numbers c.args.slot c.args.bytes.now c.requires.0).0, (segment-passes c.args.seg.now c.requires.1).0)

pub clear-requires : goal.clear-requires
clear-requires c = c.requires.0

pub returns-then-clashes : goal.returns-then-clashes
returns-then-clashes c = let a = c.args in
    let t = side a.slot a.bytes.now (cond a.one a.first.now a.second.now) in
    record {
      second_after = (λ i. outcome (Err Clash) (side spoiled_slot (c.clear.ensures i) t.buffer)) ∙ gathered-clash a.kind a.seg.now t (sym c.clashes.ensures ∙ c.if-clashes.true);
      first_unchanged = refl;
    }

pub bounds-seg-1 : goal.bounds-seg-1
bounds-seg-1 c = omega (arith, segment-passes c.args.seg.now c.requires.1)

pub holds-requires : goal.holds-requires
holds-requires c = omega (arith, number_small c.args.seg.now c.requires.1, slot-numbers c.args.slot c.args.bytes.now c.requires.0)

pub missing-requires : goal.missing-requires
missing-requires c = let n = slot-numbers c.args.slot c.args.bytes.now c.requires.0 in (n.1, n.2)

pub returns-then-holds : goal.returns-then-holds
returns-then-holds c = let a = c.args in
    let t = side a.slot a.bytes.now (cond a.one a.first.now a.second.now) in
    record {
      second_after = gathered-repeat a.kind a.seg.now t (sym c.clashes.ensures ∙ c.if-clashes.false) _ (sym c.holds.ensures ∙ c.if-holds.true) c.missing.ensures;
      first_unchanged = refl;
    }

pub store-requires : goal.store-requires
store-requires c = omega (arith, number_small c.args.seg.now c.requires.1, segment-passes c.args.seg.now c.requires.1, (slot-numbers c.args.slot c.args.bytes.now c.requires.0).0)

pub bounds-seg-1-2 : goal.bounds-seg-1-2
bounds-seg-1-2 c = omega (arith, segment-passes c.args.seg.now c.requires.1)

pub bit-requires : goal.bit-requires
bit-requires c = omega (arith, number_small c.args.seg.now c.requires.1)

pub overflow_add-more : goal.overflow_add-more
overflow_add-more c =
    let a = c.args in
    let t = side a.slot a.bytes.now (cond a.one a.first.now a.second.now) in
    record { fits = more_word a.kind a.seg.now t (sym c.clashes.ensures ∙ c.if-clashes.false) (sym c.holds.ensures ∙ c.if-holds.false) _ c.bit.ensures c.requires.0 c.requires.1 }

-- of the slot before the segment and of that with it: a count of the wrong one is then refused for the count
pub missing-left-requires : goal.missing-left-requires
missing-left-requires c = let without = slot-numbers c.args.slot c.args.bytes.now c.requires.0 in
    let more = more_small c.args.kind c.args.seg.now (side c.args.slot c.args.bytes.now (cond c.args.one c.args.first.now c.args.second.now)) (sym c.clashes.ensures ∙ c.if-clashes.false) (sym c.holds.ensures ∙ c.if-holds.false) _ c.bit.ensures c.requires.0 c.requires.1 in
    search rules

pub returns-then-left-ne0 : goal.returns-then-left-ne0
returns-then-left-ne0 c = let a = c.args in
    let t = side a.slot a.bytes.now (cond a.one a.first.now a.second.now) in
    record {
      second_after = gathered_more a.kind a.seg.now t (sym c.clashes.ensures ∙ c.if-clashes.false) (sym c.holds.ensures ∙ c.if-holds.false) _ c.bit.ensures _ c.missing-left.ensures _ c.store.ensures c.if-left-ne0.true;
      first_unchanged = refl;
    }

pub complete_to-answer-requires : goal.complete_to-answer-requires
complete_to-answer-requires c = omega (arith, segment-passes c.args.seg.now c.requires.1, (slot-numbers c.args.slot c.args.bytes.now c.requires.0).0, c.requires.2, c.requires.3)

pub returns : goal.returns
returns c = let a = c.args in
    let t = side a.slot a.bytes.now (cond a.one a.first.now a.second.now) in
    record {
      second_after = gathered_last a.kind a.seg.now t (sym c.clashes.ensures ∙ c.if-clashes.false) (sym c.holds.ensures ∙ c.if-holds.false) _ c.bit.ensures _ c.missing-left.ensures _ c.store.ensures _ c.if-left-ne0.false c.complete_to-answer.ensures.second_after;
      first_unchanged = c.complete_to-answer.ensures.first_unchanged;
    }

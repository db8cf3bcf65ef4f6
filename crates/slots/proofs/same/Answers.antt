-- `slots::same` meets its contract: each flag on the way tells of the bytes so far (`Tells`). Assumes nothing.
use mathlib.Core.Path.{refl}
use borrow.Author.Tests.{eq-eqb, ne_eqb}
use lib.Dec.{lit≤, eqb}
use Rattle.slots.proofs.Leaves.{Tells, tells_first, tells_more, tells_less, tells_same}
use Rattle.slots.proofs.same.Goals as goal
use Rattle.slots.proofs.same.Goals.{then-word_at, else-word_at, then-word_at-2, else-word_at-2, then-word_at-3, else-word_at-3}

pub returns-then-word_at-4 : goal.returns-then-word_at-4
returns-then-word_at-4 c =
    let a = c.args in
    let first : Tells a.a.now a.b.now a.at a.from (eqb c.word_at.result c.word_at-2.result) 8 =
    tells_first a.a.now a.b.now a.at a.from _ _ (λ i. (c.type_inv.a i).fits) (λ i. (c.type_inv.b i).fits) c.word_at.ensures c.word_at-2.ensures in
    let second : Tells a.a.now a.b.now a.at a.from c.if-word_at.value 16 =
    elim c.if-word_at.branch [
      | then-word_at w ↦ tells_more first 8 _ _ (lit≤ tt) (lit≤ tt) (eq-eqb _ _ w.if-word_at.true) w.word_at-then-word_at.ensures w.word_at-then-word_at-2.ensures w.value-is
      | else-word_at w ↦ tells_less first 16 (ne_eqb _ _ w.if-word_at.false) w.value-is
    ] in
    let third : Tells a.a.now a.b.now a.at a.from c.if-word_at-2.value 24 =
    elim c.if-word_at-2.branch [
      | then-word_at-2 w ↦ tells_more second 16 _ _ (lit≤ tt) (lit≤ tt) w.if-word_at-2.true w.word_at-then-word_at-2-2.ensures w.word_at-then-word_at-2-3.ensures w.value-is
      | else-word_at-2 w ↦ tells_less second 24 w.if-word_at-2.false w.value-is
    ] in
    let fourth : Tells a.a.now a.b.now a.at a.from c.if-word_at-3.value 32 =
    elim c.if-word_at-3.branch [
      | then-word_at-3 w ↦ tells_more third 24 _ _ (lit≤ tt) (lit≤ tt) w.if-word_at-3.true w.word_at-then-word_at-3.ensures w.word_at-then-word_at-3-2.ensures w.value-is
      | else-word_at-3 w ↦ tells_less third 32 w.if-word_at-3.false w.value-is
    ] in
    tells_same (tells_more fourth 27 _ _ (lit≤ tt) (lit≤ tt) c.if-word_at-4.true c.word_at-then-word_at-4.ensures c.word_at-then-word_at-4-2.ensures refl) c.requires.0 c.requires.1

pub returns-else-word_at-4 : goal.returns-else-word_at-4
returns-else-word_at-4 c =
    let a = c.args in
    let first : Tells a.a.now a.b.now a.at a.from (eqb c.word_at.result c.word_at-2.result) 8 =
    tells_first a.a.now a.b.now a.at a.from _ _ (λ i. (c.type_inv.a i).fits) (λ i. (c.type_inv.b i).fits) c.word_at.ensures c.word_at-2.ensures in
    let second : Tells a.a.now a.b.now a.at a.from c.if-word_at.value 16 =
    elim c.if-word_at.branch [
      | then-word_at w ↦ tells_more first 8 _ _ (lit≤ tt) (lit≤ tt) (eq-eqb _ _ w.if-word_at.true) w.word_at-then-word_at.ensures w.word_at-then-word_at-2.ensures w.value-is
      | else-word_at w ↦ tells_less first 16 (ne_eqb _ _ w.if-word_at.false) w.value-is
    ] in
    let third : Tells a.a.now a.b.now a.at a.from c.if-word_at-2.value 24 =
    elim c.if-word_at-2.branch [
      | then-word_at-2 w ↦ tells_more second 16 _ _ (lit≤ tt) (lit≤ tt) w.if-word_at-2.true w.word_at-then-word_at-2-2.ensures w.word_at-then-word_at-2-3.ensures w.value-is
      | else-word_at-2 w ↦ tells_less second 24 w.if-word_at-2.false w.value-is
    ] in
    let fourth : Tells a.a.now a.b.now a.at a.from c.if-word_at-3.value 32 =
    elim c.if-word_at-3.branch [
      | then-word_at-3 w ↦ tells_more third 24 _ _ (lit≤ tt) (lit≤ tt) w.if-word_at-3.true w.word_at-then-word_at-3.ensures w.word_at-then-word_at-3-2.ensures w.value-is
      | else-word_at-3 w ↦ tells_less third 32 w.if-word_at-3.false w.value-is
    ] in
    tells_same (tells_less fourth 35 c.if-word_at-4.false refl) c.requires.0 c.requires.1

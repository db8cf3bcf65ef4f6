-- `chunk_checks::check_ensembles` meets its contract. The loop's invariant: the checks on what is left, from here on, are the checks asked for.
-- Assumes nothing.
use Prim.Native.Nat.{suc, ◌+◌, ◌-◌}
use native.Mathlib.Omega.{arith}
use mathlib.Core.Path.{◌≡◌, refl, sym, ◌∙◌}
use Rattle.chunk_checks.proofs.Laws.{none_there, short_there, crowded_there, next_there}
use Rattle.chunk_checks.proofs.check_ensembles.Goals as goal

pub loop-init : goal.loop-init
loop-init c = let all : c.args.count - 0 ≡ c.args.count = omega arith in (c.requires.0, rw all refl)

pub returns-then-chunk-at : goal.returns-then-chunk-at
returns-then-chunk-at c = let a = c.args in
    let l = c.loop in
    let one : a.count - l.counter ≡ suc (a.count - (l.counter + 1)) = omega arith in
    sym (short_there a.chunk.now l.at a.e a.s one c.if-chunk-at.true) ∙ l.invariant.1

pub returns-then-rest-room : goal.returns-then-rest-room
returns-then-rest-room c = let a = c.args in
    let l = c.loop in
    let one : a.count - l.counter ≡ suc (a.count - (l.counter + 1)) = omega arith in
    sym (crowded_there a.chunk.now l.at a.e a.s one c.if-chunk-at.false c.if-rest-room.true) ∙ l.invariant.1

pub loop-preserved : goal.loop-preserved
loop-preserved c = let a = c.args in
    let l = c.loop in
    let one : a.count - l.counter ≡ suc (a.count - (l.counter + 1)) = omega arith in
    (omega arith, sym (next_there a.chunk.now l.at a.e a.s one c.if-chunk-at.false c.if-rest-room.false) ∙ l.invariant.1)

pub returns : goal.returns
returns c = let a = c.args in
    let l = c.loop in
    let none : a.count - l.counter ≡ 0 = omega arith in
    sym (none_there a.chunk.now l.at a.e a.s none) ∙ l.invariant.1

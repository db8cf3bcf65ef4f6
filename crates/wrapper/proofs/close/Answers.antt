-- `wrapper::close` meets its contract: by what is left. Assumes nothing.
use mathlib.Core.Path.{refl, sym, ap, ◌∙◌}
use mathlib.Core.List.{flat_map}
use native.Mathlib.Omega.{arith}
use Prim.Native.Nat.{ℕ}
use Rattle.std.proofs.Common.{Ok}
use lib.ListN.{length}
use Rattle.octets.proofs.Laws.{bytes_all}
use Rattle.packets.specs.Stored.{line}
use Rattle.wrapper.specs.declared.Numbers.{Numbers}
use Rattle.wrapper.specs.Wrap.{writer, emptied}
use Rattle.wrapper.proofs.Answers.{last_told, none_last, close-stored, close_wrote, close_counts, close_says}
use Rattle.wrapper.proofs.close.Goals as goal

pub put_header-requires : goal.put_header-requires
put_header-requires c = let a = c.args in
    let t = last_told a.numbers (length a.out.now) c.in-Ok.left (sym c.last_in.ensures ∙ c.in-Ok.is) in
    let room = t.2 c.in-Ok.left-test.1 in
    (omega (arith, t.1, t.0.less, t.0.most), omega (arith, room))

pub put-requires : goal.put-requires
put-requires c = let a = c.args in
    let t = last_told a.numbers (length a.out.now) c.in-Ok.left (sym c.last_in.ensures ∙ c.in-Ok.is) in
    let room = t.2 c.in-Ok.left-test.1 in
    (omega (arith, room), omega (arith, t.1, t.0.less, t.0.most))

pub overflow_add-result : goal.overflow_add-result
overflow_add-result c = let a = c.args in
    let t = last_told a.numbers (length a.out.now) c.in-Ok.left (sym c.last_in.ensures ∙ c.in-Ok.is) in
    omega (arith, t.1, t.0.less, t.0.most)

pub returns-in-Ok-eq0 : goal.returns-in-Ok-eq0
unfolding line flat_map
returns-in-Ok-eq0 c = let a = c.args in
    let e = sym c.last_in.ensures ∙ c.in-Ok-eq0.is ∙ ap Ok c.in-Ok-eq0.field-0-test in
    let t = last_told a.numbers (length a.out.now) 0 e in
    close_says (writer a.numbers a.bytes.now) a.out.now c.told-bytes e
    (rw (none_last (writer a.numbers a.bytes.now) a.out.now c.told-bytes t.0 (sym t.1))
    (record { answers = refl; holds = ap (λ (k : Numbers). writer k a.bytes.now) c.emptied.ensures; leaves = refl }))

pub returns-in-Ok : goal.returns-in-Ok
returns-in-Ok c = let a = c.args in
    let w = writer a.numbers a.bytes.now in
    let e = sym c.last_in.ensures ∙ c.in-Ok.is in
    let t = last_told a.numbers (length a.out.now) c.in-Ok.left e in
    let some = c.in-Ok.left-test.1 in
    let bytes = bytes_all a.bytes.now (λ i. omega (arith, c.fits-bytes i)) in
    close_says w a.out.now c.told-bytes e
    (record {
      answers = ap Ok (close_wrote w a.out.now c.told-bytes t.0 c.in-Ok.left t.1 some);
      holds =
          ap (λ (k : Numbers). writer k a.bytes.now) c.emptied-in-Ok.ensures
          ∙ ap (λ (k : ℕ). writer (emptied a.numbers k) a.bytes.now) (close_counts w a.out.now c.told-bytes t.0 c.in-Ok.left t.1 some);
      leaves = close-stored w a.out.now c.told-bytes t.0 c.in-Ok.left t.1 some (omega arith) (omega arith) bytes _ _ _ c.first_begin-begin.ensures c.put_header.ensures c.put.ensures;
    })

pub returns-in-Err : goal.returns-in-Err
returns-in-Err c = let a = c.args in
    close_says (writer a.numbers a.bytes.now) a.out.now c.told-bytes (sym c.last_in.ensures ∙ c.in-Err.is) (record { answers = refl; holds = refl; leaves = refl })

-- `wrapper::filled_in` meets its contract. Assumes nothing.
use mathlib.Core.Path.{sym, ◌∙◌}
use native.Mathlib.Omega.{arith}
use lib.ListN.{length}
use Prim.Native.Nat.{◌+◌}
use Rattle.wrapper.proofs.Answers.{sized_is, carried_most, outers_most}
use Rattle.wrapper.proofs.filled_in.Goals as goal

pub overflow_add-waiting : goal.overflow_add-waiting
overflow_add-waiting c =
    omega (arith, sized_is c.args.numbers (sym c.is_size.ensures ∙ c.if-not-is_size.false), carried_most c.args.packet.now (sym c.is_carried.ensures ∙ c.if-not-is_carried.false))

pub full_in-full-requires : goal.full_in-full-requires
full_in-full-requires c =
    let s = sized_is c.args.numbers (sym c.is_size.ensures ∙ c.if-not-is_size.false) in
    let l = carried_most c.args.packet.now (sym c.is_carried.ensures ∙ c.if-not-is_carried.false) in
    (omega arith, omega arith, omega arith)

pub overflow_add-size : goal.overflow_add-size
overflow_add-size c = omega (arith, sized_is c.args.numbers (sym c.is_size.ensures ∙ c.if-not-is_size.false))

pub overflow_mul-full : goal.overflow_mul-full
overflow_mul-full c =
    let s = sized_is c.args.numbers (sym c.is_size.ensures ∙ c.if-not-is_size.false) in
    let l = carried_most c.args.packet.now (sym c.is_carried.ensures ∙ c.if-not-is_carried.false) in
    let most = outers_most (c.waiting.result + length c.args.packet.now) c.args.numbers.size in
    rw c.full_in-full.ensures (omega arith)

-- `explains::explain_clash` meets its contract: spoiled, empty, another last number, a free place, the same payload, another. Assumes nothing.
use mathlib.Core.Path.{sym, ap, ◌∙◌}
use native.Mathlib.Omega.{arith}
use Prim.Native.Nat.{ℕ}
use Rattle.std.proofs.Common.{Some}
use Rattle.explains.specs.Explaining.{payload_fault}
use Rattle.explains.proofs.Laws.{explain_spoiled, explain_empty, explain_last, explain_free, explain_alike, explain_payload}
use Rattle.explains.proofs.explain_clash.Goals as goal

pub returns-then-slot : goal.returns-then-slot
returns-then-slot c = explain_spoiled c.args.slot c.args.bytes.now c.args.seg.now c.if-slot.true

pub returns-then-slot-eq0 : goal.returns-then-slot-eq0
returns-then-slot-eq0 c = explain_empty c.args.slot c.args.bytes.now c.args.seg.now c.if-slot.false c.if-slot-eq0.true

pub returns-then-slot-second : goal.returns-then-slot-second
returns-then-slot-second c = ap Some c.segment_fault.ensures ∙ explain_last c.args.slot c.args.bytes.now c.args.seg.now c.if-slot.false c.if-slot-eq0.false c.if-slot-second.true

pub returns-then-not-holds : goal.returns-then-not-holds
returns-then-not-holds c = explain_free c.args.slot c.args.bytes.now c.args.seg.now c.if-slot.false c.if-slot-eq0.false c.if-slot-second.false (sym c.holds.ensures ∙ c.if-not-holds.true)

pub first_differing-i-requires : goal.first_differing-i-requires
first_differing-i-requires c = (c.requires, omega (arith, c.type_inv.seg 1))

pub returns-then-i-eq-PAYLOAD_BYTES : goal.returns-then-i-eq-PAYLOAD_BYTES
returns-then-i-eq-PAYLOAD_BYTES c = explain_alike c.args.slot c.args.bytes.now c.args.seg.now c.if-slot.false c.if-slot-eq0.false c.if-slot-second.false c.requires (sym c.holds.ensures ∙ c.if-not-holds.false) (sym c.first_differing-i.ensures.value ∙ c.if-i-eq-PAYLOAD_BYTES.true)

pub returns : goal.returns
returns c = let is = c.first_differing-i.ensures.value in
    ap Some (c.payload_fault.ensures ∙ ap (λ (i : ℕ). payload_fault i c.args.seg.now) is) ∙ explain_payload c.args.slot c.args.bytes.now c.args.seg.now c.if-slot.false c.if-slot-eq0.false c.if-slot-second.false c.requires (sym c.holds.ensures ∙ c.if-not-holds.false) (λ e. c.if-i-eq-PAYLOAD_BYTES.false (is ∙ e))

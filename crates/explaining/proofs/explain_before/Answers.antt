-- `explaining::explain_before` meets its contract, kind by kind. Assumes nothing.
use Rattle.std.proofs.Common.{arith, sym, ap, ◌∙◌, List, ℕ}
use Prim.Native.Nat.{◌-◌}
use lib.ListN.{length, drop, length-drop}
use lib.Seq.{length-take-le, take_all}
use Rattle.meaning.specs.Sizes.{longest_chunk}
use Rattle.explains.specs.Explaining.{gathered_explained}
use Rattle.explaining.proofs.explain_before.Goals as goal

pub slice_bounds-explain_gathered-end : goal.slice_bounds-explain_gathered-end
slice_bounds-explain_gathered-end c = sym (length-take-le longest_chunk c.args.bytes.now (omega (arith, c.requires)))

pub returns-in-Next : goal.returns-in-Next
returns-in-Next c =
    let a = c.args in
    let bytes : List ℕ = drop longest_chunk a.bytes.now in
    let all = take_all (length a.bytes.now - longest_chunk) bytes (omega (arith, length-drop longest_chunk a.bytes.now)) in
    rw (sym c.own-slot.ensures, c.in-Next.is) (c.explain_gathered-in-Next.ensures ∙ ap (λ (l : List ℕ). gathered_explained c.own-slot.result l a.seg.now) all)

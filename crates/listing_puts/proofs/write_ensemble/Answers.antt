-- `listing_puts::write_ensemble` meets its contract: by the version, the records are those of one sort or the other. Assumes nothing.
use Prim.Native.Nat.{ℕ, ◌+◌}
use mathlib.Core.Path.{sym, ap, ◌∙◌}
use mathlib.Core.List.{List}
use lib.ListN.{length}
use lib.Seq.{sets}
use Rattle.listing_puts.proofs.Laws.{known_there, unknown_there, length-known}
use native.Mathlib.Omega.{arith}
use Rattle.listing_puts.proofs.write_ensemble.Goals as goal

pub write_known-requires : goal.write_known-requires
write_known-requires c = let a = c.args in
    let xs = a.chunk.now in
    let is = known_there xs a.at a.e a.s c.if-chunk-at-eq0.true in
    record { chunk_in_bounds = c.requires.chunk_in_bounds; chunk_in_bounds_2 = omega (arith, ap length is, length-known xs a.at a.e a.s) }

pub returns-then-chunk-at-eq0 : goal.returns-then-chunk-at-eq0
returns-then-chunk-at-eq0 c = let a = c.args in
    let xs = a.chunk.now in
    let is = known_there xs a.at a.e a.s c.if-chunk-at-eq0.true in
    let e = c.write_known.ensures in
    record { value = omega (arith, ap length is, length-known xs a.at a.e a.s); out_after = e.out_after ∙ ap (sets a.out.now a.to) (sym is) }

pub write_unknown-requires : goal.write_unknown-requires
write_unknown-requires c = let a = c.args in
    let is = unknown_there a.chunk.now a.at a.e a.s c.if-chunk-at-eq0.false in
    (omega (arith, c.requires.chunk_in_bounds), omega (arith, c.requires.chunk_in_bounds_2, ap length is))

pub overflow_add-result : goal.overflow_add-result
overflow_add-result c = let a = c.args in
    let is = unknown_there a.chunk.now a.at a.e a.s c.if-chunk-at-eq0.false in
    omega (arith, c.requires.chunk_in_bounds_2, ap length is)

pub returns : goal.returns
returns c = let a = c.args in
    let is = sym (unknown_there a.chunk.now a.at a.e a.s c.if-chunk-at-eq0.false) in
    record { value = ap (λ (t : List ℕ). a.to + length t) is; out_after = c.write_unknown.ensures ∙ ap (sets a.out.now a.to) is }

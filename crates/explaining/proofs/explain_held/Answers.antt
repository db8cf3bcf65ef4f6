-- `explaining::explain_held` meets its contract, kind by kind. Assumes nothing.
use mathlib.Core.Path.{◌≡◌, sym, ap, ◌∙◌}
use native.Mathlib.Omega.{arith}
use mathlib.Core.List.{List, []}
use Prim.Native.Nat.{ℕ, ◌+◌, ◌-◌, ◌*◌, ◌<◌}
use lib.ListN.{take, drop}
use lib.Seq.{take-take}
use Rattle.meaning.specs.declared.Kind.{Kind}
use Rattle.meaning.specs.declared.Kind.TheVariants.{This, Next}
use Rattle.meaning.specs.Sizes.{longest_chunk}
use Rattle.segments.specs.Segment.{payload_bytes, most_segments}
use Rattle.slots.specs.declared.Slot.{Slot}
use Rattle.slots.specs.Gathering.{chunk_in}
use Rattle.notes.specs.declared.Notes.{Notes}
use Rattle.notes.specs.Notes.{slot_for}
use Rattle.desk.specs.Desks.{desk, side_of}
use Rattle.explains.specs.Explaining.{chunk_explained}
use Rattle.explaining.proofs.explain_held.Goals as goal

-- the chunk that the slot s holds, in the bytes of both
module _ (m : Notes) (bytes : List ℕ) (s : Slot) where
  held-this : s ≡ m.this → m.this.last < most_segments → take (payload_bytes * (s.last + 1)) bytes ≡ chunk_in (side_of This (desk m bytes) [])
  held-this e few = ap (λ (t : Slot). take (payload_bytes * (t.last + 1)) bytes) e ∙ sym (take-take (payload_bytes * (m.this.last + 1)) longest_chunk bytes (omega arith))

  held_next : s ≡ m.next → take (longest_chunk + payload_bytes * (s.last + 1) - longest_chunk) (drop longest_chunk bytes) ≡ chunk_in (side_of Next (desk m bytes) [])
  held_next e =
      let end : longest_chunk + payload_bytes * (s.last + 1) - longest_chunk ≡ payload_bytes * (s.last + 1) = omega arith in
      ap (λ (n : ℕ). take n (drop longest_chunk bytes)) end ∙ ap (λ (t : Slot). take (payload_bytes * (t.last + 1)) (drop longest_chunk bytes)) e

pub returns-in-This : goal.returns-in-This
returns-in-This c =
    let a = c.args in
    let is = c.in-This.is in
    let own = c.own-slot.ensures ∙ ap (λ (k : Kind). slot_for k a.notes) is in
    let few : (slot_for This a.notes).last < most_segments = omega (arith, c.requires.1, ap (λ (k : Kind). (slot_for k a.notes).last) is) in
    c.explain_chunk.ensures ∙ ap chunk_explained (held-this a.notes a.bytes.now c.own-slot.result own few) ∙ ap (λ (k : Kind). chunk_explained (chunk_in (side_of k (desk a.notes a.bytes.now) []))) (sym is)

pub returns-in-Next : goal.returns-in-Next
returns-in-Next c =
    let a = c.args in
    let is = c.in-Next.is in
    let own = c.own-slot.ensures ∙ ap (λ (k : Kind). slot_for k a.notes) is in
    c.explain_chunk-in-Next.ensures ∙ ap chunk_explained (held_next a.notes a.bytes.now c.own-slot.result own) ∙ ap (λ (k : Kind). chunk_explained (chunk_in (side_of k (desk a.notes a.bytes.now) []))) (sym is)

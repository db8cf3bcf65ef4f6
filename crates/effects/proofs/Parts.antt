-- A desk that is made of parts: it is well formed if each part is, and has the bytes of both kinds. Assumes nothing.
use mathlib.Core.Path.{◌≡◌, sym, ap₂, ◌∙◌}
use mathlib.Core.Bool.{true}
use mathlib.Core.List.{◌++◌}
use lib.ListN.{length}
use lib.Seq.{take_at, drop_at}
use Rattle.meaning.specs.declared.Kind.{Kind}
use Rattle.meaning.specs.declared.Kind.TheVariants.{This, Next}
use Rattle.meaning.specs.Sizes.{longest_chunk}
use Rattle.slots.specs.Slots.{slot_fits}
use Rattle.slots.specs.Gathering.{Outcome}
use Rattle.notes.specs.Notes.{length_fits, other_kind}
use Rattle.desk.specs.declared.Desk.{Desk}
use Rattle.desk.specs.Desks.{well_formed, bytes_for, altered}
use Rattle.desk.proofs.Parts.{Fits, both_bytes, length-bytes}

pub parts_desk : (d : Desk) → length_fits d.notes.shown ≡ true → length_fits d.notes.coming ≡ true → slot_fits d.notes.this (bytes_for This d) ≡ true → slot_fits d.notes.next (bytes_for Next d) ≡ true → well_formed d ≡ true
unfolding well_formed
parts_desk d l m s t = simp (l, m, s, t)

pub kinds_fit : (k : Kind) (d : Desk) → Fits k d → Fits (other_kind k) d → well_formed d ≡ true
kinds_fit This d p q = parts_desk d p.0 q.0 p.1 q.1
kinds_fit Next d p q = parts_desk d q.0 p.0 q.1 p.1

pub same_bytes : (d e : Desk) → bytes_for This d ≡ bytes_for This e → bytes_for Next d ≡ bytes_for Next e → d.bytes ≡ e.bytes
same_bytes d e p q = sym (both_bytes d) ∙ ap₂ ◌++◌ p q ∙ both_bytes e

-- in the desk that an outcome alters, that kind's bytes are the outcome's and the other kind's are as they were
pub altered-bytes : (k : Kind) (d : Desk) (o : Outcome) → well_formed d ≡ true → length o.side.bytes ≡ longest_chunk → (bytes_for k (altered k d o) ≡ o.side.bytes) × (bytes_for (other_kind k) (altered k d o) ≡ bytes_for (other_kind k) d)
altered-bytes This d o w long =
    (take_at o.side.bytes (bytes_for Next d) longest_chunk long, drop_at o.side.bytes (bytes_for Next d) longest_chunk long)
altered-bytes Next d o w long =
    let l = length-bytes This d w in
    (drop_at (bytes_for This d) o.side.bytes longest_chunk l, take_at (bytes_for This d) o.side.bytes longest_chunk l)

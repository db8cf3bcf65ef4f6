-- A gathering begins on a fresh desk, after new gathering and after new frame, whatever the desk before. Assumes nothing.
use mathlib.Core.Path.{◌≡◌, sym, ap, ◌∙◌, subst}
use mathlib.Core.Bool.{Bool, true, not}
use Prim.Native.Nat.{ℕ}
use Rattle.octets.proofs.Laws.{either}
use Rattle.desk.specs.declared.Desk.{Desk}
use Rattle.desk.specs.Desks.{emptied, fresh, well_formed, new_gathering, new_frame}
use Rattle.desk.proofs.Laws.{gathering_good, gathering_bad, frame_good, frame_bad}
use Rattle.effects.proofs.Keeps.{fresh-fits, gathering-fits, frame-fits}
use Rattle.gatherings.specs.Deliveries.{AtStart}

-- a well formed desk with empty slots
emptied-start : (d : Desk) (shown coming : ℕ) (swapped : Bool) → d ≡ emptied shown coming swapped → well_formed d ≡ true → AtStart d
emptied-start d shown coming swapped e w =
    subst AtStart (sym e) (gathering_good (emptied shown coming swapped) (ap well_formed (sym e) ∙ w))

pub fresh_start : AtStart fresh
fresh_start = gathering_good fresh fresh-fits

pub gathering-start : (d : Desk) → AtStart (new_gathering d)
gathering-start d =
    either (well_formed d)
    (λ w. emptied-start (new_gathering d) d.notes.shown d.notes.coming d.notes.swapped (gathering_good d w) (gathering-fits d))
    (λ w. subst AtStart (sym (gathering_bad d w)) fresh_start)

pub frame-start : (d : Desk) → AtStart (new_frame d)
frame-start d =
    either (well_formed d)
    (λ w. emptied-start (new_frame d) d.notes.coming 0 (not d.notes.swapped) (frame_good d w) (frame-fits d))
    (λ w. subst AtStart (sym (frame_bad d w)) fresh_start)

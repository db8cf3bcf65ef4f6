-- Where packets begin, and what is sent of them, with others behind. Assumes nothing.
use mathlib.Core.Path.{◌≡◌, refl, sym, ap, ap₂, ◌∙◌}
use mathlib.Core.List.{List, [], ◌∷◌, ◌++◌, flat_map, append-nil}
use Prim.Native.Nat.{ℕ, ◌+◌, ◌-◌, ◌≤◌, ◌<◌}
use native.Mathlib.Omega.{arith}
use lib.Dec.{eqb}
use lib.ListN.{length, take, drop, length-append, length-drop}
use lib.Seq.{take-append-le, drop-append-le}
use Rattle.octets.proofs.Laws.{either}
use Rattle.packets.specs.Stored.{line}
use Rattle.tunnel.proofs.Found.{line-append}
use Rattle.carriage.specs.Sent.{Choice, taken, next_begin, sent}
use Rattle.carriage.proofs.Outers.{payload_at}
use Rattle.carriage.proofs.Lines.{begin_here, begin-behind, begin_in}

-- ---- where the next packet begins

pub begin_most : (packets : List (List ℕ)) (a : ℕ) → next_begin a packets ≤ length (line packets)
unfolding line flat_map
begin_most [] a = omega arith
begin_most (p ∷ more) a =
    either (eqb a 0) (λ z. rw z (omega arith)) (λ z. rw z (omega (arith, length-append p (line more), begin_most more (a - length p))))

-- packets behind change nothing up to the end of the line
pub begin_more : (packets more : List (List ℕ)) (a : ℕ) → a ≤ length (line packets) → next_begin a (packets ++ more) ≡ next_begin a packets
unfolding line flat_map
begin_more [] more a h =
    let none : a ≡ 0 = omega arith in
    ap (λ (k : ℕ). next_begin k more) none ∙ begin_here more
begin_more (p ∷ packets) more a h =
    either (eqb a 0) (λ z. rw z refl)
    (λ z. rw z (ap (λ (k : ℕ). length p + k) (begin_more packets more (a - length p) (omega (arith, length-append p (line packets))))))

-- none begins behind the start of the last one
pub begin_end : (packets : List (List ℕ)) (p : List ℕ) (a : ℕ) → length (line packets) < a → a ≤ length (line (packets ++ (p ∷ []))) → next_begin a (packets ++ (p ∷ [])) ≡ length (line (packets ++ (p ∷ [])))
unfolding line flat_map
begin_end [] p a some h = let whole = ap length (append-nil p) in begin_in p [] a some (omega (arith, whole)) ∙ sym whole
begin_end (q ∷ packets) p a some h =
    let rest : List ℕ = line (packets ++ (p ∷ [])) in
    let first = length-append q (line packets) in
    begin-behind q (packets ++ (p ∷ [])) a (omega (arith, first))
    ∙ ap (λ (k : ℕ). length q + k) (begin_end packets p (a - length q) (omega (arith, first)) (omega (arith, length-append q rest)))
    ∙ sym (length-append q rest)

-- ---- what is sent

module _ (packets more : List (List ℕ)) where
  payload_more : (at : ℕ) (c : Choice) → at + c.size ≤ length (line packets) → payload_at (packets ++ more) at c ≡ payload_at packets at c
  payload_more at c h =
      ap (λ (l : List ℕ). take c.size (drop at l)) (line-append packets more)
      ∙ ap (take c.size) (drop-append-le at (line packets) (line more) (omega arith))
      ∙ take-append-le c.size (drop at (line packets)) (line more) (omega (arith, length-drop at (line packets)))

  pub sent_more : (n at : ℕ) (cs : List Choice) → at + taken cs ≤ length (line packets) → sent (packets ++ more) n at cs ≡ sent packets n at cs
  unfolding sent
  sent_more n at [] h = refl
  sent_more n at (c ∷ cs) h =
      ap₂ ◌∷◌ (rw (begin_more packets more at (omega arith), payload_more at c (omega arith)) refl) (sent_more (n + 1) (at + c.size) cs (omega arith))

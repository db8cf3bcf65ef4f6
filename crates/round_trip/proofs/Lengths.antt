-- How long the writer's outer packets are, and how much waits. Assumes nothing.
use mathlib.Core.Path.{◌≡◌, refl, ap, ◌∙◌}
use Prim.Native.Nat.{ℕ, zero, suc, ◌+◌, ◌*◌, ◌≤◌, ◌<◌}
use native.Mathlib.Omega.{arith}
use lib.Dec.{ltb}
use lib.ListN.{length, drop, length-take, length-drop}
use lib.Seq.{length-take-le}
use Rattle.octets.specs.Each.{Each}
use Rattle.octets.proofs.Laws.{either}
use Rattle.rtp.specs.Header.{header_bytes}
use Rattle.tunnel.specs.Unwrap.{next_number}
use Rattle.wrapper.specs.declared.Numbers.{Numbers}
use Rattle.wrapper.proofs.Laws.{left_less}
use Rattle.wrapper.proofs.Outers.{length-outer_of}
use Rattle.wrapper.specs.Wrap.{Writer, left_by, Waiting, waiting_in, running, outers_of}

-- ---- the payloads that are full

module _ (size timestamp : ℕ) where
  pub outers_full : (k sequence : ℕ) (v : Waiting) → k * size ≤ length v.bytes → Each (λ o. length o ≡ header_bytes + size) (outers_of k size sequence timestamp v)
  unfolding outers_of
  outers_full zero sequence v h = tt
  outers_full (suc k) sequence v h = (
    length-outer_of sequence _ ∙ ap (λ (n : ℕ). header_bytes + n) (length-take-le size v.bytes (omega arith)),
    outers_full k (next_number sequence) (running timestamp (drop size v.bytes)) (omega (arith, length-drop size v.bytes)),
  )

-- ---- what is left

pub none_left : (m : Numbers) → m.left ≡ 0 → left_by m ≡ 0
unfolding left_by
none_left m e = either (ltb m.left m.size) (λ t. rw t e) (λ t. rw t refl)

pub waits_less : (w : Writer) → 0 < w.numbers.size → length (waiting_in w).bytes < w.numbers.size
waits_less w some = let n = left_by w.numbers in omega (arith, length-take n w.bytes, left_less w.numbers some)

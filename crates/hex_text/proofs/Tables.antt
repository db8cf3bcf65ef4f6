-- The sixteen digits: a test that antt computes for each of them is a law. Assumes nothing.
use mathlib.Core.Path.{◌≡◌, refl, ap, ◌∙◌}
use mathlib.Core.Bool.{Bool, true, false, cond, ◌&&◌, and-eq-true_iff}
use Prim.Native.Nat.{ℕ, zero, suc, ◌+◌, ◌<◌}
use native.Mathlib.Omega.{arith}
use borrow.Author.Tests.{eqb-true, eqb-false}
use lib.Dec.{eqb, ltb}
use Rattle.std.specs.Prelude.{Option, Some, None}
use Rattle.octets.proofs.Laws.{either}
use Rattle.hex_text.specs.Hex.{glyph, digit_of}

-- the numbers under k pass a test
abbrev under : (ℕ → Bool) → ℕ → Bool
under test zero = true
under test (suc k) = test k && under test k

under_passes : (test : ℕ → Bool) (k : ℕ) → under test k ≡ true → (n : ℕ) → n < k → test n ≡ true
under_passes test zero e n h = absurd (omega arith)
under_passes test (suc k) e n h =
    let both = (and-eq-true_iff (test k) (under test k)).0 e in
    either (eqb n k) (λ t. ap test (eqb-true n k t) ∙ both.0)
    (λ t.
    let other = eqb-false n k t in
    under_passes test k both.1 n (omega arith))

-- the digits and the letters stand in one run each: 87 is 10 places before a
pub glyph_runs : (n : ℕ) → n < 16 → glyph n ≡ cond (ltb n 10) (48 + n) (87 + n)
glyph_runs n h = eqb-true _ _ (under_passes (λ m. eqb (glyph m) (cond (ltb m 10) (48 + m) (87 + m))) 16 refl n h)

-- whether it is this number
abbrev tells : Option ℕ → ℕ → Bool
tells None n = false
tells (Some m) n = eqb m n

tells_some : (o : Option ℕ) (n : ℕ) → tells o n ≡ true → o ≡ Some n
tells_some None n e = cc
tells_some (Some m) n e = ap Some (eqb-true m n e)

-- a digit that is written is read as its value
pub digit_glyph : (n : ℕ) → n < 16 → digit_of (glyph n) ≡ Some n
digit_glyph n h = tells_some _ n (under_passes (λ m. tells (digit_of (glyph m)) m) 16 refl n h)

-- Laws of RTP's header: its tests by the first two bytes; and what is read in the bytes that the table makes. Assumes nothing.
use mathlib.Core.Path.{◌≡◌, ◌∙◌}
use mathlib.Core.Bool.{Bool, false, ◌&&◌}
use mathlib.Core.List.{List}
use Prim.Native.Nat.{ℕ, ◌*◌, ◌/◌, ◌%◌, ◌≤◌, ◌<◌}
use native.Mathlib.Nat.{div-div-eq-div-mul}
use native.Mathlib.Omega.{arith}
use borrow.Author.Tests.{eqb-true, eqb-false, eq-eqb, ne_eqb, lt-ltb, le-ltb}
use lib.Dec.{eqb}
use lib.ListN.{length, get_or}
use Rattle.octets.proofs.Laws.{either}
use Rattle.rtp.specs.Header.{header_bytes, is_plain}

-- ---- the tests on a header

pub plain-short : (kind : ℕ) (xs : List ℕ) → length xs < header_bytes → is_plain kind xs ≡ false
unfolding is_plain
plain-short kind xs h = simp (lt-ltb (length xs) header_bytes h)

even : (x k : ℕ) → x / 2 ≡ k → x % 2 ≡ 0 → x ≡ 2 * k
even x k h e = omega arith

-- the tests on a byte's fields, whatever is tested behind them, are one test of the byte
first_byte : (b : ℕ) (t : Bool) → (eqb (b / 64) 2 && (eqb (b / 32 % 2) 0 && (eqb (b / 16 % 2) 0 && (eqb (b % 16) 0 && t)))) ≡ (eqb b 128 && t)
first_byte b t =
    either (eqb (b / 64) 2)
    (λ p.
    either (eqb (b / 32 % 2) 0)
    (λ q.
    either (eqb (b / 16 % 2) 0)
    (λ r.
    either (eqb (b % 16) 0)
    (λ s. simp (p, q, r, s, eq-eqb b 128 (whole (eqb-true (b / 64) 2 p) (eqb-true (b / 32 % 2) 0 q) (eqb-true (b / 16 % 2) 0 r) (eqb-true (b % 16) 0 s))))
    (λ s. simp (p, q, r, s, other (b % 16) 0 s (λ e. omega (arith, e)))))
    (λ r. simp (p, q, r, other (b / 16 % 2) 0 r (λ e. omega (arith, e)))))
    (λ q. simp (p, q, other (b / 32 % 2) 0 q (λ e. omega (arith, e)))))
    (λ p. simp (p, other (b / 64) 2 p (λ e. omega (arith, e))))
  where
    whole : b / 64 ≡ 2 → b / 32 % 2 ≡ 0 → b / 16 % 2 ≡ 0 → b % 16 ≡ 0 → b ≡ 128
    whole p q r s =
        let four : b / 32 ≡ 4 = even (b / 32) 2 (div-div-eq-div-mul b 32 2 ∙ p) q in
        let eight : b / 16 ≡ 8 = even (b / 16) 4 (div-div-eq-div-mul b 16 2 ∙ four) r in
        omega arith

    -- a field has another value, and so the byte
    other : (x k : ℕ) → eqb x k ≡ false → (b ≡ 128 → x ≡ k) → eqb b 128 ≡ false
    other x k e field = ne_eqb b 128 (λ same. eqb-false x k e (field same))

pub plain-bytes : (kind : ℕ) (xs : List ℕ) → header_bytes ≤ length xs → is_plain kind xs ≡ (eqb (get_or xs 0 0) 128 && eqb (get_or xs 1 0 % 128) kind)
unfolding is_plain
plain-bytes kind xs h = simp (le-ltb (length xs) header_bytes h) (first_byte (get_or xs 0 0) (eqb (get_or xs 1 0 % 128) kind))

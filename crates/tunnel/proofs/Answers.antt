-- The call's answers, check by check. Assumes nothing.
use mathlib.Core.Path.{◌≡◌, refl, sym, ◌∙◌}
use mathlib.Core.Bool.{true, false, true≢false}
use mathlib.Core.List.{List}
use Prim.Native.Nat.{ℕ, ◌≤◌, ◌<◌}
use borrow.Author.Tests.{ltb-true, ltb-false, lt-ltb, le-ltb}
use lib.Dec.{ltb}
use lib.ListN.{length}
use Rattle.octets.proofs.Laws.{either}
use Rattle.rtp.specs.Header.{header_bytes, sequence_in}
use Rattle.rtp.proofs.Laws.{plain-short}
use Rattle.tunnel.specs.declared.Numbers.{Numbers}
use Rattle.std.specs.Prelude.{Ok, Err}
use Rattle.tunnel.specs.declared.Unwrapped.TheVariants.{Repeat}
use Rattle.tunnel.specs.declared.Refusal.TheVariants.{ShortOutput, Foreign}
use Rattle.tunnel.specs.Outer.{stltp, longest_outer, is_outer}
use Rattle.tunnel.specs.Unwrap.{shortest_output, Answer, Reader, reader, is_repeat, unchanged, accepted, unwrapped, UnwrapSays, AcceptSays}
use Rattle.tunnel.proofs.Laws.{outer_long, outer-plain}

-- an outer packet of the tunnel has a header and is not too long
pub outer-inside : (xs : List ℕ) → is_outer xs ≡ true → (header_bytes ≤ length xs) × (length xs ≤ longest_outer)
outer-inside xs is =
    either (ltb longest_outer (length xs)) (λ t. absurd (true≢false (sym is ∙ outer_long xs (ltb-true longest_outer (length xs) t))))
    (λ t.
    let most : length xs ≤ longest_outer = ltb-false longest_outer (length xs) t in
    either (ltb (length xs) header_bytes)
    (λ u. absurd (true≢false (sym is ∙ outer-plain xs most ∙ plain-short stltp xs (ltb-true (length xs) header_bytes u))))
    (λ u. (ltb-false (length xs) header_bytes u, most)))

-- ---- what a call comes to

module _ (r : Reader) (outer output : List ℕ) where
  pub comes_short : length output < shortest_output → unwrapped r outer output ≡ unchanged r outer output (Err ShortOutput)
  unfolding unwrapped
  comes_short h = rw (lt-ltb (length output) shortest_output h) refl

  module _ (long : shortest_output ≤ length output) where
    pub comes_foreign : is_outer outer ≡ false → unwrapped r outer output ≡ unchanged r outer output (Err Foreign)
    unfolding unwrapped
    comes_foreign e = rw (le-ltb (length output) shortest_output long, e) refl

    module _ (ours : is_outer outer ≡ true) where
      pub comes_repeat : is_repeat r.numbers (sequence_in outer) ≡ true → unwrapped r outer output ≡ unchanged r outer output (Ok Repeat)
      unfolding unwrapped
      comes_repeat e = rw (le-ltb (length output) shortest_output long, ours, e) refl

      pub comes_accepted : is_repeat r.numbers (sequence_in outer) ≡ false → unwrapped r outer output ≡ accepted r outer output
      unfolding unwrapped
      comes_accepted e = rw (le-ltb (length output) shortest_output long, ours, e) refl

-- ---- what the code says of it

module _ (m : Numbers) (part outer out : List ℕ) where
  pub says_unchanged : {a : Answer} → unwrapped (reader m part) outer out ≡ unchanged (reader m part) outer out a → UnwrapSays m part outer out a m part out
  says_unchanged e = rw e (record { answers = refl; holds = refl; leaves = refl })

  pub says_accepted : {a : Answer} {m' : Numbers} {part' out' : List ℕ} → unwrapped (reader m part) outer out ≡ accepted (reader m part) outer out → AcceptSays m part outer out a m' part' out' → UnwrapSays m part outer out a m' part' out'
  says_accepted e s = rw e s

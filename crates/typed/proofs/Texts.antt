-- Laws of a typed text: its word, and where its line ends. Assumes nothing.
use mathlib.Core.Path.{◌≡◌, sym, ap, ◌∙◌}
use mathlib.Core.Bool.{Bool, true, false, cond}
use mathlib.Core.List.{List}
use Prim.Native.Nat.{ℕ, ◌+◌, ◌-◌, ◌≤◌}
use native.Mathlib.Omega.{arith}
use borrow.Author.Tests.{leb-true, leb-false}
use lib.Dec.{eqb, leb}
use lib.ListN.{length, get_or, take, length-take}
use lib.Seq.{take_all}
use Rattle.octets.proofs.Laws.{either, same_eq}
use Rattle.typed.specs.Typed.{kind_bytes, begins, line_length}

-- ---- the word

-- a text that begins with it is not too short for it
pub word_room : (text word : List ℕ) → begins word text ≡ true → length word ≡ kind_bytes → kind_bytes ≤ length text
word_room text word e long = omega (arith, ap length (same_eq (take kind_bytes text) word e), length-take kind_bytes text)

-- ---- the newline at the end

one_less : (t : Bool) (n : ℕ) → (n ≤ cond t (n - 1) n + 1) × (cond t (n - 1) n ≤ n)
one_less true n = omega arith
one_less false n = omega arith

-- the line ends with the text or one byte before it, and not before a word that has no newline
line_bounds : (text : List ℕ) → (length text ≤ line_length text + 1) × (line_length text ≤ length text)
line_bounds text = one_less (eqb (get_or text (length text - 1) 0) _) (length text)

pub line_room : (text word : List ℕ) → begins word text ≡ true → line_length word ≡ kind_bytes → length word ≡ kind_bytes → (kind_bytes ≤ line_length text) × (line_length text ≤ length text)
line_room text word e own long =
    let room = word_room text word e long in
    either (leb (length text) kind_bytes)
    (λ s.
    let all : text ≡ word = sym (take_all kind_bytes text (leb-true (length text) kind_bytes s)) ∙ same_eq (take kind_bytes text) word e in
    omega (arith, line_bounds text, ap line_length all ∙ own))
    (λ s. omega (arith, line_bounds text, leb-false (length text) kind_bytes s))

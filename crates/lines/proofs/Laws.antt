-- Laws of the lines: their lengths, and the lines of an answer case by case. Assumes nothing.
use mathlib.Core.Path.{◌≡◌, sym, ap}
use mathlib.Core.Bool.{Bool, true, false, cond}
use mathlib.Core.List.{List, ◌++◌}
use Prim.Native.Nat.{ℕ, ◌+◌, ◌*◌, ◌^◌, ◌≤◌, ◌<◌}
use native.Mathlib.Omega.{arith}
use borrow.Author.Tests.{eq-eqb, ne_eqb}
use lib.Dec.{eqb}
use lib.ListN.{length, length-append}
use Rattle.std.proofs.Common.{Result, Ok, Err}
use Rattle.text.specs.Text.{text, newline, numbered}
use Rattle.text.proofs.Laws.{length-numbered, length_refused}
use Rattle.hex_text.specs.Hex.{hex}
use Rattle.hex_text.proofs.Written.{length-hex}
use Rattle.meaning.specs.declared.Kind.{Kind}
use Rattle.meaning.specs.declared.Kind.TheVariants.{This, Next}
use Rattle.meaning.specs.declared.Refusal.{Refusal}
use Rattle.meaning.specs.Sizes.{longest_listing}
use Rattle.meaning.specs.Numbers.{number_of, offset_of}
use Rattle.meaning.proofs.Gives.{number_of_small}
use Rattle.slots.specs.declared.Answer.{Answer}
use Rattle.slots.specs.declared.Answer.TheVariants.{Missing, NewList}
use Rattle.lines.specs.Lines.{listing_lines, frame_lines, kind_text, refusal_line, missing_line, list_lines, refused_line, answer_lines, longest_lines}

-- ---- lengths

pub length_parts : (l : List ℕ) → length (listing_lines l) ≡ length (numbered (length l)) + 2 * length l + 1
length_parts l =
    omega (arith, length-append (numbered (length l) ++ hex l) newline, length-append (numbered (length l)) (hex l), length-hex l)

pub length-listing : (l : List ℕ) → length l ≤ longest_listing → length (listing_lines l) ≤ 5 + 2 * length l + 1
length-listing l h = omega (arith, length_parts l, length-numbered 3 (length l) (omega arith))

pub length-frame : (l : List ℕ) → length l ≤ longest_listing → length (frame_lines l) ≤ longest_lines
unfolding frame_lines
length-frame l h = go (eqb (length l) 0)
  where
    go : (t : Bool) → length (cond t (text "FR none\n") (text "FR " ++ listing_lines l)) ≤ longest_lines
    go true = omega arith
    go false = omega (arith, length-listing l h)

pub length-kind : (k : Kind) → length (kind_text k) ≡ 15
length-kind This = omega arith
length-kind Next = omega arith

pub length_refusal : (f : Refusal) → offset_of f < 2 ^ 64 → length (refusal_line f) ≤ 28
length_refusal f h = length_refused 9 (number_of f) (offset_of f) (omega (arith, number_of_small f)) h

-- the counts of an answer are not too great
abbrev pub Countable : Result Answer Refusal → Type 0
Countable (Ok (Missing n)) = n < 10000
Countable (Ok (NewList k n)) = Unit {0}
Countable (Err f) = offset_of f < 2 ^ 64

pub length-answer : (a : Result Answer Refusal) (l : List ℕ) → Countable a → length l ≤ longest_listing → length (answer_lines a l) ≤ longest_lines
unfolding answer_lines
length-answer (Ok (Missing n)) l c h = omega (arith, length-numbered 3 n c)
length-answer (Ok (NewList k n)) l c h = omega (arith, length-append (kind_text k) (listing_lines l), length-kind k, length-listing l h)
length-answer (Err f) l c h = omega (arith, length_refusal f c)

-- ---- a frame's lines, and an answer's, case by case

pub frame_none : (l : List ℕ) → length l ≡ 0 → text "FR none\n" ≡ frame_lines l
unfolding frame_lines
frame_none l e = rw (eq-eqb (length l) 0 e)

pub frame_some : (l : List ℕ) → (length l ≡ 0 → ⊥) → text "FR " ++ listing_lines l ≡ frame_lines l
unfolding frame_lines
frame_some l e = rw (ne_eqb (length l) 0 e)

pub missing_lines : (a : Result Answer Refusal) (n : ℕ) (l : List ℕ) → a ≡ Ok (Missing n) → missing_line n ≡ answer_lines a l
unfolding answer_lines
missing_lines a n l e = ap (λ (b : Result Answer Refusal). answer_lines b l) (sym e)

pub listed_lines : (a : Result Answer Refusal) (k : Kind) (n : ℕ) (l : List ℕ) → a ≡ Ok (NewList k n) → list_lines k l ≡ answer_lines a l
unfolding answer_lines
listed_lines a k n l e = ap (λ (b : Result Answer Refusal). answer_lines b l) (sym e)

pub refused_lines : (a : Result Answer Refusal) (f : Refusal) (l : List ℕ) → a ≡ Err f → refused_line f ≡ answer_lines a l
unfolding answer_lines
refused_lines a f l e = ap (λ (b : Result Answer Refusal). answer_lines b l) (sym e)

-- and a refusal's line, part by part

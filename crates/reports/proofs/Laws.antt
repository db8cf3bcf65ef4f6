-- Laws of a report's lines: when there is nothing to say, how long the words and the lines can be, and each line case by case. Assumes nothing.
use mathlib.Core.Path.{◌≡◌, refl, ap₂, ◌∙◌}
use mathlib.Core.Bool.{Bool, true, false, cond, not, ◌&&◌}
use mathlib.Core.List.{List, [], ◌∷◌, ◌++◌}
use Prim.Native.Nat.{ℕ, suc, ◌+◌, ◌^◌, ◌≤◌, ◌<◌}
use native.Mathlib.Omega.{arith}
use borrow.Author.Tests.{eq-eqb, ne_eqb}
use lib.Dec.{eqb}
use lib.ListN.{length, length-append}
use Rattle.text.specs.Text.{text, newline, decimal, numbered}
use Rattle.text.proofs.Laws.{length_wide}
use Rattle.reports.specs.Reports.{counted, said, report_line, held_line, longest_report}

-- a number behind a word, where it is not 0
abbrev pub behind : List ℕ → ℕ → List ℕ
behind word n = cond (eqb n 0) [] (word ++ decimal n)

-- the word for a repeat, where it is one
abbrev pub repeated : Bool → List ℕ
repeated repeat = cond repeat (text " repeat") []

-- ---- nothing to say

-- two strings together are empty exactly if both are
empty-both : (vs ws : List ℕ) → eqb (length (vs ++ ws)) 0 ≡ eqb (length vs) 0 && eqb (length ws) 0
empty-both [] ws = refl
empty-both (v ∷ vs) ws =
    rw (ne_eqb (suc (length (vs ++ ws))) 0 (λ e. omega arith), ne_eqb (suc (length vs)) 0 (λ e. omega arith))

empty-behind : (word : List ℕ) (n : ℕ) → 1 ≤ length word → eqb (length (behind word n)) 0 ≡ eqb n 0
empty-behind word n h = go (eqb n 0)
  where
    go : (t : Bool) → eqb (length (cond t [] (word ++ decimal n))) 0 ≡ t
    go true = refl
    go false = ne_eqb (length (word ++ decimal n)) 0 (λ e. omega (arith, length-append word (decimal n)))

empty_repeated : (repeat : Bool) → eqb (length (repeated repeat)) 0 ≡ not repeat
empty_repeated true = refl
empty_repeated false = refl

-- nothing is said exactly if the three numbers are 0 and it is no repeat
pub said_silent : (number : ℕ) (repeat : Bool) (gap lost : ℕ) → eqb (length (said number repeat gap lost)) 0 ≡ eqb number 0 && (not repeat && (eqb gap 0 && eqb lost 0))
unfolding said
said_silent number repeat gap lost =
    let ws = counted " gap " gap in
    let xs = counted " lost " lost in
    let third = empty-both ws xs ∙ ap₂ ◌&&◌ (empty-behind (text " gap ") gap (omega arith)) (empty-behind (text " lost ") lost (omega arith)) in
    let second = empty-both (repeated repeat) (ws ++ xs) ∙ ap₂ ◌&&◌ (empty_repeated repeat) third in
    empty-both (counted " " number) (repeated repeat ++ (ws ++ xs)) ∙ ap₂ ◌&&◌ (empty-behind (text " ") number (omega arith)) second

-- ---- lengths

pub length-behind : (word : List ℕ) (n : ℕ) → n < 2 ^ 64 → length (behind word n) ≤ length word + 20
length-behind word n h = go (eqb n 0)
  where
    go : (t : Bool) → length (cond t [] (word ++ decimal n)) ≤ length word + 20
    go true = omega arith
    go false = omega (arith, length-append word (decimal n), length_wide n h)

pub length_repeated : (repeat : Bool) → length (repeated repeat) ≤ 7
length_repeated true = omega arith
length_repeated false = omega arith

pub length-said : (number : ℕ) (repeat : Bool) (gap lost : ℕ) → number < 2 ^ 64 → gap < 2 ^ 64 → lost < 2 ^ 64 → length (said number repeat gap lost) ≤ 79
unfolding said
length-said number repeat gap lost f g h =
    let ws = counted " gap " gap in
    let xs = counted " lost " lost in
    omega (
      arith,
      length-append (counted " " number) (repeated repeat ++ (ws ++ xs)),
      length-append (repeated repeat) (ws ++ xs),
      length-append ws xs,
      length-behind (text " ") number f,
      length_repeated repeat,
      length-behind (text " gap ") gap g,
      length-behind (text " lost ") lost h,
    )

length-line : (mark : List ℕ) (n : ℕ) (words : List ℕ) → length mark ≤ 2 → n < 2 ^ 64 → length words ≤ 79 → length (report_line mark n words) ≤ longest_report
unfolding report_line
length-line mark n words m g h = go (eqb (length words) 0)
  where
    go : (t : Bool) → length (cond t [] (mark ++ (text " " ++ (decimal n ++ (words ++ newline))))) ≤ longest_report
    go true = omega arith
    go false =
        omega (
          arith,
          length-append mark (text " " ++ (decimal n ++ (words ++ newline))),
          length-append (decimal n) (words ++ newline),
          length-append words newline,
          length_wide n g,
        )

pub length-report : (mark : List ℕ) (n number : ℕ) (repeat : Bool) (gap lost : ℕ) → length mark ≤ 2 → n < 2 ^ 64 → number < 2 ^ 64 → gap < 2 ^ 64 → lost < 2 ^ 64 → length (report_line mark n (said number repeat gap lost)) ≤ longest_report
length-report mark n number repeat gap lost m i f g h =
    length-line mark n (said number repeat gap lost) m i (length-said number repeat gap lost f g h)

pub length_held : (n : ℕ) → n < 2 ^ 64 → length (held_line n) ≤ longest_report
unfolding held_line
length_held n h = go (eqb n 0)
  where
    go : (t : Bool) → length (cond t [] (text "held " ++ numbered n)) ≤ longest_report
    go true = omega arith
    go false = omega (arith, length-append (decimal n) newline, length_wide n h)

-- ---- case by case

pub behind_none : (word : List ℕ) (n : ℕ) → n ≡ 0 → [] ≡ behind word n
behind_none word n e = rw (eq-eqb n 0 e)

pub behind_some : (word : List ℕ) (n : ℕ) → (n ≡ 0 → ⊥) → word ++ decimal n ≡ behind word n
behind_some word n h = rw (ne_eqb n 0 h)

pub report_none : (mark : List ℕ) (n : ℕ) (words : List ℕ) → eqb (length words) 0 ≡ true → [] ≡ report_line mark n words
unfolding report_line
report_none mark n words e = rw e

pub report_some : (mark : List ℕ) (n : ℕ) (words : List ℕ) → eqb (length words) 0 ≡ false → mark ++ (text " " ++ (decimal n ++ (words ++ newline))) ≡ report_line mark n words
unfolding report_line
report_some mark n words e = rw e

pub held_none : (n : ℕ) → n ≡ 0 → [] ≡ held_line n
unfolding held_line
held_none n e = rw (eq-eqb n 0 e)

pub held_some : (n : ℕ) → (n ≡ 0 → ⊥) → text "held " ++ numbered n ≡ held_line n
unfolding held_line
held_some n h = rw (ne_eqb n 0 h)

-- The report of a program that writes records: nothing for a record that went well; else a line with its mark, its number in the input, and what there is to
-- say, each only where it applies and is not 0.
use Rattle.std.specs.Prelude.{ℕ, ◌+◌, ◌%◌, ◌^◌, Bool, cond, List, [], ◌++◌, eqb, length}
use Prim.Native.String.{String}
use Rattle.text.specs.Text.{text, newline, decimal, numbered}
use Rattle.reports.specs.declared.Said.{Said}

-- the number of the next record, in 64 bits
abbrev pub following : ℕ → ℕ
following n = (n + 1) % 2 ^ 64

-- a number behind a word, where it is not 0
abbrev pub counted : String → ℕ → List ℕ
counted word n = cond (eqb n 0) [] (text word ++ decimal n)

-- the refusal's number; a repeat; outer packets left out; bytes thrown away
unfoldable pub said : ℕ → Bool → ℕ → ℕ → List ℕ
said number repeat gap lost = counted " " number ++ (cond repeat (text " repeat") [] ++ (counted " gap " gap ++ counted " lost " lost))

abbrev pub said_of : Said → List ℕ
said_of s = said s.number s.repeat s.gap s.lost

-- the line of the n-th record, if there is something to say
unfoldable pub report_line : List ℕ → ℕ → List ℕ → List ℕ
report_line mark n words = cond (eqb (length words) 0) [] (mark ++ (text " " ++ (decimal n ++ (words ++ newline))))

-- a part that is held when the input ends
unfoldable pub held_line : ℕ → List ℕ
held_line n = cond (eqb n 0) [] (text "held " ++ numbered n)

-- no line is longer, numbers being of 64 bits
abbrev pub longest_report : ℕ
longest_report = 128

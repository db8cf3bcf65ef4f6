-- Lines of a report, by computation. Assumes nothing.
use mathlib.Core.Path.{◌≡◌, refl}
use mathlib.Core.Bool.{true, false}
use mathlib.Core.List.{List, [], ◌∷◌, ◌++◌}
use Prim.Native.Nat.{ℕ}
use Rattle.text.specs.Text.{text, newline, decimal, decimal_in}
use Rattle.reports.specs.Reports.{said, report_line, held_line}

abbrev lines : List (List ℕ)
lines =
    report_line (text "OP") 7 (said 16 false 0 0)
    ∷ report_line (text "OP") 9 (said 0 false 2 811)
    ∷ report_line (text "OP") 12 (said 17 false 3 1400)
    ∷ report_line (text "OP") 4 (said 0 true 0 0)
    ∷ report_line (text "OP") 5 (said 0 false 0 0)
    ∷ held_line 48
    ∷ []

abbrev written : List (List ℕ)
written =
    (text "OP 7 16" ++ newline)
    ∷ (text "OP 9 gap 2 lost 811" ++ newline)
    ∷ (text "OP 12 17 gap 3 lost 1400" ++ newline)
    ∷ (text "OP 4 repeat" ++ newline)
    ∷ []
    ∷ (text "held 48" ++ newline)
    ∷ []

pub samples : lines ≡ written
unfolding decimal decimal_in said report_line held_line
samples = refl

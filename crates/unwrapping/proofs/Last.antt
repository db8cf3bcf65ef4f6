-- What comes last in the program `unwrap`: the line of the part that is held, and the last line behind it, in a lent rest. Assumes nothing.
use mathlib.Core.Path.{◌≡◌, refl, ap, subst, ◌∙◌}
use mathlib.Core.List.{List, ◌++◌}
use Prim.Native.Nat.{ℕ, ◌+◌, ◌-◌, ◌^◌, ◌≤◌, ◌<◌}
use native.Mathlib.Nat.{zero-add}
use native.Mathlib.Omega.{arith}
use borrow.Rule.Slice.PartMut.{put_mid}
use lib.ListN.{length, take, drop, length-append, length-drop}
use lib.Seq.{length-take-le}
use Rattle.text.specs.Text.{Put}
use Rattle.text.proofs.Laws.{put_both, put_length}
use Rattle.records.specs.declared.Entry.{Entry}
use Rattle.records.specs.Records.{last_line, longest_last}
use Rattle.records.proofs.Entries.{length_last}
use Rattle.programs.specs.Programs.{PutsLast}
use Rattle.reports.specs.Reports.{held_line}
use Rattle.reports.proofs.Laws.{length_held}
use Rattle.tunnel.specs.Unwrap.{shortest_output, part_of}
use Rattle.unwrapping.specs.Unwrapping.{State, unwrap_channels}
use Rattle.unwrapping.proofs.Laws.{put_back}

module _ (held : ℕ) (small : held < 2 ^ 64) (report first : List ℕ) (line : ℕ) (puts : Put (held_line held) report 0 first line) (room : shortest_output ≤ length report) where
  first_length : length first ≡ length report
  first_length = put_length (held_line held) report 0 puts

  pub line-inside : line + longest_last ≤ length first
  line-inside = omega (arith, puts.0, first_length, length_held held small)

  pub rest_room : longest_last ≤ length (take (length first - line) (drop line first))
  rest_room =
      omega (arith, line-inside, length-take-le (length first - line) (drop line first) (omega (arith, length-drop line first)), length-drop line first)

  module _ (e : Entry) (rest : List ℕ) (n : ℕ) (last : Put (last_line e) (take (length first - line) (drop line first)) 0 rest n) where
    both : Put (held_line held ++ last_line e) report 0 (put_mid line (length first - line) first rest) (line + n)
    both =
        put_both (held_line held) (last_line e) report 0 puts
        (ap (λ (k : ℕ). line + k) (last.0 ∙ zero-add (length (last_line e))), ap (put_mid line (length first - line) first) last.1 ∙ put_back (last_line e) first line (omega (arith, length_last e, line-inside)))

    fits : length (held_line held ++ last_line e) ≤ length report
    fits = omega (arith, length-append (held_line held) (last_line e), length_held held small, length_last e)

    pub end_inside : line + n ≤ length report
    end_inside = omega (arith, both.0, fits)

    pub puts_last : (s : State) → held ≡ length (part_of s.reader) → (out : List ℕ) {report' : List ℕ} → report' ≡ put_mid line (length first - line) first rest → PutsLast unwrap_channels s e out report out 0 report' (line + n)
    puts_last s is out {report' = report'} after =
        record {
          stores = (refl, refl);
          tells = subst (λ (k : ℕ). Put (held_line k ++ last_line e) report 0 report' (line + n)) is (both.0, after ∙ both.1);
          output-fits = omega arith;
          report-fits = subst (λ (k : ℕ). length (held_line k ++ last_line e) ≤ length report) is fits;
        }

-- The program `guide`: a file of sections, and the lines that it prints for them.
use Rattle.std.specs.Prelude.{ℕ, ◌+◌, cond, List, eqb, length}
use Rattle.records.specs.declared.Form.TheVariants.{Foreign, Counted}
use Rattle.records.specs.Records.{mark_bytes, length_bytes, mark_of, Forms, body_in, last_line}
use Rattle.records.specs.Transcripts.{Program}
use Rattle.guides.specs.declared.Gathering.{Gathering}
use Rattle.guides.specs.Gathering.{told}
use Rattle.guide_lines.specs.Lines.{section_lines, longest_lines}

-- SE with a section, of any length that two bytes tell
abbrev pub guide_form : Forms
guide_form mark = cond (eqb mark (mark_of "SE")) (Counted 0 65535) Foreign

abbrev pub longest_record : ℕ
longest_record = mark_bytes + length_bytes + 65535

-- what a section leaves, and its lines
abbrev pub next_gathering : Gathering → List ℕ → Gathering
next_gathering g xs = (told g xs).gathering

abbrev pub lines_of : Gathering → List ℕ → List ℕ
lines_of g xs = section_lines (told g xs).answer xs

abbrev pub guide_program : Program Gathering
guide_program =
    record {
      forms = guide_form;
      next = λ g r. next_gathering g (body_in r);
      text = λ g r. lines_of g (body_in r);
      cost = λ g r. length (lines_of g (body_in r));
      longest = longest_lines;
      last = λ g e. last_line e;
    }

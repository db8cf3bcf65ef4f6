-- What the code of a program on a file of records says of one record, and of what comes last.
use Rattle.std.specs.Prelude.{ℕ, ◌+◌, ◌≤◌, ◌≡◌, Bool, true, List, [], length}
use Rattle.text.specs.Text.{Put}
use Rattle.records.specs.declared.Form.{Form}
use Rattle.records.specs.declared.Form.TheVariants.{Foreign, Fixed, Counted}
use Rattle.records.specs.declared.Entry.{Entry}
use Rattle.records.specs.Records.{length_bytes, Record}
use Rattle.records.specs.Transcripts.{Program}
use Rattle.records.specs.Channels.{Channels}

-- a program that reports nothing
abbrev pub alone : {S : Type 0} → Program S → Channels S
alone p =
    record {
      forms = p.forms;
      next = p.next;
      text = p.text;
      report = λ s r. [];
      longest = p.longest;
      last = p.last;
      last_report = λ s e. [];
    }

-- what may stand behind a mark that tells this
abbrev pub Holds : Form → List ℕ → Type 0
Holds Foreign xs = ⊥
Holds (Fixed n) xs = length xs ≡ n
Holds (Counted least most) xs = (length_bytes + least ≤ length xs) × (length xs ≤ length_bytes + most)

-- behind a place of a report there is room for n bytes, if anything is reported
abbrev pub Tellable : Bool → ℕ → ℕ → List ℕ → Type 0
Tellable reports told n report = (told ≤ length report) × (reports ≡ true → told + n ≤ length report)

-- what a record leaves: the state, and its texts, put to the places `to` of an output and `told` of a report, where they have room
pub record Takes {S : Type 0} (c : Channels S) (s : S) (r : Record) (out : List ℕ) (to : ℕ) (report : List ℕ) (told : ℕ) (t : S) (out' : List ℕ) (to' : ℕ) (report' : List ℕ) (told' : ℕ) : Type 0 where
  pub left : t ≡ c.next s r
  pub stores : Put (c.text s r) out to out' to'
  pub tells : Put (c.report s r) report told report' told'
  pub fits : length (c.text s r) + length (c.report s r) ≤ c.longest
  pub inside : told' ≤ length report'

-- what comes last, put to the starts of an output and of a report, where it has room
pub record PutsLast {S : Type 0} (c : Channels S) (s : S) (e : Entry) (out report out' : List ℕ) (to : ℕ) (report' : List ℕ) (told : ℕ) : Type 0 where
  pub stores : Put (c.last s e) out 0 out' to
  pub tells : Put (c.last_report s e) report 0 report' told
  pub output-fits : length (c.last s e) ≤ length out
  pub report-fits : length (c.last_report s e) ≤ length report

-- A program that writes on two channels: what it puts out, and a report. The two share the room of an output.
use Rattle.std.specs.Prelude.{ℕ, ◌+◌, ◌≡◌, List, length}
use Rattle.text.specs.Text.{Put}
use Rattle.records.specs.declared.Entry.{Entry}
use Rattle.records.specs.Records.{Forms, Record, entry_in, size_of}
use Rattle.records.specs.Transcripts.{Program, filled, next_in, text_in}

pub record Channels (S : Type 0) : Type 0 where
  pub forms : Forms
  -- the state that a record leaves, and its texts
  pub next : S → Record → S
  pub text : S → Record → List ℕ
  pub report : S → Record → List ℕ
  -- room for both texts of any record
  pub longest : ℕ
  -- what is written behind the last record, by the state then and what stands there
  pub last : S → Entry → List ℕ
  pub last_report : S → Entry → List ℕ

-- ---- the program on either channel

abbrev pub output_of : {S : Type 0} → Channels S → Program S
output_of c =
    record {
      forms = c.forms;
      next = c.next;
      text = c.text;
      cost = λ s r. length (c.text s r) + length (c.report s r);
      longest = c.longest;
      last = c.last;
    }

abbrev pub report_of : {S : Type 0} → Channels S → Program S
report_of c =
    record {
      forms = c.forms;
      next = c.next;
      text = c.report;
      cost = λ s r. length (c.text s r) + length (c.report s r);
      longest = c.longest;
      last = c.last_report;
    }

-- what the record at the start of xs leaves, if it is whole
pub record Turns {S : Type 0} (c : Channels S) (s : S) (xs : List ℕ) (at : ℕ) (out : List ℕ) (to : ℕ) (report : List ℕ) (told : ℕ) (t : S) (read : ℕ) (out' : List ℕ) (to' : ℕ) (report' : List ℕ) (told' : ℕ) : Type 0 where
  pub left : t ≡ next_in (output_of c) s xs
  pub place : read ≡ at + size_of (entry_in c.forms xs)
  pub stores : Put (text_in (output_of c) s xs) out to out' to'
  pub tells : Put (text_in (report_of c) s xs) report told report' told'

-- what the records at the start of a block leave, as many as the output takes
pub record Fills {S : Type 0} (c : Channels S) (s : S) (block out report : List ℕ) (t : S) (read : ℕ) (out' : List ℕ) (wrote : ℕ) (report' : List ℕ) (told : ℕ) : Type 0 where
  pub left : t ≡ (filled (output_of c) (length out) s block).state
  pub place : read ≡ (filled (output_of c) (length out) s block).read
  pub stores : Put (filled (output_of c) (length out) s block).text out 0 out' wrote
  pub tells : Put (filled (report_of c) (length out) s block).text report 0 report' told

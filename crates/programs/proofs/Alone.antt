-- A program that reports nothing, as one on two channels. Assumes nothing.
use mathlib.Core.Path.{◌≡◌, refl, sym, subst, ◌∙◌}
use mathlib.Core.List.{List, []}
use Prim.Native.Nat.{ℕ, ◌+◌, ◌-◌, ◌≤◌}
use native.Mathlib.Nat.{add-zero}
use native.Mathlib.Omega.{arith}
use lib.ListN.{length, take, drop, length-drop}
use lib.Seq.{take_all}
use Rattle.text.specs.Text.{Put}
use Rattle.text.proofs.Laws.{put_same}
use Rattle.records.specs.declared.Entry.{Entry}
use Rattle.records.specs.Records.{Record, last_line, longest_last}
use Rattle.records.specs.Transcripts.{Program, Filled, filled}
use Rattle.records.specs.Channels.{output_of, Fills}
use Rattle.records.proofs.Entries.{length_last}
use Rattle.programs.specs.Programs.{alone, Takes, PutsLast}

-- what stands behind a place, as code reads it
pub all_behind : (k : ℕ) (xs : List ℕ) → take (length xs - k) (drop k xs) ≡ drop k xs
all_behind k xs = take_all (length xs - k) (drop k xs) (omega (arith, length-drop k xs))

module _ {S : Type 0} (p : Program S) where
  -- a record that was put
  pub takes_alone : {s : S} {r : Record} {out : List ℕ} {to : ℕ} {report : List ℕ} {told : ℕ} {t : S} {out' : List ℕ} {to' : ℕ} → t ≡ p.next s r → Put (p.text s r) out to out' to' → length (p.text s r) ≤ p.longest → told ≤ length report → Takes (alone p) s r out to report told t out' to' report told
  takes_alone {told = told} left stores fits inside =
      record { left = left; stores = stores; tells = (sym (add-zero told), refl); fits = omega arith; inside = inside }

  -- the last line
  pub puts_line : {s : S} {e : Entry} {out report out' : List ℕ} {to : ℕ} → last_line e ≡ p.last s e → longest_last ≤ length out → Put (last_line e) out 0 out' to → PutsLast (alone p) s e out report out' to report 0
  puts_line {s = s} {e = e} {out = out} is room puts =
      record { stores = put_same out 0 is puts; tells = (refl, refl); output-fits = subst (λ (l : List ℕ). length l ≤ length out) is (omega (arith, length_last e)); report-fits = omega arith }

  -- where a record takes the room of its text and no more, its output is the program's own
  module _ (exact : (s : S) (r : Record) → p.cost s r ≡ length (p.text s r)) where
    pub output_alone : output_of (alone p) ≡ p
    output_alone =
        λ i. record { forms = p.forms; next = p.next; text = p.text; cost = λ s r. (add-zero (length (p.text s r)) ∙ sym (exact s r)) i; longest = p.longest; last = p.last }

    pub fills_alone : {s : S} {block out report : List ℕ} {t : S} {read : ℕ} {out' : List ℕ} {wrote : ℕ} {report' : List ℕ} {told : ℕ} → Fills (alone p) s block out report t read out' wrote report' told → let f = filled p (length out) s block in (t ≡ f.state) × (read ≡ f.read) × Put f.text out 0 out' wrote
    fills_alone {s = s} {block = block} {out = out} {t = t} {read = read} {out' = out'} {wrote = wrote} fills =
        subst (λ (q : Program S). (t ≡ (filled q (length out) s block).state) × (read ≡ (filled q (length out) s block).read) × Put (filled q (length out) s block).text out 0 out' wrote) output_alone (fills.left, fills.place, fills.stores)

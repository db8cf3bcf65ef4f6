-- The log as a program over records: its transcript, and what its calls keep. Assumes nothing.
use mathlib.Core.Path.{◌≡◌, refl, sym, ap, ◌∙◌}
use mathlib.Core.Bool.{Bool, true, false, cond}
use mathlib.Core.List.{List, [], ◌∷◌, ◌++◌, map, flat_map}
use Prim.Native.Nat.{ℕ, ◌≤◌}
use native.Mathlib.Omega.{arith}
use lib.Dec.{eqb}
use lib.ListN.{length, take, length-take}
use Rattle.std.proofs.Common.{Result, Ok, Err}
use Rattle.text.specs.Text.{Put}
use Rattle.records.specs.declared.Form.{Form}
use Rattle.records.specs.declared.Form.TheVariants.{Foreign, Fixed}
use Rattle.records.specs.Records.{mark_of, Record, File, file_in, form_bytes}
use Rattle.records.specs.declared.Entry.{Entry}
use Rattle.records.specs.Transcripts.{text_of, printed_with as Transcripts·printedWith, filled}
use Rattle.records.specs.Channels.{Fills}
use Rattle.records.proofs.Entries.{Within}
use Rattle.records.proofs.Transcripts.{Fits}
use Rattle.programs.specs.Programs.{alone}
use Rattle.programs.proofs.Alone.{fills_alone}
use Rattle.meaning.specs.declared.Refusal.{Refusal}
use Rattle.meaning.specs.declared.Kind.{Kind}
use Rattle.meaning.specs.declared.Kind.TheVariants.{This}
use Rattle.meaning.specs.Sizes.{longest_listing}
use Rattle.slots.specs.declared.Answer.{Answer}
use Rattle.slots.specs.declared.Answer.TheVariants.{Missing, NewList}
use Rattle.segments.specs.Segment.{segment_bytes, segment_kind}
use Rattle.notes.specs.Notes.{lent_for}
use Rattle.desk.specs.declared.Desk.{Desk}
use Rattle.desk.specs.Desks.{well_formed, segment_after, shown_length, shown}
use Rattle.desk.specs.Calls.{Call, frame, gathering, segment, State, shown_in, left_by, told_by, ran_by, ran, Ready}
use Rattle.desk.proofs.Laws.{shown_small}
use Rattle.effects.proofs.Keeps.{gathering-fits, frame-fits, segment-fits}
use Rattle.effects.proofs.Accepted.{missing_few}
use Rattle.effects.proofs.Ends.{refusal_small}
use Rattle.effects.proofs.Calls.{left_lengths, wholly_again}
use Rattle.lines.specs.Lines.{longest_lines}
use Rattle.lines.proofs.Laws.{length-frame, Countable, length-answer}
use Rattle.replay.specs.Log.{log_form, longest_record, call_of, lines_of, printed_with, log_program}

-- ---- the records

within-cond : (t : Bool) (f g : Form) → form_bytes f ≤ longest_record → form_bytes g ≤ longest_record → form_bytes (cond t f g) ≤ longest_record
within-cond true f g h k = h
within-cond false f g h k = k

pub log-within : Within longest_record log_form
log-within m =
    within-cond (eqb m (mark_of "FR")) (Fixed 0) _ (omega arith)
    (within-cond (eqb m (mark_of "GA")) (Fixed 0) _ (omega arith)
    (within-cond (eqb m (mark_of "SG")) (Fixed segment_bytes) Foreign (omega arith) (omega arith)))

-- ---- the transcript is that of the program

-- the calls of the records that follow are the same after a call
call_again : (s : State) (c : Call) (r : Record) → call_of (left_by segment_after s c) r ≡ call_of s r
call_again s c r = ap (λ (w : Call). cond (eqb r.mark (mark_of "FR")) frame (cond (eqb r.mark (mark_of "GA")) gathering w)) (wholly_again s c r.content)

calls_again : (s : State) (c : Call) (rs : List Record) → map (call_of (left_by segment_after s c)) rs ≡ map (call_of s) rs
calls_again s c [] = refl
calls_again s c (r ∷ rs) = λ i. call_again s c r i ∷ calls_again s c rs i

run-text : (s : State) (rs : List Record) → flat_map lines_of (ran s (map (call_of s) rs)).told ≡ text_of log_program s rs
unfolding ran_by text_of flat_map
run-text s [] = refl
run-text s (r ∷ rs) =
    let t : State = left_by segment_after s (call_of s r) in
    ap (λ (x : List ℕ). lines_of (told_by segment_after s (call_of s r)) ++ x)
    (ap (λ (cs : List Call). flat_map lines_of (ran t cs).told) (sym (calls_again s (call_of s r) rs)) ∙ run-text t rs)

pub printed_program : (last : Entry → List ℕ) (s : State) (log : List ℕ) → printed_with last s log ≡ Transcripts·printedWith (λ t. last) log_program s log
unfolding printed_with Transcripts·printedWith
printed_program last s log =
    let f : File = file_in log_form log in
    ap (λ (x : List ℕ). x ++ last f.end) (run-text s f.records)

-- ---- the desk stays well formed, and the buffers stay long enough

left_ready : (s : State) (c : Call) → Ready s → Ready (left_by segment_after s c)
left_ready s c y =
    let same = left_lengths s c in
    (formed c, rw same.0 y.1, rw same.1 y.2)
  where
    formed : (c : Call) → well_formed (left_by segment_after s c).desk ≡ true
    formed frame = frame-fits s.desk
    formed gathering = gathering-fits s.desk
    formed (segment c) = segment-fits s.desk c.segment (take c.first s.first) (take c.second s.second) y.0

pub next_ready : (s : State) (r : Record) → Ready s → Ready (log_program.next s r)
next_ready s r = left_ready s (call_of s r)

-- ---- a record's lines have room

pub length-shown : (k : Kind) (s : State) → length (shown_in k s) ≤ longest_listing
unfolding shown
length-shown k s =
    let n : ℕ = shown_length k s.desk s.first s.second in
    omega (arith, length-take n (lent_for k s.desk.notes.swapped s.first s.second), shown_small k s.desk s.first s.second)

pub few : (d : Desk) (xs first second : List ℕ) (a : Result Answer Refusal) → (segment_after d xs first second).answer ≡ a → Countable a
few d xs first second (Ok (Missing n)) is = omega (arith, missing_few d xs first second n is)
few d xs first second (Ok (NewList k n)) is = tt
few d xs first second (Err f) is = omega (arith, refusal_small d xs first second f is)

told_fits : (s : State) (c : Call) → length (lines_of (told_by segment_after s c)) ≤ longest_lines
told_fits s frame = length-frame (shown_in This (left_by segment_after s frame)) (length-shown This (left_by segment_after s frame))
told_fits s gathering = omega arith
told_fits s (segment c) =
    let t : State = left_by segment_after s (segment c) in
    let one : List ℕ = take c.first s.first in
    let two : List ℕ = take c.second s.second in
    let a : Result Answer Refusal = (segment_after s.desk c.segment one two).answer in
    length-answer a (shown_in (segment_kind c.segment) t) (few s.desk c.segment one two a refl) (length-shown (segment_kind c.segment) t)

-- a record takes the room of its lines and no more
pub lines_cost : (s : State) (r : Record) → log_program.cost s r ≡ length (log_program.text s r)
lines_cost s r = refl

pub lines_fit : Fits log_program
lines_fit = record { text = λ s r. omega (arith, lines_cost s r); cost = λ s r. told_fits s (call_of s r) }

-- what `programs::fill` says of `Replay` is what the program gives
pub log_fills : {s : State} {block out report : List ℕ} {t : State} {read : ℕ} {out' : List ℕ} {wrote : ℕ} {report' : List ℕ} {told : ℕ} → Fills (alone log_program) s block out report t read out' wrote report' told → let f = filled log_program (length out) s block in (t ≡ f.state) × (read ≡ f.read) × Put f.text out 0 out' wrote
log_fills = fills_alone log_program lines_cost

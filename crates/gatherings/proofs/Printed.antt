-- The log of the segments that the writer gives, printed: the answers count down, then the listing stands there again. Assumes nothing.
use mathlib.Core.Path.{◌≡◌, refl, sym, ap, ap₂, ◌∙◌, subst}
use mathlib.Core.Bool.{true, false, cond}
use mathlib.Core.List.{List, [], ◌∷◌, ◌++◌, map, flat_map, append_assoc, nil≢cons, head-eq_of_cons-eq, tail-eq_of_cons-eq}
use Prim.Native.Nat.{ℕ, zero, suc, ◌+◌, ◌-◌, ◌≤◌}
use native.Mathlib.Omega.{arith}
use borrow.Author.Tests.{ne_eqb}
use lib.Dec.{eqb, eqb-suc-zero}
use lib.ListN.{length, take, drop, length-append}
use lib.Seq.{take_at, drop_at}
use Rattle.std.proofs.Common.{Result, Ok}
use Rattle.octets.specs.Bits.{Bytes}
use Rattle.octets.specs.Each.{Each}
use Rattle.octets.specs.Checks.{among}
use Rattle.text.specs.Text.{text, decimal_in, decimal}
use Rattle.records.specs.declared.Form.TheVariants.{Fixed}
use Rattle.records.specs.declared.Entry.TheVariants.{End, Whole}
use Rattle.records.specs.Records.{mark_bytes, mark_in, mark_of, entry_in, is_whole, size_of, Record, record_in, File, file_in, last_line}
use Rattle.records.proofs.Entries.{mark_first, shape_entry}
use Rattle.records.proofs.Transcripts.{file_record, file_none}
use Rattle.meaning.specs.declared.Refusal.{Refusal}
use Rattle.meaning.specs.declared.Kind.{Kind}
use Rattle.meaning.specs.Sizes.{longest_chunk, longest_listing}
use Rattle.meaning.specs.Lists.{FicList}
use Rattle.meaning.specs.Listing.{listing}
use Rattle.meaning.specs.Said.{listing_fits, list_said}
use Rattle.meaning.specs.Plain.{Fits, plain_length}
use Rattle.meaning.proofs.Said.{listing-said, said_fitting}
use Rattle.segments.specs.Segment.{segment_bytes, segment_kind}
use Rattle.segments.specs.Cut.{segment_count, up_from}
use Rattle.slots.specs.declared.Answer.{Answer}
use Rattle.slots.specs.declared.Answer.TheVariants.{Missing, NewList}
use Rattle.writer.specs.Writing.{plain_segments}
use Rattle.writer.proofs.Outputs.{plain_segments_whole}
use Rattle.typed.specs.Typed.{log_of}
use Rattle.desk.specs.declared.Desk.{Desk}
use Rattle.desk.specs.Desks.{segment_after}
use Rattle.desk.specs.Calls.{Call, State, state, wholly, shown_in, left_by, ran_by, ran, answers_of}
use Rattle.effects.proofs.Frames.{listed_shown}
use Rattle.lines.specs.Lines.{answer_lines}
use Rattle.replay.specs.Log.{log_form, call_of, lines_of, printed, printed_with}
use Rattle.gatherings.specs.Deliveries.{AtStart}
use Rattle.gatherings.specs.Once.{different, piece_answer, piece_answers}
use Rattle.gatherings.proofs.Rounds.{segments_delivered}

-- ---- the records of such a log

abbrev record_of : List ℕ → Record
record_of xs = record { mark = mark_of "SG"; content = xs }

module _ (xs rest : List ℕ) (whole : length xs ≡ segment_bytes) where
  abbrev log : List ℕ
  log = text "SG" ++ xs ++ rest

  size_logged : length log ≡ mark_bytes + (segment_bytes + length rest)
  size_logged = omega (arith, length-append xs rest)

  mark_logged : mark_in log ≡ mark_of "SG"
  mark_logged = mark_first _ _ (xs ++ rest)

  entry_logged : entry_in log_form log ≡ Whole (mark_bytes + segment_bytes)
  entry_logged =
      shape_entry log_form log (Whole (mark_bytes + segment_bytes)) (Fixed segment_bytes, ap log_form mark_logged, refl, refl, omega (arith, size_logged))

  record_logged : record_in (mark_bytes + segment_bytes) log ≡ record_of xs
  record_logged = λ i. record { mark = mark_logged i; content = take_at xs rest segment_bytes whole i }

  rest_logged : drop (mark_bytes + segment_bytes) log ≡ rest
  rest_logged = drop_at (text "SG" ++ xs) rest (mark_bytes + segment_bytes) (omega arith)

  file_logged : let f = file_in log_form rest in file_in log_form log ≡ record { records = record_of xs ∷ f.records; end = f.end }
  file_logged =
      let e = entry_logged in
      file_record log_form log (ap is_whole e)
      ∙ (λ i. let f = file_in log_form (drop (size_of (e i)) log) in record { records = record_in (size_of (e i)) log ∷ f.records; end = f.end })
      ∙ (λ i. let f = file_in log_form (rest_logged i) in record { records = record_logged i ∷ f.records; end = f.end })

log-records : (segments : List (List ℕ)) → Each (λ s. length s ≡ segment_bytes) segments → file_in log_form (log_of segments) ≡ record { records = map record_of segments; end = End }
unfolding flat_map entry_in
log-records [] h = file_none log_form [] refl
log-records (s ∷ more) h =
    ap (file_in log_form) (append_assoc (text "SG") s (log_of more))
    ∙ file_logged s (log_of more) h.0
    ∙ ap (λ (f : File). record { records = record_of s ∷ f.records; end = f.end }) (log-records more h.1)

calls_same : (s : State) (segments : List (List ℕ)) → map (call_of s) (map record_of segments) ≡ map (wholly s) segments
calls_same s [] = refl
calls_same s (x ∷ more) = ap (λ (cs : List Call). wholly s x ∷ cs) (calls_same s more)

-- ---- segments whose answers are those of n pieces in order, the listing xs being shown then

module _ (k : Kind) (xs : List ℕ) (n : ℕ) where
  abbrev answers : List ℕ → ℕ → ℕ → List (Result Answer Refusal)
  answers came i j = piece_answers n k (length xs) came (up_from i j)

  abbrev lines : List (Result Answer Refusal) → List ℕ
  lines told = flat_map (λ a. answer_lines a xs) told

  -- j + 1 pieces are missing before the piece i
  answer_next : (j i : ℕ) (came : List ℕ) → i + suc j ≡ n → different came ≡ i → among came i ≡ false → piece_answer n k (length xs) came i ≡ cond (eqb j 0) (Ok (NewList k (length xs))) (Ok (Missing j))
  answer_next j i came e count free =
      let missing : n - suc i ≡ j = omega arith in
      simp (free, count, missing)

  module _ (s : State) where
    told_lines : (j i : ℕ) (came : List ℕ) → i + j ≡ n → different came ≡ i → ((p : ℕ) → i ≤ p → among came p ≡ false) → (t : State) (segments : List (List ℕ)) → let r = ran t (map (wholly s) segments) in answers_of r.told ≡ answers came i j → shown_in k r.left ≡ xs → flat_map lines_of r.told ≡ lines (answers came i j)
    unfolding ran_by flat_map up_from answer_lines
    told_lines zero i came e count above t [] is shows = refl
    told_lines zero i came e count above t (x ∷ more) is shows = absurd (nil≢cons (sym is))
    told_lines (suc j) i came e count above t [] is shows = absurd (nil≢cons is)
    told_lines (suc zero) i came e count above t (x ∷ y ∷ more) is shows = absurd (nil≢cons (sym (tail-eq_of_cons-eq is)))
    told_lines (suc zero) i came e count above t (x ∷ []) is shows =
        let list = head-eq_of_cons-eq is ∙ answer_next zero i came e count (above i (omega arith)) in
        let kind : segment_kind x ≡ k = sym (listed_shown t.desk x (take (length s.first) t.first) (take (length s.second) t.second) k (length xs) list).0 in
        let there : shown_in (segment_kind x) (left_by segment_after t (wholly s x)) ≡ xs = ap (λ (j : Kind). shown_in j (left_by segment_after t (wholly s x))) kind ∙ shows in
        ap₂ ◌++◌ (ap₂ answer_lines (head-eq_of_cons-eq is) there) refl
    told_lines (suc (suc j)) i came e count above t (x ∷ more) is shows =
        let free = above i (omega arith) in
        let head = head-eq_of_cons-eq is in
        let few : piece_answer n k (length xs) came i ≡ Ok (Missing (suc j)) = simp (eqb-suc-zero j) at (answer_next (suc j) i came e count free) in
        let after : State = left_by segment_after t (wholly s x) in
        let told = ap (λ (a : Result Answer Refusal). answer_lines a (shown_in (segment_kind x) after)) (head ∙ few) in
        ap₂ ◌++◌ (told ∙ sym (ap (λ (a : Result Answer Refusal). answer_lines a xs) few))
        (told_lines (suc j) (suc i) (i ∷ came) (omega arith) (simp (free, count))
        (λ p low. let apart : p ≡ i → ⊥ = λ q. omega arith in simp (ne_eqb p i apart, above p (omega arith)))
        after more (tail-eq_of_cons-eq is) shows)

    order-printed : (segments : List (List ℕ)) → Each (λ x. length x ≡ segment_bytes) segments → let r = ran s (map (wholly s) segments) in answers_of r.told ≡ piece_answers n k (length xs) [] (up_from 0 n) → shown_in k r.left ≡ xs → printed s (log_of segments) ≡ flat_map (λ a. answer_lines a xs) (piece_answers n k (length xs) [] (up_from 0 n)) ++ text "END 0\n"
    unfolding printed_with last_line decimal decimal_in
    order-printed segments h is shows =
        ap (λ (f : File). flat_map lines_of (ran s (map (call_of s) f.records)).told ++ last_line f.end) (log-records segments h)
        ∙ ap (λ (cs : List Call). flat_map lines_of (ran s cs).told ++ text "END 0\n") (calls_same s segments)
        ∙ ap (λ (l : List ℕ). l ++ text "END 0\n") (told_lines n 0 [] (omega arith) refl (λ p low. refl) s segments is shows)

module _ (k : Kind) (l : FicList) (fits : Fits l) (room : plain_length l ≤ longest_chunk) where
  log-printed : (d : Desk) → AtStart d → (first second : List ℕ) → longest_listing ≤ length first → longest_listing ≤ length second → let n = segment_count (plain_length l) in printed (state d first second) (log_of (plain_segments k l)) ≡ flat_map (λ a. answer_lines a (listing l)) (piece_answers n k (length (listing l)) [] (up_from 0 n)) ++ text "END 0\n"
  log-printed d start first second one other =
      let c = segments_delivered k l fits room d start first second one other in
      order-printed k (listing l) (segment_count (plain_length l)) (state d first second) (plain_segments k l) (plain_segments_whole k l fits room) c.list.answers c.list.shows

pub written_printed : (xs : List ℕ) (k : Kind) → Bytes xs → listing_fits xs ≡ true → plain_length (list_said xs) ≤ longest_chunk → (d : Desk) → AtStart d → (first second : List ℕ) → longest_listing ≤ length first → longest_listing ≤ length second → let n = segment_count (plain_length (list_said xs)) in printed (state d first second) (log_of (plain_segments k (list_said xs))) ≡ flat_map (λ a. answer_lines a xs) (piece_answers n k (length xs) [] (up_from 0 n)) ++ text "END 0\n"
written_printed xs k bytes fits room d start first second one other =
    let l : FicList = list_said xs in
    let n : ℕ = segment_count (plain_length l) in
    subst (λ (ys : List ℕ). printed (state d first second) (log_of (plain_segments k l)) ≡ flat_map (λ a. answer_lines a ys) (piece_answers n k (length ys) [] (up_from 0 n)) ++ text "END 0\n") (listing-said xs bytes fits)
    (log-printed k l (said_fitting xs bytes fits) room d start first second one other)

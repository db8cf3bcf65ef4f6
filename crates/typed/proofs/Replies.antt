-- What is answered to a listing and to a text, case by case. Assumes nothing.
use mathlib.Core.Path.{◌≡◌, refl, sym, ap, ap₂, ◌∙◌, subst}
use mathlib.Core.Bool.{Bool, true, false, ◌&&◌, ◌||◌, and-eq-true_iff}
use mathlib.Core.List.{List, ◌++◌}
use Prim.Native.Nat.{ℕ, ◌+◌, ◌-◌, ◌*◌, ◌/◌, ◌%◌, ◌≤◌, ◌<◌}
use native.Mathlib.Nat.{zero-add}
use native.Mathlib.Omega.{arith}
use borrow.Author.Tests.{ltb-false, lt-ltb, le-ltb, eq-eqb, ne_eqb}
use lib.Dec.{eqb, ltb}
use lib.ListN.{length, drop, replicate}
use lib.Seq.{sets, sets-eq}
use Rattle.std.proofs.Common.{Result, Ok, Err, ok_or}
use Rattle.octets.specs.Bits.{Bytes}
use Rattle.octets.specs.Each.{Each}
use Rattle.octets.proofs.Laws.{either}
use Rattle.hex_text.specs.Hex.{hex_fits, hex_said}
use Rattle.hex_text.proofs.Read.{bytes-hex_said}
use Rattle.meaning.specs.declared.Kind.{Kind}
use Rattle.meaning.specs.declared.Kind.TheVariants.{This, Next}
use Rattle.records.specs.Records.{mark_bytes}
use Rattle.meaning.specs.Sizes.{longest_chunk}
use Rattle.meaning.specs.Said.{listing_fits, list_said}
use Rattle.meaning.specs.Plain.{Fits, plain_length}
use Rattle.meaning.proofs.Said.{said_fitting}
use Rattle.segments.specs.Segment.{segment_bytes, most_segments}
use Rattle.segments.specs.Cut.{joined}
use Rattle.writer.specs.declared.Unwritten.{Unwritten}
use Rattle.writer.specs.Writing.{shortest_output, unwritten_number, plain_segments, WriteSays}
use Rattle.writer.proofs.Answers.{segments_says}
use Rattle.writer.proofs.Outputs.{length-plain_segments, plain_segments_whole}
use Rattle.typed.specs.declared.Unanswered.{Unanswered}
use Rattle.typed.specs.declared.Unanswered.TheVariants.{Not, Unclear, TooLong, NoRoom}
use Rattle.typed.specs.Typed.{longest_text, kind_bytes, word_this, word_next, word_kind, begins, line_length, digits_typed, bytes_typed, listing_typed, clear, kind_typed, log_of, longest_log, ReplyValues, reply_values, answer_for, reply_for, reply_to, Answerable, reply_log, ReplySays, log_put}
use Rattle.typed.proofs.Texts.{line_room}
use Rattle.typed.proofs.Logs.{log_put-joined, length-log_of}

-- the writer's output before
abbrev blank : List ℕ
blank = replicate shortest_output 0

-- ---- the writer's answer w to a listing

module _ (xs : List ℕ) (k : Kind) (after : List ℕ) (w : Result ℕ Unwritten) (says : WriteSays xs k blank w after) where
  pub reply_refused : {f : Unwritten} → w ≡ Err f → Err (Not f) ≡ reply_for (answer_for k xs)
  reply_refused is = ap reply_for (sym is ∙ says.answers)

  module _ (n : ℕ) (is : w ≡ Ok n) (bytes : Bytes xs) where
    abbrev s : List (List ℕ)
    s = plain_segments k (list_said xs)

    told : (listing_fits xs ≡ true) × (plain_length (list_said xs) ≤ longest_chunk) × (n ≡ length s) × (after ≡ joined s ++ drop (segment_bytes * n) blank)
    told = segments_says xs k blank (subst (λ (r : Result ℕ Unwritten). WriteSays xs k blank r after) is says)

    held : Fits (list_said xs)
    held = said_fitting xs bytes told.0

    whole : Each (λ s. length s ≡ segment_bytes) s
    whole = plain_segments_whole k (list_said xs) held told.1

    pub segments_few : n ≤ most_segments
    segments_few = omega (arith, told, length-plain_segments k (list_said xs) held)

    -- their log, put over what was lent
    pub reply_log_lem : (log left : List ℕ) → longest_log ≤ length log → left ≡ sets log 0 (log_put n after) → let r = Ok ((mark_bytes + segment_bytes) * n) in (r ≡ reply_for (answer_for k xs)) × (left ≡ reply_log r k xs log)
    reply_log_lem log left room put =
        let own : log_put n after ≡ log_of s = ap₂ log_put told.2 told.3 ∙ log_put-joined s (drop (segment_bytes * n) blank) whole in
        let long : length (log_of s) ≡ (mark_bytes + segment_bytes) * n = omega (arith, length-log_of s whole, told.2) in
        let fit : 0 + length (log_of s) ≤ length log = omega (arith, long, segments_few) in (
          ap reply_for (sym is ∙ says.answers),
          put
              ∙ ap (sets log 0) own
              ∙ sets-eq (log_of s) log 0 fit
              ∙ ap (λ (m : ℕ). log_of s ++ drop m log) (zero-add (length (log_of s)) ∙ long),
        )

-- ---- the word of a text

-- it is there, the kind k is its, and the line is not shorter
pub record Worded (text : List ℕ) (k : Kind) : Type 0 where
  pub said : (begins word_this text || begins word_next text) ≡ true
  pub kind : kind_typed text ≡ k
  pub room : (kind_bytes ≤ line_length text) × (line_length text ≤ length text)

-- as the code has it
module _ (text : List ℕ) where
  abbrev pub kind_or : Result Kind Unanswered
  kind_or = ok_or (word_kind text) Unclear

  kind_this : begins word_this text ≡ true → kind_or ≡ Ok This
  kind_this e = simp e

  kind_next : begins word_this text ≡ false → begins word_next text ≡ true → kind_or ≡ Ok Next
  kind_next a e = simp (a, e)

  kind_none : begins word_this text ≡ false → begins word_next text ≡ false → kind_or ≡ Err Unclear
  kind_none a b = simp (a, b)

  pub worded : {k : Kind} → kind_or ≡ Ok k → Worded text k
  worded {k} e =
      either (begins word_this text)
      (λ a.
      let z : Ok This ≡ Ok k = sym (kind_this a) ∙ e in
      let is : This ≡ k = cc in
      subst (Worded text) is (record { said = simp a; kind = simp a; room = line_room text word_this a refl refl }))
      (λ a.
      either (begins word_next text)
      (λ b.
      let z : Ok Next ≡ Ok k = sym (kind_next a b) ∙ e in
      let is : Next ≡ k = cc in
      subst (Worded text) is (record { said = simp (a, b); kind = simp a; room = line_room text word_next b refl refl }))
      (λ b. let z : Err Unclear ≡ Ok k = sym (kind_none a b) ∙ e in cc))

  pub wordless : {r : Unanswered} → kind_or ≡ Err r → (begins word_this text ≡ false) × (begins word_next text ≡ false) × (r ≡ Unclear)
  wordless {r} e =
      either (begins word_this text) (λ a. let z : Ok This ≡ Err r = sym (kind_this a) ∙ e in cc)
      (λ a.
      either (begins word_next text) (λ b. let z : Ok Next ≡ Err r = sym (kind_next a b) ∙ e in cc)
      (λ b. let z : Err Unclear ≡ Err r = sym (kind_none a b) ∙ e in (a, b, cc)))

-- ---- the answer to a text

module _ (text log : List ℕ) where
  -- an answer that is the right one leaves what the right one leaves
  says : {answer : Result ℕ Unanswered} → answer ≡ reply_to text log → ReplySays text log answer (reply_log answer (kind_typed text) (listing_typed text) log)
  says e = record { answers = e; leaves = ap (λ (r : Result ℕ Unanswered). reply_log r (kind_typed text) (listing_typed text) log) e }

  pub says_short : length log < longest_log → ReplySays text log (Err NoRoom) log
  unfolding reply_to
  says_short h = says (sym (simp (lt-ltb _ _ h)))

  module _ (room : longest_log ≤ length log) where
    pub says_long : longest_text < length text → ReplySays text log (Err TooLong) log
    unfolding reply_to
    says_long h = says (sym (simp (le-ltb _ _ room, lt-ltb _ _ h)))

    module _ (fits : length text ≤ longest_text) where
      unclear : clear text ≡ false → ReplySays text log (Err Unclear) log
      unfolding reply_to
      unclear e = says (sym (simp (le-ltb _ _ room, le-ltb _ _ fits, e)))

      pub says_wordless : begins word_this text ≡ false → begins word_next text ≡ false → ReplySays text log (Err Unclear) log
      says_wordless a b = unclear (simp (a, b))

      -- after a word, the line's length n told
      module _ {k : Kind} (w : Worded text k) {n : ℕ} (is : n ≡ line_length text) where
        clear_tests : clear text ≡ eqb ((n - kind_bytes) % 2) 0 && hex_fits ((n - kind_bytes) / 2) (drop kind_bytes text)
        clear_tests = ap₂ ◌&&◌ w.said (ap (λ (m : ℕ). eqb ((m - kind_bytes) % 2) 0 && hex_fits ((m - kind_bytes) / 2) (drop kind_bytes text)) (sym is))

        pub says_odd : ((n - kind_bytes) % 2 ≡ 0 → ⊥) → ReplySays text log (Err Unclear) log
        says_odd odd = unclear (clear_tests ∙ ap₂ ◌&&◌ (ne_eqb _ _ odd) refl)

        module _ (even : (n - kind_bytes) % 2 ≡ 0) where
          pub says_digitless : hex_fits ((n - kind_bytes) / 2) (drop kind_bytes text) ≡ false → ReplySays text log (Err Unclear) log
          says_digitless e = unclear (clear_tests ∙ ap₂ ◌&&◌ (eq-eqb _ _ even) e)

          pub says_answered : hex_fits ((n - kind_bytes) / 2) (drop kind_bytes text) ≡ true → {r : Result ℕ Unanswered} {left : List ℕ} → let xs = hex_said ((n - kind_bytes) / 2) (drop kind_bytes text) in r ≡ reply_for (answer_for k xs) → left ≡ reply_log r k xs log → ReplySays text log r left
          unfolding reply_to
          says_answered e {r} {left} reply leaves =
              let clears : clear text ≡ true = clear_tests ∙ ap₂ ◌&&◌ (eq-eqb _ _ even) e in
              let xs : listing_typed text ≡ hex_said ((n - kind_bytes) / 2) (drop kind_bytes text) = ap (λ (m : ℕ). hex_said ((m - kind_bytes) / 2) (drop kind_bytes text)) (sym is) in
              let right : r ≡ reply_to text log = reply ∙ sym (simp (le-ltb _ _ room, le-ltb _ _ fits, clears) (ap₂ (λ (j : Kind) (ys : List ℕ). reply_for (answer_for j ys)) w.kind xs)) in
              record { answers = right; leaves = leaves ∙ sym (ap₂ (λ (j : Kind) (ys : List ℕ). reply_log r j ys log) w.kind xs) ∙ (says right).leaves }

-- ---- the values of an answer

abbrev nothing : ReplyValues
nothing = record { log = false; number = 0; length = 0 }

module _ (text log : List ℕ) where
  module _ (ok : Answerable text log) where
    answerable_reply : reply_to text log ≡ reply_for (answer_for (kind_typed text) (listing_typed text))
    unfolding reply_to
    answerable_reply = simp (le-ltb _ _ ok.0, le-ltb _ _ ok.1, ok.2)

    pub values_written : {n : ℕ} → answer_for (kind_typed text) (listing_typed text) ≡ Ok n → reply_values (reply_to text log) ≡ record { log = true; number = 0; length = (mark_bytes + segment_bytes) * n }
    values_written e = ap reply_values (answerable_reply ∙ ap reply_for e)

    pub values_refused : {f : Unwritten} → answer_for (kind_typed text) (listing_typed text) ≡ Err f → reply_values (reply_to text log) ≡ record { log = false; number = unwritten_number f; length = 0 }
    values_refused e = ap reply_values (answerable_reply ∙ ap reply_for e)

  pub values_unasked : (Answerable text log → ⊥) → reply_values (reply_to text log) ≡ nothing
  unfolding reply_to
  values_unasked none =
      either (ltb (length log) longest_log) (λ s. simp s)
      (λ s.
      either (ltb longest_text (length text)) (λ l. simp (s, l))
      (λ l. either (clear text) (λ c. absurd (none (ltb-false _ _ s, ltb-false _ _ l, c))) (λ c. simp (s, l, c))))

-- ---- the length of a log

-- the writer's answer to bytes
answer-short : (k : Kind) (xs : List ℕ) → Bytes xs → (reply_values (reply_for (answer_for k xs))).length ≤ longest_log
answer-short k xs b = go (answer_for k xs) refl
  where
    go : (w : Result ℕ Unwritten) → answer_for k xs ≡ w → (reply_values (reply_for w)).length ≤ longest_log
    go (Ok n) e = omega (arith, segments_few xs k _ (answer_for k xs) (record { answers = refl; leaves = refl }) n e b)
    go (Err f) e = omega arith

pub log-short : (text log : List ℕ) → (reply_values (reply_to text log)).length ≤ longest_log
unfolding reply_to
log-short text log =
    either (ltb (length log) longest_log) (λ s. simp s (omega arith))
    (λ s.
    either (ltb longest_text (length text)) (λ l. simp (s, l) (omega arith))
    (λ l.
    either (clear text)
    (λ c. simp (s, l, c) (answer-short (kind_typed text) (listing_typed text) (bytes-hex_said (bytes_typed text) (drop kind_bytes text) (clear_digits c))))
    (λ c. simp (s, l, c) (omega arith))))
  where
    clear_digits : clear text ≡ true → hex_fits (bytes_typed text) (drop kind_bytes text) ≡ true
    clear_digits c =
        let even : Bool = eqb (digits_typed text % 2) 0 in
        let digits : Bool = hex_fits (bytes_typed text) (drop kind_bytes text) in
        ((and-eq-true_iff even digits).0 ((and-eq-true_iff (begins word_this text || begins word_next text) (even && digits)).0 c).1).1

pub says_inside : {text before after : List ℕ} {r : Result ℕ Unanswered} {n : ℕ} → ReplySays text before r after → r ≡ Ok n → n ≤ longest_log
says_inside {text} {before} s e = subst (λ (r : Result ℕ Unanswered). (reply_values r).length ≤ longest_log) (sym s.answers ∙ e) (log-short text before)

-- What is typed to the program `write`: the word `this` or `next`, a space, a listing in hex, and perhaps a newline; and the answer, a log of the
-- writer's segments.
use Rattle.std.specs.Prelude.{ℕ, zero, suc, ◌+◌, ◌-◌, ◌*◌, ◌/◌, ◌%◌, ◌≤◌, ◌≡◌, Bool, true, false, cond, ◌&&◌, ◌||◌, not, eqb, ltb, length, get_or, take, drop, replicate, Option, Some, None, Result, Ok, Err}
use Prim.Native.Char.{code}
use mathlib.Core.List.{List, [], ◌++◌, flat_map}
use Rattle.octets.specs.Same.{same}
use Rattle.text.specs.Text.{text}
use Rattle.hex_text.specs.Hex.{hex_fits, hex_said}
use Rattle.meaning.specs.declared.Kind.{Kind}
use Rattle.meaning.specs.declared.Kind.TheVariants.{This, Next}
use Rattle.records.specs.Records.{mark_bytes}
use Rattle.meaning.specs.Said.{list_said}
use Rattle.segments.specs.Segment.{segment_bytes, most_segments}
use Rattle.writer.specs.declared.Unwritten.{Unwritten}
use Rattle.writer.specs.Writing.{shortest_output, unwritten_number, plain_segments, write_answer}
use Rattle.typed.specs.declared.Unanswered.{Unanswered}
use Rattle.typed.specs.declared.Unanswered.TheVariants.{Not, Unclear, TooLong, NoRoom}

-- ---- the text

abbrev pub longest_text : ℕ
longest_text = 65535

-- this, next, each with a space
abbrev pub kind_bytes : ℕ
kind_bytes = 5

abbrev pub word_this : List ℕ
word_this = text "this "

abbrev pub word_next : List ℕ
word_next = text "next "

abbrev pub begins : List ℕ → List ℕ → Bool
begins word typed = same (take kind_bytes typed) word

-- how long the text is without the newline at its end, if it has one
abbrev pub line_length : List ℕ → ℕ
line_length typed = cond (eqb (get_or typed (length typed - 1) 0) (code "\n")) (length typed - 1) (length typed)

-- the digits that follow the word, how many bytes they are, and the listing that they say
abbrev pub digits_typed : List ℕ → ℕ
digits_typed typed = line_length typed - kind_bytes

abbrev pub bytes_typed : List ℕ → ℕ
bytes_typed typed = digits_typed typed / 2

abbrev pub listing_typed : List ℕ → List ℕ
listing_typed typed = hex_said (bytes_typed typed) (drop kind_bytes typed)

-- the text is a word and whole bytes in hex
abbrev pub clear : List ℕ → Bool
clear typed =
    (begins word_this typed || begins word_next typed)
    && (eqb (digits_typed typed % 2) 0 && hex_fits (bytes_typed typed) (drop kind_bytes typed))

abbrev pub kind_typed : List ℕ → Kind
kind_typed typed = cond (begins word_this typed) This Next

-- internal: the kind whose word is there, if one is; no promise cites this
abbrev pub word_kind : List ℕ → Option Kind
word_kind typed = cond (begins word_this typed) (Some This) (cond (begins word_next typed) (Some Next) None)

-- ---- the log of some segments: SG before each

abbrev pub log_of : List (List ℕ) → List ℕ
log_of segments = flat_map (λ s. text "SG" ++ s) segments

-- room for the log of the longest chunk
abbrev pub longest_log : ℕ
longest_log = most_segments * (mark_bytes + segment_bytes)

-- ---- an answer: whether there is a log; the writer's number, 0 where it has not refused; how long the log is, 0 where there is none

pub record ReplyValues : Type 0 where
  pub log : Bool
  pub number : ℕ
  pub length : ℕ

abbrev pub reply_values : Result ℕ Unanswered → ReplyValues
reply_values (Ok n) = record { log = true; number = 0; length = n }
reply_values (Err (Not f)) = record { log = false; number = unwritten_number f; length = 0 }
reply_values (Err Unclear) = record { log = false; number = 0; length = 0 }
reply_values (Err TooLong) = record { log = false; number = 0; length = 0 }
reply_values (Err NoRoom) = record { log = false; number = 0; length = 0 }

-- ---- the answer to a text, with a lent buffer for the log

-- what the writer answers, its output long enough
abbrev pub answer_for : Kind → List ℕ → Result ℕ Unwritten
answer_for k xs = write_answer xs k (replicate shortest_output 0)

-- a log in place of the segments
abbrev pub reply_for : Result ℕ Unwritten → Result ℕ Unanswered
reply_for (Ok n) = Ok ((mark_bytes + segment_bytes) * n)
reply_for (Err f) = Err (Not f)

unfoldable pub reply_to : List ℕ → List ℕ → Result ℕ Unanswered
reply_to typed log =
    cond (ltb (length log) longest_log) (Err NoRoom)
    (cond (ltb longest_text (length typed)) (Err TooLong)
    (cond (not (clear typed)) (Err Unclear)
    (reply_for (answer_for (kind_typed typed) (listing_typed typed)))))

-- there is room for a log, and the text is not too long and clear
abbrev pub Answerable : List ℕ → List ℕ → Type 0
Answerable typed log = (longest_log ≤ length log) × (length typed ≤ longest_text) × (clear typed ≡ true)

-- the log at the start, bytes past it as they were; any other answer leaves all as it was
abbrev pub reply_log : Result ℕ Unanswered → Kind → List ℕ → List ℕ → List ℕ
reply_log (Ok n) k xs log = log_of (plain_segments k (list_said xs)) ++ drop n log
reply_log (Err e) k xs log = log

-- what the reply promises: of the text and the buffer before, the answer, and the buffer after
pub record ReplySays (typed before : List ℕ) (answer : Result ℕ Unanswered) (after : List ℕ) : Type 0 where
  pub answers : answer ≡ reply_to typed before
  pub leaves : after ≡ reply_log (reply_to typed before) (kind_typed typed) (listing_typed typed) before

-- ---- internal: the log of the first n segments that stand in an output, as it is put; no promise cites this

unfoldable pub log_put : ℕ → List ℕ → List ℕ
log_put zero output = []
log_put (suc n) output = (text "SG" ++ take segment_bytes output) ++ log_put n (drop segment_bytes output)

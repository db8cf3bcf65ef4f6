-- Document 01, "The writer": its checks in order, what it answers, and what it leaves in the lent output.
use Rattle.std.specs.Prelude.{ℕ, ◌-◌, ◌*◌, ◌≡◌, not, List, ◌++◌, ltb, length, drop, replicate, Result, Ok, Err}
use Rattle.octets.specs.Checks.{check}
use Rattle.meaning.specs.declared.Kind.{Kind}
use Rattle.meaning.specs.Sizes.{longest_chunk}
use Rattle.meaning.specs.Lists.{FicList}
use Rattle.meaning.specs.Layout.{wire}
use Rattle.meaning.specs.Said.{listing_fits, list_said}
use Rattle.meaning.specs.Plain.{plain, plain_length}
use Rattle.segments.specs.Segment.{segment_bytes, payload_bytes, most_segments}
use Rattle.segments.specs.Cut.{segment_count, Choice, cut, joined}
use Rattle.writer.specs.declared.Unwritten.{Unwritten}
use Rattle.writer.specs.declared.Unwritten.TheVariants.{ShortOutput, BadListing, TooMany}

-- the shortest output: room for the 16 segments of the longest chunk
abbrev pub shortest_output : ℕ
shortest_output = most_segments * segment_bytes

-- ---- the refusals

-- the table "The numbers", those of the writer
abbrev pub unwritten_number : Unwritten → ℕ
unwritten_number ShortOutput = 1
unwritten_number BadListing = 13
unwritten_number TooMany = 14

-- ---- an answer in document 01's numbers: its number, 0 where it is no refusal; how many segments, 0 where it is one

pub record WrittenValues : Type 0 where
  pub number : ℕ
  pub count : ℕ

abbrev pub written_values : Result ℕ Unwritten → WrittenValues
written_values (Ok n) = record { number = 0; count = n }
written_values (Err f) = record { number = unwritten_number f; count = 0 }

-- and whether it is a refusal, as checks say it
abbrev pub written_fault : Result ℕ Unwritten → Result Unit Unwritten
written_fault (Ok n) = Ok tt
written_fault (Err f) = Err f

-- ---- the segments of a list

-- what the writer chooses for a chunk of n bytes: reserved bits ones, stuffing FF
abbrev pub plainly : ℕ → Choice
plainly n = record { reserved = λ i. 1; wake = λ i. 1; fill = replicate (payload_bytes * segment_count n - n) 0xFF }

-- the list as the oldest edition sends it, cut
unfoldable pub plain_segments : Kind → FicList → List (List ℕ)
plain_segments k l = cut (wire (plain k l)) (plainly (length (wire (plain k l))))

-- ---- the public call, on a listing xs, a kind and a lent output

abbrev pub write_checks : List ℕ → List ℕ → Result Unit Unwritten
write_checks xs output =
    check (ltb (length output) shortest_output) (Err ShortOutput)  -- 1
    (check (not (listing_fits xs)) (Err BadListing)  -- 13
    (check (ltb longest_chunk (plain_length (list_said xs))) (Err TooMany)  -- 14
    (Ok tt)))

abbrev pub written_for : Result Unit Unwritten → List ℕ → Kind → Result ℕ Unwritten
written_for (Ok u) xs k = Ok (length (plain_segments k (list_said xs)))
written_for (Err f) xs k = Err f

unfoldable pub write_answer : List ℕ → Kind → List ℕ → Result ℕ Unwritten
write_answer xs k output = written_for (write_checks xs output) xs k

-- the segments at the start, bytes past them as they were; a refusal leaves all as it was
abbrev pub output_left : Result ℕ Unwritten → List ℕ → Kind → List ℕ → List ℕ
output_left (Ok n) xs k output = joined (plain_segments k (list_said xs)) ++ drop (segment_bytes * n) output
output_left (Err f) xs k output = output

unfoldable pub write_output : List ℕ → Kind → List ℕ → List ℕ
write_output xs k output = output_left (write_answer xs k output) xs k output

-- what the writer promises: of the listing xs, the kind and the output before, its answer, and the output after
pub record WriteSays (xs : List ℕ) (k : Kind) (before : List ℕ) (answer : Result ℕ Unwritten) (after : List ℕ) : Type 0 where
  pub answers : answer ≡ write_answer xs k before
  pub leaves : after ≡ write_output xs k before

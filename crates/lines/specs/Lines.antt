-- Document 01, "The log program": the lines for each answer.
use Rattle.std.specs.Prelude.{ℕ, ◌+◌, ◌*◌, cond, List, ◌++◌, eqb, length, Result, Ok, Err}
use Rattle.text.specs.Text.{text, newline, numbered, refused_with}
use Rattle.hex_text.specs.Hex.{hex}
use Rattle.meaning.specs.declared.Kind.{Kind}
use Rattle.meaning.specs.declared.Kind.TheVariants.{This, Next}
use Rattle.meaning.specs.declared.Refusal.{Refusal}
use Rattle.meaning.specs.Sizes.{longest_listing}
use Rattle.meaning.specs.Numbers.{number_of, offset_of}
use Rattle.slots.specs.declared.Answer.{Answer}
use Rattle.slots.specs.declared.Answer.TheVariants.{Missing, NewList}

-- a listing: its length, and on the next line its bytes in hex
abbrev pub listing_lines : List ℕ → List ℕ
listing_lines l = numbered (length l) ++ hex l ++ newline

-- a new frame that shows the listing l, which may be empty
unfoldable pub frame_lines : List ℕ → List ℕ
frame_lines l = cond (eqb (length l) 0) (text "FR none\n") (text "FR " ++ listing_lines l)

abbrev pub gathering_line : List ℕ
gathering_line = text "GA\n"

abbrev pub kind_text : Kind → List ℕ
kind_text This = text "SG 0 list this "
kind_text Next = text "SG 0 list next "

-- a refusal: its number, and behind 9 the offset in the chunk
abbrev pub refusal_line : Refusal → List ℕ
refusal_line f = refused_with 9 (number_of f) (offset_of f)

-- an answer to a segment, and the listing l if one was made
abbrev pub missing_line : ℕ → List ℕ
missing_line n = text "SG 0 missing " ++ numbered n

abbrev pub list_lines : Kind → List ℕ → List ℕ
list_lines k l = kind_text k ++ listing_lines l

abbrev pub refused_line : Refusal → List ℕ
refused_line f = text "SG " ++ refusal_line f

unfoldable pub answer_lines : Result Answer Refusal → List ℕ → List ℕ
answer_lines (Ok (Missing n)) l = missing_line n
answer_lines (Ok (NewList k n)) l = list_lines k l
answer_lines (Err f) l = refused_line f

-- room for the lines of any of these: the longest words, a number of four digits, the longest listing in hex, two line ends
abbrev pub longest_lines : ℕ
longest_lines = length (text "SG 0 list this ") + 4 + 2 * longest_listing + 2

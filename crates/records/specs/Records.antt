-- A file of records, one after the other: a two-byte mark, then as many bytes as the mark tells, or as a length behind it tells.
use Rattle.std.specs.Prelude.{ℕ, zero, suc, ◌+◌, ◌-◌, Bool, true, false, not, cond, ◌&&◌, List, [], ◌∷◌, ◌++◌, eqb, ltb, leb, length, get_or, take, drop}
use Prim.Native.String.{String}
use Rattle.octets.specs.Word.{word}
use Rattle.text.specs.Text.{text, numbered}
use Rattle.records.specs.declared.Form.{Form}
use Rattle.records.specs.declared.Form.TheVariants.{Foreign, Fixed, Counted}
use Rattle.records.specs.declared.Entry.{Entry}
use Rattle.records.specs.declared.Entry.TheVariants.{End, Whole, Unknown, Cut}

abbrev pub mark_bytes : ℕ
mark_bytes = 2

abbrev pub length_bytes : ℕ
length_bytes = 2

-- the mark at the start of xs; 0 if there are fewer than two bytes
unfoldable pub mark_in : List ℕ → ℕ
mark_in xs = cond (ltb (length xs) mark_bytes) 0 (word (get_or xs 0 0) (get_or xs 1 0))

-- the mark that is written so
abbrev pub mark_of : String → ℕ
mark_of w = word (get_or (text w) 0 0) (get_or (text w) 1 0)

-- what each mark of a file tells
abbrev pub Forms : Type 0
Forms = ℕ → Form

-- the bytes of the longest record that it tells
abbrev pub form_bytes : Form → ℕ
form_bytes Foreign = mark_bytes
form_bytes (Fixed n) = mark_bytes + n
form_bytes (Counted least most) = mark_bytes + length_bytes + most

-- ---- what stands at the start of xs: the end, a whole record of so many bytes, an unknown mark or one with a length that it does not take, or a record that
-- is cut

abbrev pub entry_of : Form → List ℕ → Entry
entry_of Foreign xs = Unknown
entry_of (Fixed n) xs = cond (ltb (length xs) (mark_bytes + n)) Cut (Whole (mark_bytes + n))
entry_of (Counted least most) xs =
    cond (ltb (length xs) (mark_bytes + length_bytes)) Cut
    (let count = word (get_or xs 2 0) (get_or xs 3 0) in
    cond (not (leb least count && leb count most)) Unknown
    (let n = mark_bytes + length_bytes + count in
    cond (ltb (length xs) n) Cut (Whole n)))

abbrev pub entry_as : Form → List ℕ → Entry
entry_as form xs =
    cond (eqb (length xs) 0) End
    (cond (ltb (length xs) mark_bytes) Cut
    (entry_of form xs))

unfoldable pub entry_in : Forms → List ℕ → Entry
entry_in forms xs = entry_as (forms (mark_in xs)) xs

abbrev pub is_whole : Entry → Bool
is_whole (Whole n) = true
is_whole End = false
is_whole Unknown = false
is_whole Cut = false

abbrev pub size_of : Entry → ℕ
size_of (Whole n) = n
size_of End = 0
size_of Unknown = 0
size_of Cut = 0

-- ---- the records of a file

pub record Record : Type 0 where
  pub mark : ℕ
  pub content : List ℕ

-- the record of n bytes at the start of xs
abbrev pub record_in : ℕ → List ℕ → Record
record_in n xs = record { mark = mark_in xs; content = take (n - mark_bytes) (drop mark_bytes xs) }

-- what stands behind the length, in a record that has one
abbrev pub body_in : Record → List ℕ
body_in r = drop length_bytes r.content

-- the whole records of a file in order, and what stands behind the last: the end, an unknown mark, or a record that is cut
pub record File : Type 0 where
  pub records : List Record
  pub end : Entry

-- what follows, by what stands at the start of xs
abbrev pub file_from : Entry → (List ℕ → File) → List ℕ → File
file_from (Whole n) more xs = let f = more (drop n xs) in record { records = record_in n xs ∷ f.records; end = f.end }
file_from End more xs = record { records = []; end = End }
file_from Unknown more xs = record { records = []; end = Unknown }
file_from Cut more xs = record { records = []; end = Cut }

-- at the most n records; n may be any number above the length of xs
unfoldable pub file_up_to : ℕ → Forms → List ℕ → File
file_up_to zero forms xs = record { records = []; end = End }
file_up_to (suc n) forms xs = file_from (entry_in forms xs) (file_up_to n forms) xs

unfoldable pub file_in : Forms → List ℕ → File
file_in forms xs = file_up_to (suc (length xs)) forms xs

-- ---- the last line of what is printed for a file: END, and 0 or the number of a file that is no file of records to its end

abbrev pub end_number : Entry → ℕ
end_number End = 0
end_number (Whole n) = 0
end_number Unknown = 15
end_number Cut = 15

unfoldable pub last_line : Entry → List ℕ
last_line e = text "END " ++ numbered (end_number e)

abbrev pub longest_last : ℕ
longest_last = length (text "END 15\n")

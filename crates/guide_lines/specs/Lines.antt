-- The program `guide`: the lines for each answer, and those of a section's names, in which no byte can steer a terminal.
use Rattle.std.specs.Prelude.{ℕ, suc, ◌+◌, ◌*◌, ◌≡◌, cond, ◌&&◌, eqb, leb, length, Result, Ok, Err}
use Prim.Native.Char.{code}
use mathlib.Core.List.{List, [], ◌∷◌, ◌++◌, flat_map}
use Rattle.text.specs.Text.{text, newline, decimal, numbered, refused_with}
use Rattle.hex_text.specs.Hex.{hex}
use Rattle.sections.specs.declared.Refusal.{Refusal}
use Rattle.sections.specs.declared.Standing.TheVariants.{InForce}
use Rattle.sections.specs.Sizes.{longest_section}
use Rattle.sections.specs.Reading.{number_of, offset_of, standing, names_in}
use Rattle.guides.specs.declared.Answer.{Answer}
use Rattle.guides.specs.declared.Answer.TheVariants.{NotOurs, NotYet, Noted, Repeat}

-- ---- a name: bytes 20 to 7E as they are, but a backslash as two; any other as \x and two digits

abbrev pub escaped : ℕ → List ℕ
escaped b =
    cond (eqb b (code "\\")) (text "\\\\")
    (cond (leb 0x20 b && leb b 0x7E) (b ∷ [])
    (text "\\x" ++ hex (b ∷ [])))

unfoldable pub escaped_name : List ℕ → List ℕ
escaped_name name = flat_map escaped name

-- behind its number, if it is not empty
abbrev pub name_text : List ℕ → List ℕ
name_text name = cond (eqb (length name) 0) [] (text " " ++ escaped_name name)

unfoldable pub name_line : ℕ → List ℕ → List ℕ
name_line n name = text "name " ++ (decimal n ++ (name_text name ++ newline))

-- some names, counted from n on
unfoldable pub name_lines : ℕ → List (List ℕ) → List ℕ
name_lines n [] = []
name_lines n (name ∷ more) = name_line n name ++ name_lines (suc n) more

-- ---- an answer; behind 23 is the offset in the section

abbrev pub refusal_line : Refusal → List ℕ
refusal_line f = text "SE " ++ refused_with 23 (number_of f) (offset_of f)

unfoldable pub answer_line : Result Answer Refusal → List ℕ
answer_line (Ok NotOurs) = text "SE not ours\n"
answer_line (Ok NotYet) = text "SE not yet\n"
answer_line (Err f) = refusal_line f
answer_line (Ok (Noted missing)) = text "SE 0 missing " ++ numbered missing
answer_line (Ok (Repeat missing)) = text "SE 0 repeat missing " ++ numbered missing

-- the names of a section xs stand under its line where it is noted
abbrev pub names_under : Result Answer Refusal → List ℕ → List ℕ
names_under (Ok (Noted missing)) xs = name_lines 0 (names_in xs)
names_under (Ok NotOurs) xs = []
names_under (Ok NotYet) xs = []
names_under (Err f) xs = []
names_under (Ok (Repeat missing)) xs = []

-- so it is in force
abbrev pub NamesHad : Result Answer Refusal → List ℕ → Type 0
NamesHad (Ok (Noted missing)) xs = standing xs ≡ Ok InForce
NamesHad (Ok NotOurs) xs = Unit {0}
NamesHad (Ok NotYet) xs = Unit {0}
NamesHad (Err f) xs = Unit {0}
NamesHad (Ok (Repeat missing)) xs = Unit {0}

abbrev pub section_lines : Result Answer Refusal → List ℕ → List ℕ
section_lines answer xs = answer_line answer ++ names_under answer xs

-- room for the lines of any section: its own, 255 names' words and numbers, and four characters for each byte
abbrev pub longest_lines : ℕ
longest_lines = length (text "SE 0 repeat missing 256\n") + 255 * length (text "name 254 \n") + 4 * longest_section

-- What a program prints for a file of records: the text of each, by the state that the records before it leave; then what it writes last.
use Rattle.std.specs.Prelude.{ℕ, zero, suc, ◌+◌, ◌-◌, ◌≡◌, cond, ◌&&◌, List, [], ◌∷◌, ◌++◌, leb, length, drop}
use Rattle.text.specs.Text.{Put}
use Rattle.records.specs.declared.Entry.{Entry}
use Rattle.records.specs.Records.{Forms, Record, record_in, entry_in, is_whole, size_of, file_in}

pub record Program (S : Type 0) : Type 0 where
  pub forms : Forms
  -- the state that a record leaves, and its text
  pub next : S → Record → S
  pub text : S → Record → List ℕ
  -- the room that a record takes, at least its text; and room for any record
  pub cost : S → Record → ℕ
  pub longest : ℕ
  -- what is written behind the last record, by the state then and what stands there
  pub last : S → Entry → List ℕ

-- the state after some records, and their text
unfoldable pub state_of : {S : Type 0} → Program S → S → List Record → S
state_of p s [] = s
state_of p s (r ∷ more) = state_of p (p.next s r) more

unfoldable pub text_of : {S : Type 0} → Program S → S → List Record → List ℕ
text_of p s [] = []
text_of p s (r ∷ more) = p.text s r ++ text_of p (p.next s r) more

-- the text of all records of a file, then what is written behind the last, by the state then and what stands there
unfoldable pub printed_with : {S : Type 0} → (S → Entry → List ℕ) → Program S → S → List ℕ → List ℕ
printed_with last p s xs = let f = file_in p.forms xs in text_of p s f.records ++ last (state_of p s f.records) f.end

-- the whole transcript
abbrev pub printed : {S : Type 0} → Program S → S → List ℕ → List ℕ
printed p s xs = printed_with p.last p s xs

-- ---- as much of it as one block of the file gives and one output takes

-- the state then, the bytes that were read, the room that their records took, and their text
pub record Filled (S : Type 0) : Type 0 where
  pub state : S
  pub read : ℕ
  pub cost : ℕ
  pub text : List ℕ

abbrev pub still : {S : Type 0} → S → Filled S
still s = record { state = s; read = 0; cost = 0; text = [] }

-- so many bytes, this room and this text, then what follows
abbrev pub followed : {S : Type 0} → ℕ → ℕ → List ℕ → Filled S → Filled S
followed bytes cost text f = record { state = f.state; read = bytes + f.read; cost = cost + f.cost; text = text ++ f.text }

-- the state that the record at the start of xs leaves, its text and the room that it takes, if one is whole there
abbrev pub next_in : {S : Type 0} → Program S → S → List ℕ → S
next_in p s xs = let e = entry_in p.forms xs in cond (is_whole e) (p.next s (record_in (size_of e) xs)) s

abbrev pub text_in : {S : Type 0} → Program S → S → List ℕ → List ℕ
text_in p s xs = let e = entry_in p.forms xs in cond (is_whole e) (p.text s (record_in (size_of e) xs)) []

abbrev pub cost_in : {S : Type 0} → Program S → S → List ℕ → ℕ
cost_in p s xs = let e = entry_in p.forms xs in cond (is_whole e) (p.cost s (record_in (size_of e) xs)) 0

-- the records at the start of xs, up to the first that is not whole or finds less room than any record may take; n may be any number above the
-- length of xs
unfoldable pub filling : {S : Type 0} → Program S → ℕ → ℕ → S → List ℕ → Filled S
filling p zero room s xs = still s
filling p (suc n) room s xs =
    let e = entry_in p.forms xs in
    cond (is_whole e && leb p.longest room)
    (followed (size_of e) (cost_in p s xs) (text_in p s xs) (filling p n (room - cost_in p s xs) (next_in p s xs) (drop (size_of e) xs)))
    (still s)

unfoldable pub filled : {S : Type 0} → Program S → ℕ → S → List ℕ → Filled S
filled p room s xs = filling p (suc (length xs)) room s xs

-- what one record at the start of xs leaves, if it is whole: the state, the next place of the file, and its text in the output
abbrev pub Turned : {S : Type 0} → Program S → S → List ℕ → ℕ → ℕ → List ℕ → S → ℕ → List ℕ → ℕ → Type 0
Turned p s xs at to out t read left wrote =
    (t ≡ next_in p s xs) × (read ≡ at + size_of (entry_in p.forms xs)) × Put (text_in p s xs) out to left wrote

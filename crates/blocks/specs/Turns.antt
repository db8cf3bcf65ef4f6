-- A whole run as its turns make it: what is written, given what each read gives. A turn is that of Blocks.antt.
use Rattle.std.specs.Prelude.{ℕ, zero, suc, ◌+◌, Bool, true, false, List, [], ◌∷◌, ◌++◌, length, drop}
use Rattle.records.specs.declared.Entry.{Entry}
use Rattle.records.specs.declared.Entry.TheVariants.{End, Whole, Unknown, Cut}
use Rattle.records.specs.Records.{entry_in}
use Rattle.records.specs.Transcripts.{Program, filled}

-- what a read gives: some bytes, none at the end of the file, or a failure
pub data Reading : Type 0 where
  brings : List ℕ → Reading
  fails : Reading

-- the file that some reads bring: up to the first that brings nothing or fails
abbrev pub brought_by : List Reading → List ℕ
brought_by [] = []
brought_by (fails ∷ later) = []
brought_by (brings [] ∷ later) = []
brought_by (brings (b ∷ bs) ∷ later) = (b ∷ bs) ++ brought_by later

-- whether the first that brings nothing fails
abbrev pub fails_in : List Reading → Bool
fails_in [] = false
fails_in (fails ∷ later) = true
fails_in (brings [] ∷ later) = false
fails_in (brings (b ∷ bs) ∷ later) = fails_in later

-- what is written behind the last record, by what a program would write there: all of it; where the input fails, none but that of an unknown mark,
-- behind which nothing is read
abbrev pub last_written : Bool → (Entry → List ℕ) → Entry → List ℕ
last_written false last e = last e
last_written true last Unknown = last Unknown
last_written true last End = []
last_written true last Cut = []
last_written true last (Whole n) = []

-- what the turns that follow write, by what is unread and the reads that are to come
abbrev pub Turns : Type 0
Turns = List ℕ → List Reading → List ℕ

-- what is written after a read where e stands at the start of the unread ys: what comes last if the read brings nothing, and nothing if it fails
abbrev pub after_read : (Entry → List ℕ) → Entry → Turns → Turns
after_read last e more ys [] = last e
after_read last e more ys (fails ∷ later) = []
after_read last e more ys (brings [] ∷ later) = last e
after_read last e more ys (brings (b ∷ bs) ∷ later) = more (ys ++ (b ∷ bs)) later

-- what is written behind the records of a turn, by what stands at the start of the unread ys
abbrev pub goes_on : (Entry → List ℕ) → Entry → Turns → Turns
goes_on last (Whole n) more ys reads = more ys reads
goes_on last Unknown more ys reads = last Unknown
goes_on last End more ys reads = after_read last End more ys reads
goes_on last Cut more ys reads = after_read last Cut more ys reads

-- n turns from the state s, xs being unread and the output having so much room
unfoldable pub turned : {S : Type 0} → Program S → ℕ → ℕ → S → Turns
turned p room zero s xs reads = []
turned p room (suc n) s xs reads =
    let f = filled p room s xs in
    let ys = drop f.read xs in
    f.text ++ goes_on (p.last f.state) (entry_in p.forms ys) (turned p room n f.state) ys reads

-- turns enough for any reads: every turn but the last leaves a record behind it or takes what a read brought
abbrev pub enough : List ℕ → List Reading → ℕ
enough xs reads = suc (length xs + (length (brought_by reads) + length reads))

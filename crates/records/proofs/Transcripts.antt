-- The transcript of a file, record by record; and a block of a file gives a part of it, whatever comes after the block. Assumes nothing.
use mathlib.Core.Path.{◌≡◌, refl, sym, ap, subst, ◌∙◌}
use mathlib.Core.Bool.{true, false, cond, ◌&&◌, and-false, true≢false}
use mathlib.Core.List.{List, [], ◌∷◌, ◌++◌, append_assoc}
use mathlib.Core.Logic.{◌⊎◌, inl, inr}
use Prim.Native.Nat.{ℕ, zero, suc, ◌+◌, ◌-◌, ◌≤◌, ◌<◌}
use native.Mathlib.Nat.{sub-zero}
use native.Mathlib.Omega.{arith}
use borrow.Author.Tests.{leb-true, leb-false, le-leb, lt-leb}
use lib.Dec.{leb}
use lib.ListN.{length, drop, length-append, length-drop}
use lib.Seq.{drop-append-le, drop-drop}
use Rattle.octets.proofs.Laws.{either}
use Rattle.records.specs.declared.Entry.{Entry}
use Rattle.records.specs.declared.Entry.TheVariants.{End, Whole, Unknown, Cut}
use Rattle.records.specs.Records.{Forms, entry_in, is_whole, size_of, Record, record_in, File, file_from, file_up_to, file_in}
use Rattle.records.specs.Transcripts.{Program, state_of, text_of, printed_with, Filled, still, followed, next_in, text_in, cost_in, filling, filled}
use Rattle.records.proofs.Entries.{size-inside, whole_some, entry_more, record_more}

-- ---- the records of a file

pub none_size : (e : Entry) → is_whole e ≡ false → size_of e ≡ 0
none_size (Whole n) w = absurd (true≢false w)
none_size End w = refl
none_size Unknown w = refl
none_size Cut w = refl

abbrev cons : Record → File → File
cons r f = record { records = r ∷ f.records; end = f.end }

abbrev none : Entry → File
none e = record { records = []; end = e }

from_whole : (e : Entry) (more : List ℕ → File) (xs : List ℕ) → is_whole e ≡ true → file_from e more xs ≡ cons (record_in (size_of e) xs) (more (drop (size_of e) xs))
from_whole (Whole n) more xs w = refl
from_whole End more xs w = absurd (true≢false (sym w))
from_whole Unknown more xs w = absurd (true≢false (sym w))
from_whole Cut more xs w = absurd (true≢false (sym w))

from_none : (e : Entry) (more : List ℕ → File) (xs : List ℕ) → is_whole e ≡ false → file_from e more xs ≡ none e
from_none (Whole n) more xs w = absurd (true≢false w)
from_none End more xs w = refl
from_none Unknown more xs w = refl
from_none Cut more xs w = refl

module _ (forms : Forms) where
  abbrev entry : List ℕ → Entry
  entry xs = entry_in forms xs

  abbrev left : List ℕ → List ℕ
  left xs = drop (size_of (entry xs)) xs

  left_shorter : (xs : List ℕ) (n : ℕ) → is_whole (entry xs) ≡ true → length xs < suc n → length (left xs) < n
  left_shorter xs n w h = omega (arith, whole_some forms xs w, size-inside forms xs, length-drop (size_of (entry xs)) xs)

  pub file_any : (n m : ℕ) (xs : List ℕ) → length xs < n → length xs < m → file_up_to n forms xs ≡ file_up_to m forms xs
  unfolding file_up_to
  file_any zero m xs h g = absurd (omega arith)
  file_any (suc n) zero xs h g = absurd (omega arith)
  file_any (suc n) (suc m) xs h g =
      either (is_whole (entry xs))
      (λ w.
      from_whole (entry xs) (file_up_to n forms) xs w
      ∙ ap (cons (record_in (size_of (entry xs)) xs)) (file_any n m (left xs) (left_shorter xs n w h) (left_shorter xs m w g))
      ∙ sym (from_whole (entry xs) (file_up_to m forms) xs w))
      (λ w. from_none (entry xs) (file_up_to n forms) xs w ∙ sym (from_none (entry xs) (file_up_to m forms) xs w))

  -- a whole record, then the records of the rest; else none
  pub file_record : (xs : List ℕ) → let e = entry_in forms xs in is_whole e ≡ true → let f = file_in forms (drop (size_of e) xs) in file_in forms xs ≡ record { records = record_in (size_of e) xs ∷ f.records; end = f.end }
  unfolding file_in file_up_to
  file_record xs w =
      from_whole (entry xs) (file_up_to (length xs) forms) xs w
      ∙ ap (cons (record_in (size_of (entry xs)) xs)) (file_any (length xs) (suc (length (left xs))) (left xs) (left_shorter xs (length xs) w (omega arith)) (omega arith))

  pub file_none : (xs : List ℕ) → is_whole (entry_in forms xs) ≡ false → file_in forms xs ≡ record { records = []; end = entry_in forms xs }
  unfolding file_in file_up_to
  file_none xs w = from_none (entry xs) (file_up_to (length xs) forms) xs w

-- ---- the transcript: a record's text and the rest, or what comes last

module _ {S : Type 0} (p : Program S) where
  abbrev here : List ℕ → Entry
  here xs = entry_in p.forms xs

  abbrev rest : List ℕ → List ℕ
  rest xs = drop (size_of (here xs)) xs

  pub printed_record : (last : S → Entry → List ℕ) (s : S) (xs : List ℕ) → is_whole (entry_in p.forms xs) ≡ true → printed_with last p s xs ≡ text_in p s xs ++ printed_with last p (next_in p s xs) (drop (size_of (entry_in p.forms xs)) xs)
  unfolding printed_with state_of text_of
  printed_record last s xs w =
      let r : Record = record_in (size_of (here xs)) xs in
      let f : File = file_in p.forms (rest xs) in
      ap (λ (f : File). text_of p s f.records ++ last (state_of p s f.records) f.end) (file_record p.forms xs w)
      ∙ append_assoc (p.text s r) (text_of p (p.next s r) f.records) (last (state_of p (p.next s r) f.records) f.end)
      ∙ (λ i. let t = cond (sym w i) (p.next s r) s in cond (sym w i) (p.text s r) [] ++ (text_of p t f.records ++ last (state_of p t f.records) f.end))

  pub printed_last : (last : S → Entry → List ℕ) (s : S) (xs : List ℕ) → is_whole (entry_in p.forms xs) ≡ false → printed_with last p s xs ≡ last s (entry_in p.forms xs)
  unfolding printed_with state_of text_of
  printed_last last s xs w = ap (λ (f : File). text_of p s f.records ++ last (state_of p s f.records) f.end) (file_none p.forms xs w)

  -- what comes after a whole record does not matter to it
  module _ (s : S) (xs more : List ℕ) (w : is_whole (entry_in p.forms xs) ≡ true) where
    same : entry_in p.forms (xs ++ more) ≡ entry_in p.forms xs
    same = entry_more p.forms xs more (inl w)

    record_same : record_in (size_of (here (xs ++ more))) (xs ++ more) ≡ record_in (size_of (here xs)) xs
    record_same = ap (λ (e : Entry). record_in (size_of e) (xs ++ more)) same ∙ record_more p.forms xs more (size_of (here xs)) (whole_some p.forms xs w) (size-inside p.forms xs)

    pub next_more : next_in p s (xs ++ more) ≡ next_in p s xs
    next_more i = cond (is_whole (same i)) (p.next s (record_same i)) s

    pub text_more : text_in p s (xs ++ more) ≡ text_in p s xs
    text_more i = cond (is_whole (same i)) (p.text s (record_same i)) []

    printed_more : (last : S → Entry → List ℕ) → printed_with last p s (xs ++ more) ≡ text_in p s xs ++ printed_with last p (next_in p s xs) (rest xs ++ more)
    printed_more last =
        printed_record last s (xs ++ more) (ap is_whole same ∙ w)
        ∙ (λ i. text_more i ++ printed_with last p (next_more i) (drop (size_of (same i)) (xs ++ more)))
        ∙ ap (λ (t : List ℕ). text_in p s xs ++ printed_with last p (next_in p s xs) t) (drop-append-le (size_of (here xs)) xs more (size-inside p.forms xs))

  -- ---- filling: a record and what follows, or nothing

  -- no whole record, or too little room
  abbrev pub Stops : ℕ → List ℕ → Type 0
  Stops room xs = (is_whole (here xs) ≡ false) ⊎ (room < p.longest)

  stops_or : {P : Type 0} (room : ℕ) (xs : List ℕ) → (Stops room xs → P) → (is_whole (here xs) ≡ true → p.longest ≤ room → P) → P
  stops_or room xs stop more =
      either (is_whole (here xs))
      (λ w. either (leb p.longest room) (λ l. more w (leb-true _ _ l)) (λ l. stop (inr (leb-false _ _ l))))
      (λ w. stop (inl w))

  module _ (n room : ℕ) (s : S) (xs : List ℕ) where
    filling_record : is_whole (here xs) ≡ true → p.longest ≤ room → filling p (suc n) room s xs ≡ followed (size_of (here xs)) (cost_in p s xs) (text_in p s xs) (filling p n (room - cost_in p s xs) (next_in p s xs) (rest xs))
    unfolding filling
    filling_record w r = simp (w, le-leb p.longest room r)

    filling_stop : Stops room xs → filling p (suc n) room s xs ≡ still s
    unfolding filling
    filling_stop (inl w) = simp w
    filling_stop (inr r) = simp (lt-leb p.longest room r, and-false)

  filling_any : (n m room : ℕ) (s : S) (xs : List ℕ) → length xs < n → length xs < m → filling p n room s xs ≡ filling p m room s xs
  filling_any zero m room s xs h g = absurd (omega arith)
  filling_any (suc n) zero room s xs h g = absurd (omega arith)
  filling_any (suc n) (suc m) room s xs h g =
      stops_or room xs (λ t. filling_stop n room s xs t ∙ sym (filling_stop m room s xs t))
      (λ w r.
      filling_record n room s xs w r
      ∙ ap (followed (size_of (here xs)) (cost_in p s xs) (text_in p s xs)) (filling_any n m (room - cost_in p s xs) (next_in p s xs) (rest xs) (left_shorter p.forms xs n w h) (left_shorter p.forms xs m w g))
      ∙ sym (filling_record m room s xs w r))

  module _ (room : ℕ) (s : S) (xs : List ℕ) where
    pub filled_record : is_whole (entry_in p.forms xs) ≡ true → p.longest ≤ room → filled p room s xs ≡ followed (size_of (entry_in p.forms xs)) (cost_in p s xs) (text_in p s xs) (filled p (room - cost_in p s xs) (next_in p s xs) (drop (size_of (entry_in p.forms xs)) xs))
    unfolding filled
    filled_record w r =
        filling_record (length xs) room s xs w r
        ∙ ap (followed (size_of (here xs)) (cost_in p s xs) (text_in p s xs)) (filling_any (length xs) (suc (length (rest xs))) (room - cost_in p s xs) (next_in p s xs) (rest xs) (left_shorter p.forms xs (length xs) w (omega arith)) (omega arith))

    pub filled_stop : is_whole (entry_in p.forms xs) ≡ false → filled p room s xs ≡ still s
    unfolding filled
    filled_stop w = filling_stop (length xs) room s xs (inl w)

    pub filled_full : room < p.longest → filled p room s xs ≡ still s
    unfolding filled
    filled_full r = filling_stop (length xs) room s xs (inr r)

  -- a law of what is filled, by these cases
  module _ (P : ℕ → S → List ℕ → Filled S → Type 0) (stop : (room : ℕ) (s : S) (xs : List ℕ) → Stops room xs → P room s xs (still s)) (more : (room : ℕ) (s : S) (xs : List ℕ) → is_whole (here xs) ≡ true → p.longest ≤ room → (f : Filled S) → P (room - cost_in p s xs) (next_in p s xs) (rest xs) f → P room s xs (followed (size_of (here xs)) (cost_in p s xs) (text_in p s xs) f)) where
    filling_cases : (n room : ℕ) (s : S) (xs : List ℕ) → length xs < n → P room s xs (filling p n room s xs)
    filling_cases zero room s xs h = absurd (omega arith)
    filling_cases (suc n) room s xs h =
        stops_or room xs (λ t. rw (filling_stop n room s xs t) (stop room s xs t))
        (λ w r. rw (filling_record n room s xs w r) (more room s xs w r _ (filling_cases n (room - cost_in p s xs) (next_in p s xs) (rest xs) (left_shorter p.forms xs n w h))))

    pub filled_cases : (room : ℕ) (s : S) (xs : List ℕ) → P room s xs (filled p room s xs)
    unfolding filled
    filled_cases room s xs = filling_cases (suc (length xs)) room s xs (omega arith)

  pub filled-read : (room : ℕ) (s : S) (xs : List ℕ) → (filled p room s xs).read ≤ length xs
  filled-read =
      filled_cases (λ room s xs f. f.read ≤ length xs) (λ room s xs t. omega arith)
      (λ room s xs w r f q. omega (arith, size-inside p.forms xs, length-drop (size_of (here xs)) xs))

  -- the streaming law
  pub filled-printed : (last : S → Entry → List ℕ) (room : ℕ) (s : S) (xs after : List ℕ) → printed_with last p s (xs ++ after) ≡ (filled p room s xs).text ++ printed_with last p (filled p room s xs).state (drop (filled p room s xs).read xs ++ after)
  filled-printed last room s xs after =
      filled_cases (λ room s xs f. printed_with last p s (xs ++ after) ≡ f.text ++ printed_with last p f.state (drop f.read xs ++ after)) (λ room s xs t. refl)
      (λ room s xs w r f q.
      printed_more s xs after w last
      ∙ ap (λ (t : List ℕ). text_in p s xs ++ t) q
      ∙ sym (append_assoc (text_in p s xs) f.text (printed_with last p f.state (drop f.read (rest xs) ++ after)))
      ∙ ap (λ (t : List ℕ). (text_in p s xs ++ f.text) ++ printed_with last p f.state (t ++ after)) (drop-drop f.read (size_of (here xs)) xs))
      room s xs

  -- it stops for a reason, by the room that is left behind what its records took
  pub filled_stops : (room : ℕ) (s : S) (xs : List ℕ) → Stops (room - (filled p room s xs).cost) (drop (filled p room s xs).read xs)
  filled_stops =
      filled_cases (λ room s xs f. Stops (room - f.cost) (drop f.read xs)) (λ room s xs t. rw sub-zero t)
      (λ room s xs w r f q.
      let e : room - (cost_in p s xs + f.cost) ≡ room - cost_in p s xs - f.cost = omega arith in
      rw (e, ← drop-drop f.read (size_of (here xs)) xs) q)

  -- a property that every record keeps
  pub filled_keeps : (Q : S → Type 0) → ((s : S) (r : Record) → Q s → Q (p.next s r)) → (room : ℕ) (s : S) (xs : List ℕ) → Q s → Q (filled p room s xs).state
  filled_keeps Q keeps =
      filled_cases (λ room s xs f. Q s → Q f.state) (λ room s xs t y. y)
      (λ room s xs w r f q y. q (rw w (keeps s (record_in (size_of (here xs)) xs) y)))

  -- the text of a record takes no more room than the record, and any record has room
  pub record Fits : Type 0 where
    pub text : (s : S) (r : Record) → length (p.text s r) ≤ p.cost s r
    pub cost : (s : S) (r : Record) → p.cost s r ≤ p.longest

  module _ (fits : Fits) where
    pub text-fits : (s : S) (xs : List ℕ) → length (text_in p s xs) ≤ cost_in p s xs
    text-fits s xs = either (is_whole (here xs)) (λ w. rw w (fits.text s (record_in (size_of (here xs)) xs))) (λ w. rw w (omega arith))

    pub cost-fits : (s : S) (xs : List ℕ) → cost_in p s xs ≤ p.longest
    cost-fits s xs = either (is_whole (here xs)) (λ w. rw w (fits.cost s (record_in (size_of (here xs)) xs))) (λ w. rw w (omega arith))

    pub filled_room : (room : ℕ) (s : S) (xs : List ℕ) → length (filled p room s xs).text ≤ room
    filled_room =
        filled_cases (λ room s xs f. length f.text ≤ room) (λ room s xs t. omega arith)
        (λ room s xs w r f q. omega (arith, text-fits s xs, cost-fits s xs, length-append (text_in p s xs) f.text))

  -- where a record takes the room of its text and no more
  module _ (exact : (s : S) (r : Record) → p.cost s r ≡ length (p.text s r)) where
    pub cost-text : (s : S) (xs : List ℕ) → cost_in p s xs ≡ length (text_in p s xs)
    cost-text s xs = either (is_whole (here xs)) (λ w. rw w (exact s (record_in (size_of (here xs)) xs))) (λ w. rw w)

    pub filled-cost : (room : ℕ) (s : S) (xs : List ℕ) → (filled p room s xs).cost ≡ length (filled p room s xs).text
    filled-cost =
        filled_cases (λ room s xs f. f.cost ≡ length f.text) (λ room s xs t. refl)
        (λ room s xs w r f q. omega (arith, cost-text s xs, length-append (text_in p s xs) f.text))

-- ---- two programs that differ only in what they write read alike, with the same states

module _ {S : Type 0} (p : Program S) (text : S → Record → List ℕ) (last : S → Entry → List ℕ) where
  abbrev other : Program S
  other = record { forms = p.forms; next = p.next; text = text; cost = p.cost; longest = p.longest; last = last }

  filling_alike : (n room : ℕ) (s : S) (xs : List ℕ) → ((filling p n room s xs).state ≡ (filling other n room s xs).state) × ((filling p n room s xs).read ≡ (filling other n room s xs).read)
  unfolding filling
  filling_alike zero room s xs = (refl, refl)
  filling_alike (suc n) room s xs =
      let e : Entry = entry_in p.forms xs in
      let more = filling_alike n (room - cost_in p s xs) (next_in p s xs) (drop (size_of e) xs) in
      either (is_whole e && leb p.longest room) (λ t. rw t (more.0, ap (λ (n : ℕ). size_of e + n) more.1)) (λ t. rw t (refl, refl))

module _ {S : Type 0} (p q : Program S) (forms : p.forms ≡ q.forms) (next : p.next ≡ q.next) (cost : p.cost ≡ q.cost) (longest : p.longest ≡ q.longest) where
  pub filled_alike : (room : ℕ) (s : S) (xs : List ℕ) → ((filled p room s xs).state ≡ (filled q room s xs).state) × ((filled p room s xs).read ≡ (filled q room s xs).read)
  unfolding filled
  filled_alike room s xs =
      subst (λ (r : Program S). ((filled p room s xs).state ≡ (filled r room s xs).state) × ((filled p room s xs).read ≡ (filled r room s xs).read))
      (λ i. record { forms = forms i; next = next i; text = q.text; cost = cost i; longest = longest i; last = q.last })
      (filling_alike p q.text q.last (suc (length xs)) room s xs)

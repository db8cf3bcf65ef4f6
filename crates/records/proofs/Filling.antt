-- A loop that goes from record to record: what is left to fill, put here, makes the whole that was asked for. Assumes nothing.
use mathlib.Core.Path.{◌≡◌, refl, sym, ap, ap₂, subst, ◌∙◌}
use mathlib.Core.Bool.{true, false}
use mathlib.Core.List.{List, []}
use Prim.Native.Nat.{ℕ, ◌+◌, ◌-◌, ◌≤◌, ◌<◌}
use native.Mathlib.Nat.{add-zero, zero-add}
use native.Mathlib.Omega.{arith}
use lib.ListN.{length, drop, length-append, length-drop}
use lib.Seq.{drop-drop, sets, length-sets}
use Rattle.octets.proofs.Laws.{either}
use Rattle.octets.proofs.Stores.{sets-append}
use Rattle.text.specs.Text.{Put}
use Rattle.records.specs.Records.{entry_in, is_whole, size_of, Record}
use Rattle.records.specs.Transcripts.{Program, Filled, still, followed, text_in, cost_in, filled, Turned}
use Rattle.records.proofs.Entries.{size-inside, whole_some}
use Rattle.records.proofs.Transcripts.{none_size, filled_record, filled_stop, filled_full, Fits, text-fits, cost-fits, cost-text}

-- what stands in the output so far and what is still to be filled
pub record Goes {S : Type 0} (out₀ : List ℕ) (f₀ : Filled S) (out : List ℕ) (at to : ℕ) (f : Filled S) : Type 0 where
  pub states : f.state ≡ f₀.state
  pub reads : at + f.read ≡ f₀.read
  pub writes : to + length f.text ≡ length f₀.text
  pub puts : sets out to f.text ≡ sets out₀ 0 f₀.text

module _ {S : Type 0} (out₀ : List ℕ) (f₀ : Filled S) where
  pub goes_start : Goes out₀ f₀ out₀ 0 0 f₀
  goes_start = record { states = refl; reads = zero-add f₀.read; writes = zero-add (length f₀.text); puts = refl }

  goes_more : (out left : List ℕ) (at to read wrote bytes cost : ℕ) (text : List ℕ) (f : Filled S) → Goes out₀ f₀ out at to (followed bytes cost text f) → read ≡ at + bytes → Put text out to left wrote → Goes out₀ f₀ left read wrote f
  goes_more out left at to read wrote bytes cost text f g r q =
      record {
        states = g.states;
        reads = omega (arith, g.reads);
        writes = omega (arith, g.writes, q.0, length-append text f.text);
        puts = ap₂ (λ (l : List ℕ) (k : ℕ). sets l k f.text) q.1 q.0 ∙ sym (sets-append text f.text out to) ∙ g.puts;
      }

  -- nothing is left to fill
  pub goes_end : (out : List ℕ) (at to : ℕ) (s : S) → Goes out₀ f₀ out at to (still s) → (s ≡ f₀.state) × (at ≡ f₀.read) × Put f₀.text out₀ 0 out to
  goes_end out at to s g =
      (g.states, sym (add-zero at) ∙ g.reads, (sym (add-zero to) ∙ g.writes ∙ sym (zero-add (length f₀.text)), g.puts))

-- an output that is full
module _ {S : Type 0} (p : Program S) where
  pub full_stops : (out₀ : List ℕ) (f₀ : Filled S) (out : List ℕ) (at to room : ℕ) (s : S) (xs : List ℕ) → room < p.longest → Goes out₀ f₀ out at to (filled p room s xs) → Goes out₀ f₀ out at to (still s)
  full_stops out₀ f₀ out at to room s xs h g = subst (λ (f : Filled S). Goes out₀ f₀ out at to f) (filled_full p room s xs h) g

-- one record was taken at a place of the file
module _ {S : Type 0} (p : Program S) (file out left : List ℕ) (at to read wrote : ℕ) (s t : S) (turn : Turned p s (drop at file) at to out t read left wrote) where
  abbrev xs : List ℕ
  xs = drop at file

  whole_or : {P : Type 0} → (is_whole (entry_in p.forms xs) ≡ true → P) → (is_whole (entry_in p.forms xs) ≡ false → P) → P
  whole_or = either (is_whole (entry_in p.forms xs))

  pub turned_keeps : (Q : S → Type 0) → ((s : S) (r : Record) → Q s → Q (p.next s r)) → Q s → Q t
  turned_keeps Q keeps h = subst Q (sym turn.0) (whole_or (λ w. rw w (keeps s _ h)) (λ w. rw w h))

  pub turned-inside : at ≤ length file → read ≤ length file
  turned-inside h = omega (arith, turn.1, size-inside p.forms xs, length-drop at file)

  pub turned_less : at ≤ length file → (read ≡ at → ⊥) → length file - read < length file - at
  turned_less h moved = omega (arith, turn.1, turned-inside h)

  pub turned-length : length left ≡ length out
  turned-length = ap length turn.2.1 ∙ length-sets out to (text_in p s xs)

  -- what is left of the room is inside the output
  pub turned_room : Fits p → (room : ℕ) → p.longest ≤ room → to + room ≤ length out → wrote + (room - cost_in p s (drop at file)) ≤ length left
  turned_room fits room h inside = omega (arith, turn.2.0, text-fits p fits s xs, cost-fits p fits s xs, turned-length)

  -- and is all that is left of it, where a record takes the room of its text and no more
  pub turned_left : ((s : S) (r : Record) → p.cost s r ≡ length (p.text s r)) → length left - wrote ≡ length out - to - cost_in p s (drop at file)
  turned_left exact = omega (arith, turn.2.0, cost-text p exact s xs, turned-length)

  module _ (out₀ : List ℕ) (f₀ : Filled S) (room : ℕ) (goes : Goes out₀ f₀ out at to (filled p room s (drop at file))) where
    pub turned_goes : p.longest ≤ room → (read ≡ at → ⊥) → (rest : ℕ) → rest ≡ room - cost_in p s (drop at file) → Goes out₀ f₀ left read wrote (filled p rest t (drop read file))
    turned_goes h moved rest is =
        whole_or
        (λ w.
        let size : ℕ = size_of (entry_in p.forms xs) in
        let place : drop size xs ≡ drop read file = drop-drop size at file ∙ ap (λ (k : ℕ). drop k file) (sym turn.1) in
        subst (λ (f : Filled S). Goes out₀ f₀ left read wrote f) (λ i. filled p (sym is i) (sym turn.0 i) (place i))
        (goes_more out₀ f₀ out left at to read wrote size (cost_in p s xs) (text_in p s xs) _
        (subst (λ (f : Filled S). Goes out₀ f₀ out at to f) (filled_record p room s xs w h) goes) turn.1 turn.2))
        (λ w. absurd (moved (turn.1 ∙ ap (λ (n : ℕ). at + n) (none_size (entry_in p.forms xs) w) ∙ add-zero at)))

    pub turned_stops : read ≡ at → Goes out₀ f₀ left at wrote (still t)
    turned_stops same =
        whole_or (λ w. absurd (omega (arith, turn.1, whole_some p.forms xs w)))
        (λ w.
        let quiet : text_in p s xs ≡ [] = rw w in
        let to_is : wrote ≡ to = omega (arith, turn.2.0, ap length quiet) in
        let left-same : left ≡ out = turn.2.1 ∙ ap (sets out to) quiet in
        let t-is : t ≡ s = turn.0 ∙ rw w in
        subst (λ (f : Filled S). Goes out₀ f₀ left at wrote f) (ap still (sym t-is))
        (subst (λ (l : List ℕ). Goes out₀ f₀ l at wrote (still s)) (sym left-same)
        (subst (λ (n : ℕ). Goes out₀ f₀ out at n (still s)) (sym to_is)
        (subst (λ (f : Filled S). Goes out₀ f₀ out at to f) (filled_stop p room s xs w) goes))))

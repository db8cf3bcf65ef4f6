-- A whole run: whatever the reads bring and however they cut it, turns enough write the transcript of the whole file. Assumes nothing.
use mathlib.Core.Path.{◌≡◌, refl, sym, ap, ◌∙◌}
use mathlib.Core.Bool.{Bool, true, false, true≢false}
use mathlib.Core.Logic.{inr}
use mathlib.Core.List.{List, [], ◌∷◌, ◌++◌, append_assoc, append-nil}
use Prim.Native.Nat.{ℕ, zero, suc, ◌-◌, ◌≤◌, ◌<◌}
use native.Mathlib.Omega.{arith}
use lib.ListN.{length, drop, length-append, length-drop}
use Rattle.octets.proofs.Laws.{either}
use Rattle.records.specs.declared.Entry.{Entry}
use Rattle.records.specs.declared.Entry.TheVariants.{End, Whole, Unknown, Cut}
use Rattle.records.specs.Records.{entry_in, is_whole}
use Rattle.records.specs.Transcripts.{Program, printed_with, Filled, filled}
use Rattle.records.proofs.Entries.{entry_more, whole_some}
use Rattle.records.proofs.Transcripts.{printed_last, filled_record, filled_stop, filled-read, filled-printed}
use Rattle.blocks.specs.Turns.{Reading, brings, fails, brought_by, fails_in, last_written, Turns, after_read, goes_on, turned, enough}

abbrev unknown : Entry → Bool
unknown (Whole n) = false
unknown End = false
unknown Unknown = true
unknown Cut = false

module _ {S : Type 0} (p : Program S) where
  abbrev here : List ℕ → Entry
  here xs = entry_in p.forms xs

  -- with room for any text, a turn stops in front of a whole record only behind another
  filled_some : (room : ℕ) (s : S) (xs : List ℕ) → p.longest ≤ room → is_whole (here (drop (filled p room s xs).read xs)) ≡ true → 0 < (filled p room s xs).read
  filled_some room s xs r w =
      either (is_whole (here xs)) (λ t. rw (filled_record p room s xs t r) (omega (arith, whole_some p.forms xs t)))
      (λ t. absurd (true≢false (sym (rw (filled_stop p room s xs t) at w) ∙ t)))

  -- where no whole record stands, what comes last is all
  ends_printed : (last : S → Entry → List ℕ) (s : S) (xs : List ℕ) (e : Entry) → here xs ≡ e → is_whole e ≡ false → last s e ≡ printed_with last p s xs
  ends_printed last s xs e is w = sym (printed_last p last s xs (ap is_whole is ∙ w) ∙ ap (last s) is)

  -- what is written behind the last record, by the reads
  abbrev last_in : List Reading → S → Entry → List ℕ
  last_in reads s = last_written (fails_in reads) (p.last s)

  -- an unknown mark is told however the reads end, and anything else not where one fails
  unknown_written : (failed : Bool) (last : Entry → List ℕ) → last Unknown ≡ last_written failed last Unknown
  unknown_written true last = refl
  unknown_written false last = refl

  none_written : (last : Entry → List ℕ) (e : Entry) → is_whole e ≡ false → (e ≡ Unknown → ⊥) → [] ≡ last_written true last e
  none_written last (Whole n) w u = refl
  none_written last End w u = refl
  none_written last Cut w u = refl
  none_written last Unknown w u = absurd (u refl)

  -- behind the records of a turn, ys being unread: the turns that follow print what is left wherever they are enough
  module _ (n : ℕ) (s : S) (more : Turns) (prints : (zs : List ℕ) (later : List Reading) → enough zs later ≤ n → more zs later ≡ printed_with (last_in later) p s (zs ++ brought_by later)) (ys : List ℕ) where
    read-printed : (e : Entry) → here ys ≡ e → is_whole e ≡ false → (e ≡ Unknown → ⊥) → (reads : List Reading) → enough ys reads ≤ suc n → after_read (p.last s) e more ys reads ≡ printed_with (last_in reads) p s (ys ++ brought_by reads)
    read-printed e is w u [] h = rw append-nil (ends_printed p.last s ys e is w)
    read-printed e is w u (fails ∷ later) h =
        rw append-nil (none_written (p.last s) e w u ∙ ends_printed (λ t. last_written true (p.last t)) s ys e is w)
    read-printed e is w u (brings [] ∷ later) h = rw append-nil (ends_printed p.last s ys e is w)
    read-printed e is w u (brings (b ∷ bs) ∷ later) h =
        let read : List ℕ = b ∷ bs in
        prints (ys ++ read) later (omega (arith, length-append ys read, length-append read (brought_by later))) ∙ ap (printed_with (last_in later) p s) (append_assoc ys read (brought_by later))

    goes_printed : (e : Entry) → here ys ≡ e → (reads : List Reading) → enough ys reads ≤ suc n → (is_whole e ≡ true → enough ys reads ≤ n) → goes_on (p.last s) e more ys reads ≡ printed_with (last_in reads) p s (ys ++ brought_by reads)
    goes_printed (Whole size) is reads h w = prints ys reads (w refl)
    goes_printed Unknown is reads h w =
        unknown_written (fails_in reads) (p.last s)
        ∙ ends_printed (last_in reads) s (ys ++ brought_by reads) Unknown (entry_more p.forms ys (brought_by reads) (inr is) ∙ is) refl
    goes_printed End is reads h w = read-printed End is refl (λ e. absurd (true≢false (sym (ap unknown e)))) reads h
    goes_printed Cut is reads h w = read-printed Cut is refl (λ e. absurd (true≢false (sym (ap unknown e)))) reads h

  pub turned-printed : (room : ℕ) (s : S) (xs : List ℕ) (reads : List Reading) (n : ℕ) → p.longest ≤ room → enough xs reads ≤ n → turned p room n s xs reads ≡ printed_with (λ t. last_written (fails_in reads) (p.last t)) p s (xs ++ brought_by reads)
  unfolding turned
  turned-printed room s xs reads zero r h = absurd (omega arith)
  turned-printed room s xs reads (suc n) r h =
      let f : Filled S = filled p room s xs in
      let ys : List ℕ = drop f.read xs in
      let left : length ys ≡ length xs - f.read = length-drop f.read xs in
      ap (λ (t : List ℕ). f.text ++ t)
      (goes_printed n f.state (turned p room n f.state) (λ zs later g. turned-printed room f.state zs later n r g) ys (here ys) refl reads (omega arith)
      (λ w. omega (arith, filled_some room s xs r w, filled-read p room s xs)))
      ∙ sym (filled-printed p (last_in reads) room s xs (brought_by reads))

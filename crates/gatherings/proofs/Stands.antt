-- Where the gathering of a chunk stands, and what one call makes of that: one that leaves its kind alone, or one with a piece. Assumes nothing.
use mathlib.Core.Path.{◌≡◌, refl, sym, ap, ◌∙◌, subst}
use mathlib.Core.Bool.{Bool, true, false}
use mathlib.Core.List.{List, [], ◌∷◌, ◌++◌}
use Prim.Native.Nat.{ℕ, suc, ◌-◌, ◌*◌, ◌≤◌, ◌<◌}
use native.Mathlib.Omega.{arith}
use borrow.Author.Tests.{eqb-true, eqb-false, le-ltb}
use lib.Dec.{eqb}
use lib.ListN.{length, take, drop, length-take}
use lib.Seq.{take_at}
use lib.Count.{ones}
use Rattle.std.proofs.Common.{Ok}
use Rattle.octets.specs.Each.{Each}
use Rattle.octets.specs.Checks.{among}
use Rattle.octets.proofs.Laws.{either}
use Rattle.meaning.specs.declared.Kind.{Kind}
use Rattle.meaning.specs.Sizes.{longest_listing}
use Rattle.meaning.specs.Lists.{FicList}
use Rattle.meaning.specs.Listing.{listing}
use Rattle.meaning.specs.Reading.{Accepts}
use Rattle.segments.specs.Segment.{payload_bytes}
use Rattle.slots.specs.declared.Slot.{Slot}
use Rattle.slots.specs.declared.Answer.TheVariants.{Missing}
use Rattle.octets.specs.Sets.{holds, including}
use Rattle.octets.proofs.Sets.{ones-including}
use Rattle.notes.specs.Notes.{slot_for, length_for, lent_for}
use Rattle.desk.specs.declared.Desk.{Desk}
use Rattle.desk.specs.Desks.{After, shown_length, shown}
use Rattle.desk.specs.Calls.{Lending}
use Rattle.effects.specs.Effects.{Kept}
use Rattle.effects.proofs.Keeps.{segment-fits}
use Rattle.gatherings.specs.Deliveries.{AtStart}
use Rattle.gatherings.specs.Once.{different, piece_answer}
use Rattle.gatherings.proofs.Sets.{set_of, holds_set_of, ones_set_of, different_fewer}
use Rattle.gatherings.proofs.Memory.{Lent, wide, called, wide_unchanged, called_lent, called_left}
use Rattle.gatherings.proofs.Pieces.{Piece}
use Rattle.gatherings.proofs.Gathers.{Gathers, start-empty, start_gathers, piece-repeat, piece_more, piece_last}

-- the places `held` of n of the chunk `whole` came, its listing is xs, and its kind's memory was `before`; swapped tells the buffers' roles
pub record Stands (n : ℕ) (whole : List ℕ) (k : Kind) (xs : List ℕ) (swapped : Bool) (before : List ℕ) (held : ℕ) (d : Desk) (first second : List ℕ) : Type 0 where
  pub gathers : Gathers n whole k d
  pub places : (slot_for k d.notes).held ≡ held
  pub lent : Lent swapped d first second
  -- some are missing, or all came
  pub some : ones held < n → lent_for k swapped first second ≡ before
  pub all : ones held ≡ n → (length_for k d.notes ≡ length xs) × (lent_for k swapped first second ≡ xs ++ drop (length xs) before)

pub start-stands : (n : ℕ) (whole : List ℕ) (k : Kind) (xs : List ℕ) → 0 < n → (d : Desk) → AtStart d → (first second : List ℕ) → longest_listing ≤ length first → longest_listing ≤ length second → Stands n whole k xs d.notes.swapped (lent_for k d.notes.swapped first second) 0 d first second
unfolding ones
start-stands n whole k xs more d start first second left right =
    record {
      gathers = start_gathers d start n whole k;
      places = ap (λ (s : Slot). s.held) (start-empty d start k);
      lent = (left, right, refl);
      some = λ e. refl;
      all = λ e. absurd (omega arith);
    }

module _ {n : ℕ} {whole : List ℕ} {k : Kind} {xs : List ℕ} {swapped : Bool} {before : List ℕ} {held : ℕ} {d : Desk} {first second : List ℕ} (s : Stands n whole k xs swapped before held d first second) where
  -- all came: the listing is shown
  pub all_shown : ones held ≡ n → shown k d first second ≡ xs
  unfolding shown shown_length
  all_shown e =
      simp (s.gathers.formed, le-ltb _ _ s.lent.0, le-ltb _ _ s.lent.1, s.lent.2, (s.all e).0, (s.all e).1)
      (take_at xs (drop (length xs) before) (length xs) refl)

  -- a call that leaves the kind alone
  pub kept-stands : (c : Lending) → let r = called d c first second in Kept d.notes.swapped k d first second r → Stands n whole k xs swapped before held r.desk r.first r.second
  kept-stands c h =
      let r : After = called d c first second in
      let own : lent_for k swapped r.first r.second ≡ lent_for k swapped first second =
      subst (λ (t : Bool). lent_for k t r.first r.second ≡ lent_for k t first second) s.lent.2 h.3 in
      record {
        gathers =
            record {
              formed = segment-fits d c.segment (take c.first first) (take c.second second) s.gathers.formed;
              only = rw (h.0, h.1) s.gathers.only;
            };
        places = ap (λ (x : Slot). x.held) h.0 ∙ s.places;
        lent = called_lent d c first second s.lent;
        some = λ e. own ∙ s.some e;
        all = λ e. (h.2 ∙ (s.all e).0, own ∙ (s.all e).1);
      }

-- ---- the pieces `came`, and the piece i comes

module _ {n : ℕ} {whole : List ℕ} {k : Kind} {m : ℕ} {l : FicList} {swapped : Bool} {before : List ℕ} (size : length whole ≡ payload_bytes * n) (accepts : Accepts whole k m l) (came : List ℕ) (inside : Each (λ j. j < n) came) {d : Desk} {first second : List ℕ} (s : Stands n whole k (listing l) swapped before (set_of came) d first second) (c : Lending) (one : longest_listing ≤ c.first) (two : longest_listing ≤ c.second) (i : ℕ) (p : Piece n whole k i c.segment) where
  abbrev xs : List ℕ
  xs = listing l

  abbrev left : List ℕ
  left = take c.first first

  abbrev right : List ℕ
  right = take c.second second

  abbrev held : ℕ
  held = (slot_for k d.notes).held

  abbrev r : After
  r = called d c first second

  abbrev Goes : After → Type 0
  Goes o = (o.answer ≡ piece_answer n k (length xs) came i) × Stands n whole k xs swapped before (set_of (i ∷ came)) o.desk o.first o.second

  left_long : longest_listing ≤ length left
  left_long = omega (arith, length-take c.first first, s.lent.0)

  right_long : longest_listing ≤ length right
  right_long = omega (arith, length-take c.second second, s.lent.1)

  there : holds held i ≡ among came i
  there = ap (λ (h : ℕ). holds h i) s.places ∙ holds_set_of came i

  count : ones held ≡ different came
  count = ap ones s.places ∙ ones_set_of came

  repeat_goes : among came i ≡ true → Goes r
  repeat_goes q =
      let same =
      ap (wide c first second) (piece-repeat p d s.gathers left right left_long right_long (there ∙ q))
      ∙ wide_unchanged d c first second (Ok (Missing (n - ones held))) in
      subst Goes (sym same) (simp (q, count), simp q s)

  -- one of the missing
  module _ (q : among came i ≡ false) where
    held_stands : Gathers n whole k r.desk → (slot_for k r.desk.notes).held ≡ including held i → (suc (different came) < n → lent_for k swapped r.first r.second ≡ before) → (suc (different came) ≡ n → (length_for k r.desk.notes ≡ length xs) × (lent_for k swapped r.first r.second ≡ xs ++ drop (length xs) before)) → Stands n whole k xs swapped before (set_of (i ∷ came)) r.desk r.first r.second
    held_stands g h some all =
        let sum : ones (including (set_of came) i) ≡ suc (different came) =
        ones-including (set_of came) i (holds_set_of came i ∙ q) ∙ ap suc (ones_set_of came) in
        simp q
        (record {
          gathers = g;
          places = h ∙ ap (λ (x : ℕ). including x i) s.places;
          lent = called_lent d c first second s.lent;
          some = λ e. some (rw sum at e);
          all = λ e. all (sym sum ∙ e);
        })

    missing_goes : i < n → Goes r
    missing_goes less =
        let free = there ∙ q in
        let fewer = different_fewer n came inside i less q in
        let same : lent_for k swapped first second ≡ before = s.some (rw (ones_set_of came) fewer) in
        either (eqb (n - suc (different came)) 0)
        (λ z.
        let full : suc (different came) ≡ n = omega (arith, eqb-true (n - suc (different came)) 0 z) in
        let h = piece_last p d s.gathers left right left_long right_long free size accepts (ap suc count ∙ full) in
        let own =
        subst (λ (t : Bool). lent_for k t r.first r.second ≡ xs ++ drop (length xs) (lent_for k t first second)) s.lent.2 (called_left d c first second k d.notes.swapped xs h.4)
        ∙ ap (λ (x : List ℕ). xs ++ drop (length xs) x) same in
        (simp (q, z) h.0, held_stands h.1 h.2 (λ e. absurd (omega arith)) (λ e. (h.3, own))))
        (λ z.
        let short : suc (different came) < n = omega (arith, eqb-false (n - suc (different came)) 0 z) in
        let h = piece_more p d s.gathers left right left_long right_long free (rw count short) in
        let own = called_left d c first second k swapped [] (λ j. lent_for k swapped (h.4 j) (h.5 j)) ∙ same in
        (simp (q, z) (h.0 ∙ ap (λ (x : ℕ). Ok (Missing (n - suc x))) count), held_stands h.1 h.2 (λ e. own) (λ e. absurd (omega arith))))

  pub piece_goes : i < n → let o = called d c first second in (o.answer ≡ piece_answer n k (length (listing l)) came i) × Stands n whole k (listing l) swapped before (set_of (i ∷ came)) o.desk o.first o.second
  piece_goes less = either (among came i) repeat_goes (λ q. missing_goes q less)

-- A desk that gathers one chunk of a kind, and what each piece of it answers and leaves: a repeat, one more, the last. Assumes nothing.
use mathlib.Core.Path.{◌≡◌, refl, sym, ap, ◌∙◌, subst}
use mathlib.Core.Bool.{Bool, true, false, true≢false}
use mathlib.Core.List.{List, ◌++◌}
use Prim.Native.Nat.{ℕ, suc, ◌-◌, ◌*◌, ◌≤◌, ◌<◌}
use lib.ListN.{length, drop}
use lib.Count.{ones}
use Rattle.std.proofs.Common.{Result, Ok}
use Rattle.meaning.specs.declared.Refusal.{Refusal}
use Rattle.meaning.specs.declared.Kind.{Kind}
use Rattle.meaning.specs.declared.Kind.TheVariants.{This, Next}
use Rattle.meaning.specs.Sizes.{longest_listing}
use Rattle.meaning.specs.Lists.{FicList}
use Rattle.meaning.specs.Listing.{listing}
use Rattle.meaning.specs.Reading.{Accepts}
use Rattle.segments.specs.Segment.{payload_bytes}
use Rattle.slots.specs.declared.Answer.{Answer}
use Rattle.slots.specs.declared.Answer.TheVariants.{Missing, NewList}
use Rattle.octets.specs.Sets.{holds, including}
use Rattle.slots.specs.Slots.{empty_slot, slot_fits}
use Rattle.slots.specs.Gathering.{Side, side, Outcome, outcome, hold, gathered}
use Rattle.octets.proofs.Sets.{holds_none}
use Rattle.notes.specs.Notes.{slot_for, length_for, lent_for}
use Rattle.desk.specs.declared.Desk.{Desk}
use Rattle.desk.specs.Desks.{well_formed, bytes_for, After, after, segment_after}
use Rattle.desk.proofs.Laws.{gathering_good}
use Rattle.effects.proofs.Ways.{own, Takes, unlisted_becomes, missing_unchanged, segment_comes}
use Rattle.effects.proofs.Keeps.{gathering-fits, segment-fits}
use Rattle.effects.proofs.Refusals.{slot-fits}
use Rattle.gatherings.specs.Deliveries.{AtStart}
use Rattle.gatherings.proofs.Pieces.{Piece, OnlyPieces, gathered_held, hold_pieces, gathered_free, gathered_all}

-- ---- the desk is well formed, and its slot of the kind k holds some of the n pieces of a chunk and nothing else

pub record Gathers (n : ℕ) (whole : List ℕ) (k : Kind) (d : Desk) : Type 0 where
  pub formed : well_formed d ≡ true
  pub only : OnlyPieces n whole (slot_for k d.notes) (bytes_for k d)

-- at the beginning of a gathering it holds none
module _ (d : Desk) (start : AtStart d) where
  start_formed : well_formed d ≡ true
  start_formed = subst (λ (e : Desk). well_formed e ≡ true) start (gathering-fits d)

  pub start-empty : (k : Kind) → slot_for k d.notes ≡ empty_slot
  start-empty This = ap (λ (e : Desk). e.notes.this) (sym start ∙ gathering_good d start_formed)
  start-empty Next = ap (λ (e : Desk). e.notes.next) (sym start ∙ gathering_good d start_formed)

  pub start_gathers : (n : ℕ) (whole : List ℕ) (k : Kind) → Gathers n whole k d
  start_gathers n whole k =
      record {
        formed = start_formed;
        only = rw (start-empty k) (record {
          sound = refl;
          last = λ some. absurd (some refl);
          places = λ i t. absurd (true≢false (sym t ∙ holds_none i));
        });
      }

-- ---- a piece comes

module _ {n : ℕ} {whole : List ℕ} {k : Kind} {i : ℕ} {xs : List ℕ} (p : Piece n whole k i xs) (d : Desk) (g : Gathers n whole k d) (first second : List ℕ) (one : longest_listing ≤ length first) (two : longest_listing ≤ length second) where
  abbrev swapped : Bool
  swapped = d.notes.swapped

  abbrev before : Side
  before = own k d first second

  abbrev result : After
  result = segment_after d xs first second

  abbrev held : ℕ
  held = (slot_for k d.notes).held

  fits : slot_fits (slot_for k d.notes) (bytes_for k d) ≡ true
  fits = slot-fits k d g.formed

  piece_comes : {o : Outcome} → o ≡ gathered k xs before → Takes k d first second o result
  piece_comes e = rw e (segment_comes d xs first second k p.kind (record { formed = g.formed; left = one; right = two }) p.passes)

  -- one that is held changes nothing
  pub piece-repeat : holds held i ≡ true → result ≡ after (Ok (Missing (n - ones held))) d first second
  piece-repeat t = missing_unchanged k d first second result (piece_comes (gathered_held p before g.only fits t))

  -- one that is not held is held then
  module _ (free : holds held i ≡ false) where
    abbrev more : Side
    more = hold xs before

    piece_held : {a : Result Answer Refusal} {buffer : List ℕ} → Takes k d first second (outcome a (side more.slot more.bytes buffer)) result → (result.answer ≡ a) × Gathers n whole k result.desk × ((slot_for k result.desk.notes).held ≡ including held i)
    piece_held h = (
      h.answer,
      record { formed = segment-fits d xs first second g.formed; only = rw (h.slot, h.bytes) (hold_pieces p before g.only fits free) },
      rw (h.slot, p.number) refl,
    )

    pub piece_more : suc (ones held) < n → (result.answer ≡ Ok (Missing (n - suc (ones held)))) × Gathers n whole k result.desk × ((slot_for k result.desk.notes).held ≡ including held i) × (length_for k result.desk.notes ≡ length_for k d.notes) × (result.first ≡ first) × (result.second ≡ second)
    piece_more l =
        let h = piece_comes (gathered_free p before g.only fits free l) in
        let q = piece_held h in
        let b = unlisted_becomes h (λ m. refl) refl in
        (q.0, q.1, q.2, b.2, b.3, b.4)

    pub piece_last : {m : ℕ} {l : FicList} → length whole ≡ payload_bytes * n → Accepts whole k m l → suc (ones held) ≡ n → (result.answer ≡ Ok (NewList k (length (listing l)))) × Gathers n whole k result.desk × ((slot_for k result.desk.notes).held ≡ including held i) × (length_for k result.desk.notes ≡ length (listing l)) × (lent_for k swapped result.first result.second ≡ listing l ++ drop (length (listing l)) (lent_for k swapped first second))
    piece_last size accepts all =
        let h = piece_comes (gathered_all p before g.only fits free size accepts all) in
        let q = piece_held h in
        (q.0, q.1, q.2, h.size, h.buffer)

-- A chunk that carries a list, cut in any way and delivered in order: the answers count down, and its list is listed and shown. Assumes nothing.
use mathlib.Core.Path.{◌≡◌, refl, sym, ap, ◌∙◌, subst}
use mathlib.Core.Bool.{Bool}
use mathlib.Core.List.{List, [], ◌∷◌, map, map-map}
use Prim.Native.Nat.{ℕ, zero, suc, ◌+◌, ◌≤◌, ◌<◌}
use native.Mathlib.Omega.{arith}
use borrow.Author.Tests.{eqb-false}
use lib.Dec.{T, eqb}
use lib.ListN.{length}
use Rattle.std.proofs.Common.{Result}
use Rattle.octets.specs.Each.{Each}
use Rattle.octets.specs.Checks.{among}
use Rattle.octets.proofs.Laws.{either}
use Rattle.meaning.specs.declared.Refusal.{Refusal}
use Rattle.meaning.specs.declared.Kind.{Kind}
use Rattle.meaning.specs.Sizes.{longest_listing}
use Rattle.meaning.specs.Lists.{FicList}
use Rattle.meaning.specs.Layout.{Carries}
use Rattle.meaning.specs.Listing.{listing}
use Rattle.segments.specs.Cut.{segment_count, Choice, Suits, piece_of, up_from, cut}
use Rattle.slots.specs.declared.Answer.{Answer}
use Rattle.notes.specs.Notes.{other_kind, lent_for}
use Rattle.desk.specs.declared.Desk.{Desk}
use Rattle.desk.specs.Desks.{After}
use Rattle.desk.specs.Calls.{Lending, Call, state, wholly, ran_by, ran, answers_of}
use Rattle.gatherings.specs.Deliveries.{AtStart}
use Rattle.gatherings.specs.Once.{Delivery, piece, call_for, MayCome, numbers_of, piece_answers, at_pieces, ComesInOrder}
use Rattle.gatherings.proofs.Memory.{called, called-kept}
use Rattle.gatherings.proofs.Cuts.{cut-piece}
use Rattle.gatherings.proofs.Once.{lists_all}

module _ {ys : List ℕ} {k : Kind} {m : ℕ} {l : FicList} {c : Choice} (carries : Carries ys k m l) (suits : Suits ys c) where
  abbrev n : ℕ
  n = segment_count (length ys)

  abbrev size : ℕ
  size = length (listing l)

  -- j pieces from the number i on, each lent so many bytes of the two memories
  module _ (a b : ℕ) where
    abbrev in_order : ℕ → ℕ → List Delivery
    in_order i j = map (λ p. piece p (c.reserved p) (c.wake p) a b) (up_from i j)

    order-allowed : longest_listing ≤ a → longest_listing ≤ b → (j i : ℕ) → i + j ≡ n → let ds = in_order i j in Each (MayCome n k) ds × ((p : ℕ) → i ≤ p → p < n → T (among (numbers_of ds) p)) × (numbers_of ds ≡ up_from i j)
    unfolding up_from
    order-allowed one two zero i e = (tt, λ p low high. absurd (omega arith), refl)
    order-allowed one two (suc j) i e =
        let t = order-allowed one two j (suc i) (omega arith) in (
          ((omega arith, suits.reserved i, suits.wake i, one, two), t.0),
          λ p low high. either (eqb p i) (λ q. simp q tt) (λ q. simp q (t.1 p (omega (arith, eqb-false p i q)) high)),
          ap (λ (x : List ℕ). i ∷ x) t.2,
        )

    -- every answer is to a piece, and the other kind's memory is as it was
    order_told : (j i : ℕ) → i + j ≡ n → (swapped : Bool) (d : Desk) (first second : List ℕ) → d.notes.swapped ≡ swapped → let t = ran (state d first second) (map (call_for ys c.fill) (in_order i j)) in (at_pieces (in_order i j) (answers_of t.told) ≡ answers_of t.told) × (lent_for (other_kind k) swapped t.left.first t.left.second ≡ lent_for (other_kind k) swapped first second)
    unfolding ran_by piece_of up_from
    order_told zero i e swapped d first second roles = (refl, refl)
    order_told (suc j) i e swapped d first second roles =
        let call : Lending = record { segment = piece_of ys c i; first = a; second = b } in
        let r : After = called d call first second in
        let kept = called-kept d call first second (cut-piece carries suits i (omega arith)).kind in
        let t = order_told j (suc i) (omega arith) swapped r.desk r.first r.second (kept.4 ∙ roles) in
        let same = subst (λ (s : Bool). lent_for (other_kind k) s r.first r.second ≡ lent_for (other_kind k) s first second) roles kept.3 in
        (ap (λ (x : List (Result Answer Refusal)). r.answer ∷ x) t.0, t.1 ∙ same)

  pub cut_delivered : (d : Desk) → AtStart d → (first second : List ℕ) → longest_listing ≤ length first → longest_listing ≤ length second → let s = state d first second in ComesInOrder k (listing l) (segment_count (length ys)) d.notes.swapped first second (ran s (map (wholly s) (cut ys c)))
  unfolding piece_of
  cut_delivered d start first second left right =
      let a : ℕ = length first in
      let b : ℕ = length second in
      let s = order-allowed a b left right n 0 (omega arith) in
      let t = order_told a b n 0 (omega arith) d.notes.swapped d first second refl in
      let h =
      lists_all ys k m l carries c.fill suits.bytes suits.whole (in_order a b 0 n) s.0 (λ p. s.1 p (omega arith))
      d start first second left right in
      subst (λ (x : List Call). ComesInOrder k (listing l) n d.notes.swapped first second (ran (state d first second) x))
      (map-map _ _ (up_from 0 n) ∙ sym (map-map (wholly (state d first second)) (piece_of ys c) (up_from 0 n)))
      (record {
        list =
            record {
              answers = sym t.0 ∙ h.answers ∙ ap (piece_answers n k size []) s.2;
              once = h.once;
              own = h.own;
              shows = h.shows;
            };
        other = t.1;
      })

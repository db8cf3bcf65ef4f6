-- Demand 3: the pieces of a chunk in any order, with repeats and other segments between them, and its list comes out once. Assumes nothing.
use mathlib.Core.Path.{◌≡◌, refl, sym, ap, ap₂, ◌∙◌, subst}
use mathlib.Core.Bool.{Bool, true, cond, ◌||◌, or-false, or_assoc, or_comm}
use mathlib.Core.List.{List, [], ◌∷◌, ◌++◌, map}
use Prim.Native.Nat.{ℕ, suc, ◌+◌, ◌-◌, ◌*◌, ◌<◌}
use native.Mathlib.Nat.{zero-add}
use native.Mathlib.Omega.{arith}
use borrow.Author.Tests.{eq-eqb, ne_eqb, eqb-true, eqb-false}
use lib.Dec.{T, eqb}
use lib.ListN.{length, drop}
use Rattle.std.proofs.Common.{Result}
use Rattle.octets.specs.Bits.{Bytes}
use Rattle.octets.specs.Each.{Each}
use Rattle.octets.specs.Checks.{among}
use Rattle.octets.proofs.Laws.{either}
use Rattle.meaning.specs.declared.Refusal.{Refusal}
use Rattle.meaning.specs.declared.Kind.{Kind}
use Rattle.meaning.specs.Lists.{FicList, current_of}
use Rattle.meaning.specs.Layout.{Carries}
use Rattle.meaning.specs.Listing.{listing}
use Rattle.meaning.proofs.Complete.{carried-accepted}
use Rattle.meaning.proofs.Plain.{carried_room}
use Rattle.segments.specs.Segment.{payload_bytes}
use Rattle.segments.specs.Cut.{segment_count, Suits}
use Rattle.slots.specs.declared.Answer.{Answer}
use Rattle.notes.specs.Notes.{lent_for}
use Rattle.desk.specs.declared.Desk.{Desk}
use Rattle.desk.specs.Desks.{After, segment_after}
use Rattle.desk.specs.Calls.{Lending, state, shown_in, Ran, ran_by, ran, answers_of}
use Rattle.gatherings.specs.Once.{Delivery, piece, other, lending_for, call_for, MayCome, numbers_of, different, piece_answer, piece_answers, at_pieces, lists_of, ListsAll}
use Rattle.gatherings.proofs.Sets.{set_of, ones_set_of, different_all, different_fewer}
use Rattle.gatherings.proofs.Memory.{called}
use Rattle.gatherings.proofs.Others.{other-called}
use Rattle.gatherings.proofs.Cuts.{cut-carried, cut-piece}
use Rattle.gatherings.proofs.Stands.{Stands, start-stands, all_shown, kept-stands, piece_goes}

-- ---- lists, counted

-- one if all of n places came
abbrev done : ℕ → List ℕ → ℕ
done n came = cond (eqb (different came) n) 1 0

answer-counted : (n : ℕ) (k : Kind) (size : ℕ) (came : List ℕ) → Each (λ j. j < n) came → (i : ℕ) → i < n → (more : List (Result Answer Refusal)) → done n came + lists_of k (piece_answer n k size came i ∷ more) ≡ done n (i ∷ came) + lists_of k more
answer-counted n k size came inside i l more =
    either (among came i) (λ q. simp q)
    (λ q.
    let fewer = different_fewer n came inside i l q in
    let less : different came ≡ n → ⊥ = λ e. omega arith in
    either (eqb (n - suc (different came)) 0)
    (λ z.
    let full : suc (different came) ≡ n = omega (arith, eqb-true (n - suc (different came)) 0 z) in
    simp (q, z, ne_eqb _ _ less, eq-eqb _ _ full, eq-eqb (current_of k) (current_of k) refl) (omega arith))
    (λ z.
    let short : suc (different came) ≡ n → ⊥ = λ e. eqb-false (n - suc (different came)) 0 z (omega arith) in
    simp (q, z, ne_eqb _ _ less, ne_eqb _ _ short)))

-- ---- one delivery after the other

module _ {ys : List ℕ} {k : Kind} {m : ℕ} {l : FicList} (h : Carries ys k m l) (fill : List ℕ) (bytes : Bytes fill) (whole : length (ys ++ fill) ≡ payload_bytes * segment_count (length ys)) (swapped : Bool) (before : List ℕ) where
  abbrev n : ℕ
  n = segment_count (length ys)

  abbrev xs : List ℕ
  xs = listing l

  -- what comes of the deliveries ds after the pieces `came`
  abbrev Ends : List ℕ → List Delivery → Ran → Type 0
  Ends came ds t =
      (at_pieces ds (answers_of t.told) ≡ piece_answers n k (length xs) came (numbers_of ds))
      × (done n came + lists_of k (answers_of t.told) ≡ 1)
      × (lent_for k swapped t.left.first t.left.second ≡ xs ++ drop (length xs) before)
      × (shown_in k t.left ≡ xs)

  deliveries_end : (ds : List Delivery) → Each (MayCome n k) ds → (came : List ℕ) → Each (λ j. j < n) came → ((j : ℕ) → j < n → among came j || among (numbers_of ds) j ≡ true) → (d : Desk) (first second : List ℕ) → Stands n (ys ++ fill) k xs swapped before (set_of came) d first second → Ends came ds (ran (state d first second) (map (call_for ys fill) ds))
  unfolding ran_by
  deliveries_end [] allowed came inside every d first second s =
      let full : different came ≡ n = different_all n came inside (λ j l. sym (or-false (among came j)) ∙ every j l) in
      let all = ones_set_of came ∙ full in
      (refl, simp (eq-eqb _ _ full), (s.all all).1, all_shown s all)
  deliveries_end (piece i reserved wake a b ∷ ds) allowed came inside every d first second s =
      let ok = allowed.0 in
      let c : Lending = lending_for ys fill (piece i reserved wake a b) in
      let suits : Suits ys (record { reserved = λ j. reserved; wake = λ j. wake; fill = fill }) =
      record { reserved = λ j. ok.1; wake = λ j. ok.2; bytes = bytes; whole = whole } in
      let p = piece_goes whole (carried-accepted (cut-carried h suits)) came inside s c ok.3 ok.4 i (cut-piece h suits i ok.0) ok.0 in
      let r : After = called d c first second in
      let rest : List (Result Answer Refusal) = answers_of (ran (state r.desk r.first r.second) (map (call_for ys fill) ds)).told in
      let t =
      deliveries_end ds allowed.1 (i ∷ came) (ok.0, inside)
      (λ j l.
      let after = among (numbers_of ds) j in
      ap (λ (x : Bool). x || after) (or_comm (eqb j i) (among came j)) ∙ or_assoc (among came j) (eqb j i) after ∙ every j l)
      r.desk r.first r.second p.1 in (
        ap₂ ◌∷◌ p.0 t.0,
        ap (λ (x : Result Answer Refusal). done n came + lists_of k (x ∷ rest)) p.0
            ∙ answer-counted n k (length xs) came inside i ok.0 rest
            ∙ t.1,
        t.2,
        t.3,
      )
  deliveries_end (other zs a b ∷ ds) allowed came inside every d first second s =
      let c : Lending = lending_for ys fill (other zs a b) in
      let o = other-called k d c first second allowed.0 in
      let r : After = called d c first second in
      let rest : List (Result Answer Refusal) = answers_of (ran (state r.desk r.first r.second) (map (call_for ys fill) ds)).told in
      let t = deliveries_end ds allowed.1 came inside every r.desk r.first r.second (kept-stands s c o.0) in
      (t.0, ap (λ (x : ℕ). done n came + x) (o.1 rest) ∙ t.1, t.2, t.3)

pub lists_all : ListsAll segment_after
lists_all ys k m l h fill bytes whole ds allowed every d start first second left right =
    let n : ℕ = segment_count (length ys) in
    let more : 0 < n = omega (arith, carried_room h) in
    let none : 0 ≡ n → ⊥ = λ e. omega arith in
    let e =
    deliveries_end h fill bytes whole d.notes.swapped (lent_for k d.notes.swapped first second) ds allowed [] tt
    (λ j l. either (among (numbers_of ds) j) (λ q. q) (λ q. absurd (subst T q (every j l))))
    d first second (start-stands n (ys ++ fill) k (listing l) more d start first second left right) in
    record { answers = e.0; once = (simp (ne_eqb 0 n none, zero-add) at e).1; own = e.2; shows = e.3 }

-- What the public call answers and leaves, case by case; and that its promise has one result only. Assumes nothing.
use mathlib.Core.Path.{◌≡◌, refl, sym, ap, ◌∙◌}
use mathlib.Core.Bool.{Bool, true, false}
use mathlib.Core.List.{List, [], ◌∷◌, ◌++◌}
use Prim.Native.Nat.{ℕ, ◌≤◌, ◌<◌}
use native.Mathlib.Omega.{arith}
use borrow.Author.Tests.{lt-ltb, le-ltb, ltb-true, ltb-false}
use lib.Dec.{T, ltb}
use lib.ListN.{length, drop}
use Rattle.std.proofs.Common.{Result, Ok, Err}
use Rattle.octets.specs.Bits.{Bytes}
use Rattle.octets.specs.Checks.{check, among}
use Rattle.meaning.specs.declared.Kind.{Kind}
use Rattle.meaning.specs.declared.Refusal.{Refusal}
use Rattle.meaning.specs.declared.Refusal.TheVariants.{ShortBuffer, OtherMajor}
use Rattle.meaning.specs.declared.Listed.{Listed}
use Rattle.meaning.specs.Sizes.{longest_chunk, longest_listing}
use Rattle.meaning.specs.Numbers.{number_of, offset_of, read_values, read_fault}
use Rattle.meaning.specs.Lists.{FicList, current_of}
use Rattle.meaning.specs.Layout.{Carries}
use Rattle.meaning.specs.Listing.{listing}
use Rattle.meaning.specs.Reading.{checks, major_in, kind_in, minor_in, list_in, read_checks, read_for, read_answer, buffer_left, read_buffer, ReadSays, listed}
use Rattle.meaning.proofs.Checks.{checks-major}
use Rattle.meaning.proofs.Gives.{Gives, gives_check, given, ensembles_give}
use Rattle.meaning.proofs.Complete.{carried-accepted}
use Rattle.meaning.proofs.Sound.{accepted-carried}

-- an answer that is the right one leaves what the right one leaves
says : (xs before : List ℕ) {answer : Result Listed Refusal} → answer ≡ read_answer xs before → ReadSays xs before answer (buffer_left answer xs before)
unfolding read_buffer
says xs before e = record { answers = e; leaves = ap (λ (r : Result Listed Refusal). buffer_left r xs before) e }

-- a refusal is answered exactly as the checks say
pub answer_exactly : (xs before : List ℕ) → read_fault (read_answer xs before) ≡ read_checks xs before
unfolding read_answer
answer_exactly xs before = go (read_checks xs before)
  where
    go : (v : Result Unit Refusal) → read_fault (read_for v xs) ≡ v
    go (Ok _) = refl
    go (Err f) = refl

answer-short : (xs before : List ℕ) → length before < longest_listing → read_answer xs before ≡ Err ShortBuffer
unfolding read_answer
answer-short xs before h = simp (lt-ltb _ _ h)

answer_checked : (xs before : List ℕ) → longest_listing ≤ length before → read_answer xs before ≡ read_for (checks xs) xs
unfolding read_answer
answer_checked xs before h = simp (le-ltb _ _ h)

pub says_short : (xs before : List ℕ) → length before < longest_listing → ReadSays xs before (Err ShortBuffer) before
says_short xs before h = says xs before (sym (answer-short xs before h))

pub says_refused : (xs before : List ℕ) {f : Refusal} → longest_listing ≤ length before → checks xs ≡ Err f → ReadSays xs before (Err f) before
says_refused xs before h e = says xs before (sym (answer_checked xs before h ∙ ap (λ (v : Result Unit Refusal). read_for v xs) e))

pub says_listed : (xs before : List ℕ) → longest_listing ≤ length before → checks xs ≡ Ok tt → let l = listing (list_in xs) in ReadSays xs before (Ok (listed (kind_in xs) (minor_in xs) (length l))) (l ++ drop (length l) before)
says_listed xs before h e = says xs before (sym (answer_checked xs before h ∙ ap (λ (v : Result Unit Refusal). read_for v xs) e))

-- two results that keep the promise are one
pub says_once : {xs before : List ℕ} {a b : Result Listed Refusal} {p q : List ℕ} → ReadSays xs before a p → ReadSays xs before b q → (a ≡ b) × (p ≡ q)
says_once s t = (s.answers ∙ sym t.answers, s.leaves ∙ sym t.leaves)

-- ---- what the layout carries, the call reads; what the call lists, the layout carries

pub carried_says : {xs : List ℕ} {k : Kind} {m : ℕ} {l : FicList} → Carries xs k m l → (before : List ℕ) → longest_listing ≤ length before → ReadSays xs before (Ok (listed k m (length (listing l)))) (listing l ++ drop (length (listing l)) before)
carried_says {xs} {k} {m} {l} h before room =
    let a = carried-accepted h in
    let s = says_listed xs before room a.passes in
    record {
      answers = (λ i. Ok (listed (sym a.kind i) (sym a.minor i) (length (listing (sym a.list i))))) ∙ s.answers;
      leaves = (λ i. listing (sym a.list i) ++ drop (length (listing (sym a.list i))) before) ∙ s.leaves;
    }

-- an answer that lists comes of a buffer that is long enough, and of checks that passed
listed_facts : (xs before : List ℕ) {k : Kind} {m n : ℕ} → read_answer xs before ≡ Ok (listed k m n) → (longest_listing ≤ length before) × (checks xs ≡ Ok tt)
unfolding read_answer
listed_facts xs before {k} {m} {n} e =
    let both = go (ltb (length before) longest_listing) (checks xs) e in
    (ltb-false _ _ both.0, both.1)
  where
    go : (t : Bool) (v : Result Unit Refusal) → read_for (check t (Err ShortBuffer) v) xs ≡ Ok (listed k m n) → (t ≡ false) × (v ≡ Ok tt)
    go true v p = let z : ◌≡◌ {A = ℕ} 0 1 = cc in absurd (omega arith)
    go false (Ok _) p = (refl, refl)
    go false (Err f) p = let z : ◌≡◌ {A = ℕ} 0 1 = cc in absurd (omega arith)

pub listed_carried : {xs before after : List ℕ} {k : Kind} {m n : ℕ} → Bytes xs → ReadSays xs before (Ok (listed k m n)) after → (l : FicList) × Carries xs k m l × (n ≡ length (listing l)) × (after ≡ listing l ++ drop n before)
unfolding read_answer read_buffer
listed_carried {xs} {before} {after} {k} {m} {n} b s =
    let facts = listed_facts xs before (sym s.answers) in
    let t = says_listed xs before facts.0 facts.1 in
    let same = says_once s t in
    let told : listed k m n ≡ listed (kind_in xs) (minor_in xs) (length (listing (list_in xs))) = cc same.0 in
    let kind : kind_in xs ≡ k = ap (λ (l : Listed). l.kind) (sym told) in
    let minor : minor_in xs ≡ m = ap (λ (l : Listed). l.minor) (sym told) in
    let size : n ≡ length (listing (list_in xs)) = ap (λ (l : Listed). l.length) told in (
      list_in xs,
      accepted-carried b (record { passes = facts.1; kind = kind; minor = minor; list = refl }),
      size,
      same.1 ∙ ap (λ (j : ℕ). listing (list_in xs) ++ drop j before) (sym size),
    )

-- a chunk carries one list, for one frame, from one edition
pub carries-once : {xs : List ℕ} {k j : Kind} {m n : ℕ} {l i : FicList} → Carries xs k m l → Carries xs j n i → (k ≡ j) × (m ≡ n) × (l ≡ i)
carries-once h g =
    let a = carried-accepted h in
    let b = carried-accepted g in
    (sym a.kind ∙ b.kind, sym a.minor ∙ b.minor, sym a.list ∙ b.list)

-- the dress does not matter: two chunks that carry one list leave the same in a buffer, whatever their minor editions, extensions, reserved
-- bits and stuffing, and whatever they say inside an unknown ensemble
pub dress_disregarded : {xs ys : List ℕ} {k : Kind} {m n : ℕ} {l : FicList} → Carries xs k m l → Carries ys k n l → (before : List ℕ) → read_buffer xs before ≡ read_buffer ys before
dress_disregarded {xs} {ys} h g before = go (ltb (length before) longest_listing) refl
  where
    go : (t : Bool) → ltb (length before) longest_listing ≡ t → read_buffer xs before ≡ read_buffer ys before
    go true e =
        let short = ltb-true _ _ e in
        sym (says_short xs before short).leaves ∙ (says_short ys before short).leaves
    go false e =
        let room = ltb-false _ _ e in
        sym (carried_says h before room).leaves ∙ (carried_says g before room).leaves

-- ---- the numbers of the reader

read_gives : (xs before : List ℕ) → Gives (1 ∷ 5 ∷ 8 ∷ 9 ∷ []) (read_checks xs before)
unfolding checks
read_gives xs before = search (gives_check, ensembles_give) depth 8

-- a refusal is one of four numbers, with its offset, every other value is 0, and nothing is written
pub refusal_values : (xs before : List ℕ) {f : Refusal} → read_checks xs before ≡ Err f → T (among (1 ∷ 5 ∷ 8 ∷ 9 ∷ []) (number_of f)) × (read_values (read_answer xs before) ≡ record { number = number_of f; at = offset_of f; kind = 0; minor = 0; length = 0 }) × (read_buffer xs before ≡ before)
unfolding read_answer read_buffer
refusal_values xs before e = (
  given _ e (read_gives xs before),
  ap (λ (v : Result Unit Refusal). read_values (read_for v xs)) e,
  ap (λ (v : Result Unit Refusal). buffer_left (read_for v xs) xs before) e,
)

-- and a chunk that carries a list has number 0 and the values of its list
pub carried-values : {xs : List ℕ} {k : Kind} {m : ℕ} {l : FicList} → Carries xs k m l → (before : List ℕ) → longest_listing ≤ length before → (read_values (read_answer xs before) ≡ record { number = 0; at = 0; kind = current_of k; minor = m; length = length (listing l) }) × (read_buffer xs before ≡ listing l ++ drop (length (listing l)) before)
carried-values h before room =
    let s = carried_says h before room in
    (ap read_values (sym s.answers), sym s.leaves)

pub says_major : (xs before : List ℕ) → longest_listing ≤ length before → 2 ≤ length xs → length xs ≤ longest_chunk → (major_in xs ≡ 0 → ⊥) → ReadSays xs before (Err OtherMajor) before
says_major xs before room two longest other = says_refused xs before room (checks-major xs longest two other)

-- The sections of a table, each at least once and in any order: each is answered as is due, and the gathering is whole afterwards. Assumes nothing.
use mathlib.Core.Path.{◌≡◌, refl, sym, ap, ap₂, subst, ◌∙◌}
use mathlib.Core.Bool.{Bool, true, false, ◌||◌, false≢true}
use mathlib.Core.List.{List, [], ◌∷◌}
use Prim.Native.Nat.{ℕ, ◌≤◌}
use native.Mathlib.Omega.{arith}
use lib.Dec.{eqb}
use lib.ListN.{length, length-set}
use Rattle.std.specs.Prelude.{Ok}
use Rattle.octets.specs.Bits.{Bytes}
use Rattle.octets.specs.Checks.{among}
use Rattle.octets.proofs.Laws.{either, test_again, each_map, bytes-bytes_of}
use Rattle.sections.specs.Layout.{section_fields, wire, Carries}
use Rattle.sections.specs.Reading.{last_in}
use Rattle.sections.proofs.Complete.{carried-accepted}
use Rattle.guides.specs.declared.Gathering.{Gathering}
use Rattle.guides.specs.declared.Answer.TheVariants.{Noted, Repeat}
use Rattle.guides.specs.declared.Told.{Told}
use Rattle.guides.specs.Gathering.{is_noted, missing_of, empty_of, empty, missing_in, begun_as, noted_as, read_as, told}
use Rattle.guides.specs.Tables.{answers_to, left_by, Delivery, bytes_of, numbers_of, Begins, due, dues_from, All, Completes}
use Rattle.guides.proofs.Counts.{missing_same}
use Rattle.guides.proofs.Words.{none_noted, noted_after}
use Rattle.guides.proofs.Laws.{begun_either, begun_same, begun_other, read_to, read_begun, read-repeat, read_noted}
use Rattle.guides.proofs.Results.{read_in_force, last_byte}
use Rattle.guides.proofs.Dues.{arrived, arrived_all, dues_complete}

-- ---- gatherings to begin with

begins-empty : (v l version last : ℕ) → Begins (empty_of v l) version last
begins-empty v l version last = begun_either (empty_of v l) version last (λ b. b ≡ empty_of version last) (λ p q. ap₂ empty_of p q) refl

pub empty-begins : (version last : ℕ) → Begins (empty_of version last) version last
empty-begins version last = begins-empty version last version last

pub fresh-begins : (version last : ℕ) → Begins empty version last
fresh-begins = begins-empty 0 0

pub other-begins : (g : Gathering) (version last : ℕ) → (g.version ≡ version → g.last ≡ last → ⊥) → Begins g version last
other-begins = begun_other

-- ---- a gathering of this version and last number, of the numbers that came

module _ (version last : ℕ) where
  record Stands (g : Gathering) (came : List ℕ) : Type 0 where
    versioned : g.version ≡ version
    ended : g.last ≡ last
    words : length g.noted ≡ 4
    noted : (n : ℕ) → n ≤ last → is_noted g.noted n ≡ among came n

  begins-stands : (g : Gathering) → Begins g version last → Stands (begun_as g version last) []
  begins-stands g e =
      subst (λ (b : Gathering). Stands b []) (sym e) (record { versioned = refl; ended = refl; words = refl; noted = λ n l. none_noted 4 n })

  module _ (g : Gathering) (came : List ℕ) (s : Stands g came) where
    stands_begun : Stands (begun_as g version last) came
    stands_begun = subst (λ (b : Gathering). Stands b came) (sym (begun_same g version last s.versioned s.ended)) s

    missing_due : missing_in g ≡ missing_of (among came) last
    missing_due = ap (missing_of (is_noted g.noted)) s.ended ∙ missing_same (is_noted g.noted) (among came) last s.noted

    -- a number more
    repeat-stands : (n : ℕ) → among came n ≡ true → Stands g (n ∷ came)
    repeat-stands n c =
        record {
          versioned = s.versioned;
          ended = s.ended;
          words = s.words;
          noted = λ m l. s.noted m l ∙ test_again (among came) n m c;
        }

    noted_stands : (n : ℕ) → n ≤ 255 → is_noted g.noted n ≡ false → Stands (noted_as g n) (n ∷ came)
    noted_stands n l t =
        let four = s.words in
        record {
          versioned = s.versioned;
          ended = s.ended;
          words = length-set g.noted _ _ ∙ four;
          noted = λ m k. noted_after g.noted n (omega arith) t m ∙ ap (λ (u : Bool). eqb m n || u) (s.noted m k);
        }

  -- a result that answers a number as is due, and leaves it among those that came
  abbrev AsDue : List ℕ → ℕ → Told → Type 0
  AsDue came n u = (u.answer ≡ due last came n) × Stands u.gathering (n ∷ came)

  read-due : (g : Gathering) (came : List ℕ) → Stands g came → (n : ℕ) → n ≤ last → last ≤ 255 → AsDue came n (read_to g n)
  read-due g came s n order most =
      either (is_noted g.noted n)
      (λ t.
      let c : among came n ≡ true = sym (s.noted n order) ∙ t in
      subst (AsDue came n) (sym (read-repeat g n t)) (ap (λ (k : ℕ). Ok (Repeat k)) (missing_due g came s) ∙ sym (simp c refl), repeat-stands g came s n c))
      (λ t.
      let c : among came n ≡ false = sym (s.noted n order) ∙ t in
      let after = noted_stands g came s n (omega arith) t in
      subst (AsDue came n) (sym (read_noted g n t)) (ap (λ (k : ℕ). Ok (Noted k)) (missing_due (noted_as g n) (n ∷ came) after) ∙ sym (simp c refl), after))

-- ---- a section that is laid out is read

pub carried-read : {xs : List ℕ} {version number last : ℕ} {names : List (List ℕ)} (g : Gathering) → Carries xs version number last names → told g xs ≡ read_as g version number last
carried-read {xs} {version} {number} g c =
    let a = carried-accepted c in
    read_in_force g xs a.passes ∙ ap₂ (λ (v n : ℕ). read_as g v n (last_in xs)) a.versioned a.numbered ∙ ap (read_as g version number) a.ended

-- ---- the sections of a table

module _ {version last : ℕ} where
  delivered_bytes : (d : Delivery version last) → Bytes d.bytes
  unfolding wire
  delivered_bytes d = subst Bytes d.carries.bytes (bytes-bytes_of (section_fields d.carries.section))

  most : (d : Delivery version last) → last ≤ 255
  most d = omega (arith, (carried-accepted d.carries).ended, last_byte d.bytes (delivered_bytes d))

  order : (d : Delivery version last) → d.number ≤ last
  order d = let c = d.carries in omega (arith, c.order, c.numbered, c.ended)

  told_due : (g : Gathering) (came : List ℕ) (d : Delivery version last) → Stands version last (begun_as g version last) came → AsDue version last came d.number (told g d.bytes)
  told_due g came d s =
      let read : told g d.bytes ≡ read_to (begun_as g version last) d.number =
      carried-read g d.carries ∙ read_begun g version d.number last refl in
      subst (AsDue version last came d.number) (sym read) (read-due version last (begun_as g version last) came s d.number (order d) (most d))

  dues_from_lem : (g : Gathering) (came : List ℕ) (ds : List (Delivery version last)) → Stands version last (begun_as g version last) came → answers_to g (bytes_of ds) ≡ dues_from last came (numbers_of ds)
  unfolding answers_to dues_from
  dues_from_lem g came [] s = refl
  dues_from_lem g came (d ∷ ds) s =
      let t = told_due g came d s in
      ap₂ ◌∷◌ t.0 (dues_from_lem (told g d.bytes).gathering (d.number ∷ came) ds (stands_begun version last _ _ t.1))

  left_stands : (g : Gathering) (came : List ℕ) (ds : List (Delivery version last)) → Stands version last g came → Stands version last (left_by g (bytes_of ds)) (arrived came (numbers_of ds))
  unfolding left_by
  left_stands g came [] s = s
  left_stands g came (d ∷ ds) s = left_stands (told g d.bytes).gathering (d.number ∷ came) ds (told_due g came d (stands_begun version last g came s)).1

  -- ---- what is promised

  module _ (g : Gathering) (ds : List (Delivery version last)) (begins : Begins g version last) where
    pub dues_answered : answers_to g (bytes_of ds) ≡ dues_from last [] (numbers_of ds)
    dues_answered = dues_from_lem g [] ds (begins-stands version last g begins)

    pub table_completes : All last (numbers_of ds) → Completes last (numbers_of ds) (answers_to g (bytes_of ds))
    table_completes all =
        subst (Completes last (numbers_of ds)) (sym dues_answered) (dues_complete last (numbers_of ds) (each_map (λ n. n ≤ last) (λ d. d.number) order ds) all)

  -- the gathering afterwards
  pub left_whole : (g : Gathering) (ds : List (Delivery version last)) → Begins g version last → All last (numbers_of ds)
      → ((left_by g (bytes_of ds)).version ≡ version) × ((left_by g (bytes_of ds)).last ≡ last) × ((n : ℕ) → n ≤ last → is_noted (left_by g (bytes_of ds)).noted n ≡ true)
  unfolding left_by
  left_whole g [] begins all = absurd (false≢true (all 0 (omega arith)))
  left_whole g (d ∷ ds) begins all =
      let s = left_stands _ (d.number ∷ []) ds (told_due g [] d (begins-stands version last g begins)).1 in
      (s.versioned, s.ended, λ n l. s.noted n l ∙ arrived_all (numbers_of (d ∷ ds)) n ∙ all n l)

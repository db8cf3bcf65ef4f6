-- What a section does to a gathering, and what its answer says in numbers. Assumes nothing.
use mathlib.Core.Path.{◌≡◌, refl, sym, ap, ◌∙◌}
use mathlib.Core.Bool.{Bool, true, false, not, cond, ◌&&◌, true≢false, and-false}
use mathlib.Core.List.{List}
use Prim.Native.Nat.{ℕ, ◌≤◌}
use native.Mathlib.Nat.{le_trans}
use native.Mathlib.Omega.{arith}
use borrow.Author.Tests.{eqb-true}
use lib.Dec.{lit≤, ltb, eqb}
use lib.ListN.{length, get_or}
use Rattle.std.specs.Prelude.{Result, Ok, Err}
use Rattle.octets.specs.Bits.{Bytes}
use Rattle.octets.specs.Checks.{check}
use Rattle.octets.proofs.Laws.{either, get_d_byte}
use Rattle.sections.specs.declared.Refusal.{Refusal}
use Rattle.sections.specs.declared.Refusal.TheVariants.{BadLength, OtherProtocol, NumberAboveLast, RunsOver}
use Rattle.sections.specs.declared.Standing.{Standing}
use Rattle.sections.specs.declared.Standing.TheVariants.{InForce}
use Rattle.sections.specs.declared.Standing.TheVariants.{NotOurs as Foreign, NotYet as Early}
use Rattle.sections.specs.Walks.{Walk, place_of, loops}
use Rattle.sections.specs.Reading.{offset_of, is_ours, protocol_in, version_in, current_in, number_in, last_in, has_length, loops_end, loops_standing, standing, is_in_force}
use Rattle.sections.proofs.Laws.{Cuts}
use Rattle.sections.proofs.Names.{loops_cuts, in_force_passes}
use Rattle.sections.proofs.Steps.{length-short}
use Rattle.guides.specs.declared.Gathering.{Gathering}
use Rattle.guides.specs.declared.Answer.{Answer}
use Rattle.guides.specs.declared.Answer.TheVariants.{Noted, Repeat}
use Rattle.guides.specs.declared.Told.{Told}
use Rattle.guides.specs.declared.Values.{Values}
use Rattle.guides.specs.Gathering.{is_noted, noting, empty_of, guide_values, begun_as, read_as, result_by, told, SectionSays}
use Rattle.guides.proofs.Counts.{missing_most}
use Rattle.guides.proofs.Words.{none_noted, noted_self}
use Rattle.guides.proofs.Laws.{begun_either, begun_same, begun_other, begun_is, read_to, read_begun, read-repeat, read_noted}

-- ---- by what the section is

module _ (g : Gathering) (xs : List ℕ) where
  pub left_as_found : (standing xs ≡ Ok InForce → ⊥) → (told g xs).gathering ≡ g
  unfolding told
  left_as_found out = go (standing xs) out
    where
      go : (s : Result Standing Refusal) → (s ≡ Ok InForce → ⊥) → (result_by s g xs).gathering ≡ g
      go (Ok Foreign) out = refl
      go (Ok Early) out = refl
      go (Err f) out = refl
      go (Ok InForce) out = absurd (out refl)

  pub read_in_force : standing xs ≡ Ok InForce → told g xs ≡ read_as g (version_in xs) (number_in xs) (last_in xs)
  unfolding told
  read_in_force e = ap (λ (s : Result Standing Refusal). result_by s g xs) e

  -- read to what the gathering begins with
  in_force_to : standing xs ≡ Ok InForce → told g xs ≡ read_to (begun_as g (version_in xs) (last_in xs)) (number_in xs)
  in_force_to e = read_in_force e ∙ read_begun g (version_in xs) (number_in xs) (last_in xs) refl

  -- a repeat leaves the gathering as found: one that is emptied holds no number
  pub repeat_as_found : standing xs ≡ Ok InForce → is_noted (begun_as g (version_in xs) (last_in xs)).noted (number_in xs) ≡ true → (told g xs).gathering ≡ g
  repeat_as_found e t =
      ap (λ (r : Told). r.gathering) (in_force_to e ∙ read-repeat (begun_as g (version_in xs) (last_in xs)) (number_in xs) t)
      ∙ begun_either g (version_in xs) (last_in xs) (λ b. is_noted b.noted (number_in xs) ≡ true → b ≡ g) (λ v l u. refl)
      (λ u. absurd (true≢false (sym u ∙ none_noted 4 (number_in xs)))) t

-- another version or last number starts anew
pub starts_anew : (g : Gathering) (xs : List ℕ) → (g.version ≡ version_in xs → g.last ≡ last_in xs → ⊥) → standing xs ≡ Ok InForce → told g xs ≡ told (empty_of (version_in xs) (last_in xs)) xs
starts_anew g xs other e =
    let anew : Gathering = empty_of (version_in xs) (last_in xs) in
    in_force_to g xs e
    ∙ ap (λ (b : Gathering). read_to b (number_in xs)) (begun_other g _ _ other ∙ sym (begun_same anew _ _ refl refl))
    ∙ sym (in_force_to anew xs e)

-- a section has one result
pub one_result : (g : Gathering) (xs : List ℕ) {a b : Result Answer Refusal} {h k : Gathering} → SectionSays g xs a h → SectionSays g xs b k → (a ≡ b) × (h ≡ k)
one_result g xs s t = (s.answers ∙ sym t.answers, s.leaves ∙ sym t.leaves)

-- ---- what follows from the checks, one after the other

-- what is said of the answer to each check but the last, and of what follows them
abbrev by_checks : {A : Type 0} → List ℕ → A → A → A → A → A → A → A
by_checks xs length_bad foreign protocol early above rest =
    check (eqb (length xs) 0) length_bad
    (check (not (is_ours (get_or xs 0 0))) foreign
    (check (not (has_length xs)) length_bad
    (check (not (eqb (protocol_in xs) 0)) protocol
    (check (eqb (current_in xs) 0) early
    (check (ltb (last_in xs) (number_in xs)) above rest)))))

module _ {A : Type 0} (f : Result Standing Refusal → A) (xs : List ℕ) where
  check-said : (broken : Bool) (answer rest : Result Standing Refusal) {said : A} → f rest ≡ said → f (check broken answer rest) ≡ check broken (f answer) said
  check-said true answer rest e = refl
  check-said false answer rest e = e

  -- the last check: something runs past the end, or some bytes are left over
  loops-said : (over : A) → ((at : ℕ) → f (Err (RunsOver at)) ≡ over) → f (loops_standing xs) ≡ cond (is_in_force (loops_standing xs)) (f (Ok InForce)) over
  unfolding loops_standing
  loops-said over h = go (loops xs) (loops_cuts xs)
    where
      go : (w : Walk) → Cuts w → f (loops_end w xs) ≡ cond (is_in_force (loops_end w xs)) (f (Ok InForce)) over
      go (Ok at) c = either (ltb at (length xs)) (λ t. simp t (h at)) (λ t. simp t refl)
      go (Err e) c = ap (λ (r : Refusal). f (Err r)) c ∙ h (offset_of e)

  standing-said : {rest : A} → f (loops_standing xs) ≡ rest → f (standing xs) ≡ by_checks xs (f (Err BadLength)) (f (Ok Foreign)) (f (Err OtherProtocol)) (f (Ok Early)) (f (Err NumberAboveLast)) rest
  unfolding standing
  standing-said e =
      check-said (eqb (length xs) 0) _ _
      (check-said (not (is_ours (get_or xs 0 0))) _ _
      (check-said (not (has_length xs)) _ _
      (check-said (not (eqb (protocol_in xs) 0)) _ _
      (check-said (eqb (current_in xs) 0) _ _
      (check-said (ltb (last_in xs) (number_in xs)) _ (loops_standing xs) e)))))

-- ---- a test that one check's answer passes alone

silent : (broken : Bool) {rest : Bool} → rest ≡ false → check broken false rest ≡ false
silent true e = refl
silent false e = e

passed : (t : Bool) {rest said : Bool} → rest ≡ said → check (not t) false rest ≡ t && said
passed true e = e
passed false e = refl

unless : (t : Bool) {rest said : Bool} → (t ≡ true → said ≡ false) → rest ≡ said → check t false rest ≡ said
unless true h e = sym (h refl)
unless false h e = e

unless_then : (s t : Bool) {rest : Bool} → rest ≡ false → check s false (check t true rest) ≡ not s && t
unless_then true t e = refl
unless_then false true e = refl
unless_then false false e = e

-- ---- the answer's numbers

module _ (g : Gathering) (xs : List ℕ) where
  -- a part of the answer that is the same, noted or a repeat
  read_says : {A : Type 0} (f : Values → A) (said : A) → ((missing : ℕ) → f (guide_values (Ok (Noted missing))) ≡ said) → ((missing : ℕ) → f (guide_values (Ok (Repeat missing))) ≡ said) → (version number last : ℕ) → f (guide_values (read_as g version number last).answer) ≡ said
  read_says {A} f said noted repeat version number last =
      let b : Gathering = begun_as g version last in
      let says : Told → A = λ r. f (guide_values r.answer) in
      ap says (read_begun g version number last refl)
      ∙ either (is_noted b.noted number) (λ t. ap says (read-repeat b number t) ∙ repeat _) (λ t. ap says (read_noted b number t) ∙ noted _)

  pub number_exactly : (guide_values (told g xs).answer).number ≡ check (eqb (length xs) 0) 20 (check (not (is_ours (get_or xs 0 0))) 0 (check (not (has_length xs)) 20 (check (not (eqb (protocol_in xs) 0)) 21 (check (eqb (current_in xs) 0) 0 (check (ltb (last_in xs) (number_in xs)) 22 (cond (is_in_force (loops_standing xs)) 0 23))))))
  unfolding told
  number_exactly =
      let f : Result Standing Refusal → ℕ = λ s. (guide_values (result_by s g xs).answer).number in
      standing-said f xs
      (loops-said f xs 23 (λ at. refl)
      ∙ ap (λ (k : ℕ). cond (is_in_force (loops_standing xs)) k 23) (read_says (λ v. v.number) 0 (λ m. refl) (λ m. refl) (version_in xs) (number_in xs) (last_in xs)))

  -- the offset is told with 23 alone: where the walk over the loops is cut, or where it ends before the section does
  pub offset_exactly : (guide_values (told g xs).answer).at ≡ check (eqb (length xs) 0) 0 (check (not (is_ours (get_or xs 0 0))) 0 (check (not (has_length xs)) 0 (check (not (eqb (protocol_in xs) 0)) 0 (check (eqb (current_in xs) 0) 0 (check (ltb (last_in xs) (number_in xs)) 0 (cond (is_in_force (loops_standing xs)) 0 (place_of (loops xs))))))))
  unfolding told loops_standing
  offset_exactly = standing-said at xs (go (loops xs))
    where
      at : Result Standing Refusal → ℕ
      at s = (guide_values (result_by s g xs).answer).at

      read : at (Ok InForce) ≡ 0
      read = read_says (λ v. v.at) 0 (λ m. refl) (λ m. refl) (version_in xs) (number_in xs) (last_in xs)

      go : (w : Walk) → at (loops_end w xs) ≡ cond (is_in_force (loops_end w xs)) 0 (place_of w)
      go (Ok end) = either (ltb end (length xs)) (λ t. simp t refl) (λ t. simp t read)
      go (Err e) = refl

  -- what only another check's answer says
  last_silent : (f : Values → Bool) → ((at : ℕ) → f (guide_values (Err (RunsOver at))) ≡ false) → ((missing : ℕ) → f (guide_values (Ok (Noted missing))) ≡ false) → ((missing : ℕ) → f (guide_values (Ok (Repeat missing))) ≡ false) → f (guide_values (result_by (loops_standing xs) g xs).answer) ≡ false
  last_silent f over noted repeat =
      loops-said (λ s. f (guide_values (result_by s g xs).answer)) xs false over
      ∙ either (is_in_force (loops_standing xs)) (λ t. simp t (read_says f false noted repeat (version_in xs) (number_in xs) (last_in xs))) (λ t. simp t refl)

  pub foreign_exactly : (guide_values (told g xs).answer).foreign ≡ not (eqb (length xs) 0) && not (is_ours (get_or xs 0 0))
  unfolding told
  foreign_exactly =
      standing-said (λ s. (guide_values (result_by s g xs).answer).foreign) xs (last_silent (λ v. v.foreign) (λ at. refl) (λ m. refl) (λ m. refl))
      ∙ unless_then (eqb (length xs) 0) (not (is_ours (get_or xs 0 0)))
      (silent (not (has_length xs)) (silent (not (eqb (protocol_in xs) 0)) (silent (eqb (current_in xs) 0) (silent (ltb (last_in xs) (number_in xs)) refl))))

  pub early_exactly : (guide_values (told g xs).answer).early ≡ is_ours (get_or xs 0 0) && (has_length xs && (eqb (protocol_in xs) 0 && eqb (current_in xs) 0))
  unfolding told
  early_exactly =
      standing-said (λ s. (guide_values (result_by s g xs).answer).early) xs (last_silent (λ v. v.early) (λ at. refl) (λ m. refl) (λ m. refl))
      ∙ unless (eqb (length xs) 0) none
      (passed (is_ours (get_or xs 0 0)) (passed (has_length xs) (passed (eqb (protocol_in xs) 0) (unless_then false (eqb (current_in xs) 0) (silent (ltb (last_in xs) (number_in xs)) refl)))))
    where
      none : eqb (length xs) 0 ≡ true → is_ours (get_or xs 0 0) && (has_length xs && (eqb (protocol_in xs) 0 && eqb (current_in xs) 0)) ≡ false
      none t = simp (length-short xs (omega (arith, eqb-true (length xs) 0 t))) (and-false (is_ours (get_or xs 0 0)))

-- ---- at most 255 are missing: a section's own number is noted, then or before

pub last_byte : (xs : List ℕ) → Bytes xs → last_in xs ≤ 255
last_byte xs h = omega (arith, get_d_byte xs 7 h)

-- read to a gathering of four words
read_most : (b : Gathering) (n : ℕ) → length b.noted ≡ 4 → n ≤ b.last → b.last ≤ 255 → (guide_values (read_to b n).answer).missing ≤ 255
read_most b n four order most =
    either (is_noted b.noted n)
    (λ t. rw (read-repeat b n t) (le_trans (missing_most (is_noted b.noted) b.last n order t) most))
    (λ t.
    let own : is_noted (noting b.noted n) n ≡ true = noted_self b.noted n (omega arith) t in
    rw (read_noted b n t) (le_trans (missing_most (is_noted (noting b.noted n)) b.last n order own) most))

pub most_missing : (g : Gathering) (xs : List ℕ) → length g.noted ≡ 4 → Bytes xs → (guide_values (told g xs).answer).missing ≤ 255
unfolding told
most_missing g xs four h = go (standing xs) refl
  where
    go : (s : Result Standing Refusal) → standing xs ≡ s → (guide_values (result_by s g xs).answer).missing ≤ 255
    go (Ok Foreign) e = lit≤ tt
    go (Ok Early) e = lit≤ tt
    go (Err f) e = lit≤ tt
    go (Ok InForce) e =
        let b : Gathering = begun_as g (version_in xs) (last_in xs) in
        let ended = (begun_is g (version_in xs) (last_in xs) refl).1 in
        let words : length b.noted ≡ 4 = begun_either g (version_in xs) (last_in xs) (λ c. length c.noted ≡ 4) (λ v l. four) refl in
        rw (read_begun g (version_in xs) (number_in xs) (last_in xs) refl)
        (read_most b (number_in xs) words (omega (arith, ended, (in_force_passes e).order)) (omega (arith, ended, last_byte xs h)))

-- Document 02, the guide: the sections of a table, each at least once and in any order, and what must be answered.
use Rattle.std.specs.Prelude.{ℕ, ◌≤◌, ◌<◌, ◌≡◌, true, false, cond, List, [], ◌∷◌, ◌++◌, map, length, Result, Ok}
use Rattle.octets.specs.Checks.{among}
use Rattle.octets.specs.Each.{Each}
use Rattle.sections.specs.declared.Refusal.{Refusal}
use Rattle.sections.specs.Layout.{Carries}
use Rattle.guides.specs.declared.Gathering.{Gathering}
use Rattle.guides.specs.declared.Answer.{Answer}
use Rattle.guides.specs.declared.Answer.TheVariants.{Noted, Repeat}
use Rattle.guides.specs.Gathering.{missing_of, empty_of, begun_as, guide_values, told}

-- ---- sections given one after the other: the answers, and the gathering afterwards

unfoldable pub answers_to : Gathering → List (List ℕ) → List (Result Answer Refusal)
answers_to g [] = []
answers_to g (xs ∷ more) = (told g xs).answer ∷ answers_to (told g xs).gathering more

unfoldable pub left_by : Gathering → List (List ℕ) → Gathering
left_by g [] = g
left_by g (xs ∷ more) = left_by (told g xs).gathering more

-- ---- a section of a table of this version and last number, laid out as Table 7.4 has it

pub record Delivery (version last : ℕ) : Type 0 where
  pub bytes : List ℕ
  pub number : ℕ
  pub names : List (List ℕ)
  pub carries : Carries bytes version number last names

abbrev pub bytes_of : {version last : ℕ} → List (Delivery version last) → List (List ℕ)
bytes_of ds = map (λ d. d.bytes) ds

abbrev pub numbers_of : {version last : ℕ} → List (Delivery version last) → List ℕ
numbers_of ds = map (λ d. d.number) ds

-- a gathering that is empty, or of another version or last number
abbrev pub Begins : Gathering → ℕ → ℕ → Type 0
Begins g version last = begun_as g version last ≡ empty_of version last

-- ---- what is due to the number n when others have come: a repeat where it was among them, and how many numbers up to the last have not come, with it

abbrev pub due : ℕ → List ℕ → ℕ → Result Answer Refusal
due last came n = cond (among came n) (Ok (Repeat (missing_of (among came) last))) (Ok (Noted (missing_of (among (n ∷ came)) last)))

unfoldable pub dues_from : ℕ → List ℕ → List ℕ → List (Result Answer Refusal)
dues_from last came [] = []
dues_from last came (n ∷ more) = due last came n ∷ dues_from last (n ∷ came) more

-- ---- every number up to the last comes: the first missing 0 is at the section that brings the last new number, and all behind it are repeats with missing 0

abbrev pub All : ℕ → List ℕ → Type 0
All last came = (n : ℕ) → n ≤ last → among came n ≡ true

pub record Completes (last : ℕ) (numbers : List ℕ) (answers : List (Result Answer Refusal)) : Type 0 where
  pub before : List ℕ
  pub number : ℕ
  pub after : List ℕ
  pub waiting : List (Result Answer Refusal)
  pub repeats : List (Result Answer Refusal)
  pub order : numbers ≡ before ++ number ∷ after
  pub new : among before number ≡ false
  pub all : All last (before ++ number ∷ [])
  pub answered : answers ≡ waiting ++ Ok (Noted 0) ∷ repeats
  pub place : length waiting ≡ length before
  pub short : Each (λ a. 0 < (guide_values a).missing) waiting
  pub done : Each (λ a. a ≡ Ok (Repeat 0)) repeats

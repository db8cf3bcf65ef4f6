-- Document 02, the guide: the gathering, one section, and what that leaves.
use Rattle.std.specs.Prelude.{ℕ, zero, suc, ◌+◌, ◌-◌, ◌/◌, ◌%◌, ◌≡◌, Bool, true, false, cond, ◌&&◌, List, eqb, get_or, set, replicate, Result, Ok, Err}
use Rattle.octets.specs.Sets.{holds, including}
use Rattle.sections.specs.declared.Refusal.{Refusal}
use Rattle.sections.specs.declared.Standing.{Standing}
use Rattle.sections.specs.declared.Standing.TheVariants.{InForce}
use Rattle.sections.specs.declared.Standing.TheVariants.{NotOurs as Foreign, NotYet as Early}
use Rattle.sections.specs.Reading.{number_of, offset_of, version_in, number_in, last_in, standing}
use Rattle.guides.specs.declared.Gathering.{Gathering}
use Rattle.guides.specs.declared.Answer.{Answer}
use Rattle.guides.specs.declared.Answer.TheVariants.{NotOurs, NotYet, Noted, Repeat}
use Rattle.guides.specs.declared.Told.{Told}
use Rattle.guides.specs.declared.Values.{Values}

-- ---- the numbers noted, a set over a byte's width in four words of 64 bits

abbrev pub is_noted : List ℕ → ℕ → Bool
is_noted words n = holds (get_or words (n / 64) 0) (n % 64)

-- n is noted besides
abbrev pub noting : List ℕ → ℕ → List ℕ
noting words n = set words (n / 64) (including (get_or words (n / 64) 0) (n % 64))

-- how many of the numbers below n pass a test
unfoldable pub count_below : (ℕ → Bool) → ℕ → ℕ
count_below test zero = 0
count_below test (suc n) = count_below test n + cond (test n) 1 0

-- of the numbers up to the last, how many do not: last + 1 less those that do
abbrev pub missing_of : (ℕ → Bool) → ℕ → ℕ
missing_of test last = last + 1 - count_below test (last + 1)

-- ---- the gathering: a version, a last number, and the numbers noted. Any content is a gathering: one above the last number is not counted, and a version that no
-- section has is another one than any section's

abbrev pub gathering : ℕ → ℕ → List ℕ → Gathering
gathering version last noted = record { version = version; last = last; noted = noted }

-- with no number noted
abbrev pub empty_of : ℕ → ℕ → Gathering
empty_of version last = gathering version last (replicate 4 0)

abbrev pub empty : Gathering
empty = empty_of 0 0

-- how many are not noted
abbrev pub missing_in : Gathering → ℕ
missing_in g = missing_of (is_noted g.noted) g.last

-- ---- an answer in numbers: its number, 0 where it is no refusal; whether it is not ours, not yet in force, or a repeat; how many are missing; the offset with 23

abbrev pub values : ℕ → Bool → Bool → Bool → ℕ → ℕ → Values
values number foreign early repeat missing at =
    record { number = number; foreign = foreign; early = early; repeat = repeat; missing = missing; at = at }

abbrev pub guide_values : Result Answer Refusal → Values
guide_values (Ok NotOurs) = values 0 true false false 0 0
guide_values (Ok NotYet) = values 0 false true false 0 0
guide_values (Err f) = values (number_of f) false false false 0 (offset_of f)
guide_values (Ok (Noted missing)) = values 0 false false false missing 0
guide_values (Ok (Repeat missing)) = values 0 false false true missing 0

-- ---- the call, on a gathering and a section xs: the answer, and the gathering afterwards

abbrev pub result : Result Answer Refusal → Gathering → Told
result answer g = record { answer = answer; gathering = g }

-- of this version and last number; any other is emptied first
abbrev pub begun_as : Gathering → ℕ → ℕ → Gathering
begun_as g version last = cond (eqb g.version version && eqb g.last last) g (empty_of version last)

-- with this number noted
abbrev pub noted_as : Gathering → ℕ → Gathering
noted_as g number = gathering g.version g.last (noting g.noted number)

-- a section in force, of this version, number and last number: a repeat, whatever its bytes, or noted
unfoldable pub read_as : Gathering → ℕ → ℕ → ℕ → Told
read_as g version number last =
    let b = begun_as g version last in
    cond (is_noted b.noted number) (result (Ok (Repeat (missing_in b))) b)
    (result (Ok (Noted (missing_in (noted_as b number)))) (noted_as b number))

-- by what the section xs is; all but one in force leave the gathering as found
abbrev pub result_by : Result Standing Refusal → Gathering → List ℕ → Told
result_by (Ok Foreign) g xs = result (Ok NotOurs) g
result_by (Ok Early) g xs = result (Ok NotYet) g
result_by (Err f) g xs = result (Err f) g
result_by (Ok InForce) g xs = read_as g (version_in xs) (number_in xs) (last_in xs)

unfoldable pub told : Gathering → List ℕ → Told
told g xs = result_by (standing xs) g xs

-- what the call promises: its answer, and the gathering afterwards, are those of a result
pub record TellsSo (u : Told) (answer : Result Answer Refusal) (after : Gathering) : Type 0 where
  pub answers : answer ≡ u.answer
  pub leaves : after ≡ u.gathering

abbrev pub SectionSays : Gathering → List ℕ → Result Answer Refusal → Gathering → Type 0
SectionSays g xs = TellsSo (told g xs)

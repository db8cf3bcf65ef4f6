-- What is told to a program in C of the guide: an answer as one number, the gathering's numbers as one, and where a name stands.
use Rattle.std.specs.Prelude.{ℕ, ◌+◌, ◌*◌, ◌/◌, ◌%◌, ◌≡◌, cond, List, length, Result, Ok, Err}
use Rattle.sections.specs.declared.Refusal.{Refusal}
use Rattle.sections.specs.Reading.{name_in, name_place}
use Rattle.guides.specs.declared.Gathering.{Gathering}
use Rattle.guides.specs.declared.Answer.{Answer}
use Rattle.guides.specs.declared.Answer.TheVariants.{NotOurs, NotYet, Noted, Repeat}
use Rattle.guides.specs.Gathering.{gathering, guide_values, told}

-- eight bits for the number, one each for a repeat, a section that is not ours, and one not yet in force, five that are 0; sixteen for how many are missing, and above
-- them the offset
abbrev pub packed_guide : Result Answer Refusal → ℕ
packed_guide a =
    let v = guide_values a in
    v.number + cond v.repeat 0x100 0 + cond v.foreign 0x200 0 + cond v.early 0x400 0 + v.missing * 0x10000 + v.at * 0x100000000

-- the gathering's numbers: eight bits for the version, and eight for the last number; what is above them is disregarded
abbrev pub gathering_in : ℕ → List ℕ → Gathering
gathering_in n noted = gathering (n % 0x100) (n / 0x100 % 0x100) noted

abbrev pub packed_gathering : Gathering → ℕ
packed_gathering g = g.version + g.last * 0x100

-- where nothing changes, they stay as they were given
abbrev pub guide_left : Result Answer Refusal → ℕ → Gathering → ℕ
guide_left (Ok (Noted missing)) before after = packed_gathering after
guide_left (Ok (Repeat missing)) before after = packed_gathering after
guide_left (Ok NotOurs) before after = before
guide_left (Ok NotYet) before after = before
guide_left (Err f) before after = before

-- the n-th name of a section: sixteen bits for where it begins, 0 where there is none, and above them its length
abbrev pub packed_name : List ℕ → ℕ → ℕ
packed_name xs n = name_place xs n + length (name_in xs n) * 0x10000

-- what a call tells: the answer, the numbers to be kept, and the numbers noted
pub record GuideStepSays (numbers : ℕ) (noted xs : List ℕ) (answer left : ℕ) (noted' : List ℕ) : Type 0 where
  pub answers : answer ≡ packed_guide (told (gathering_in numbers noted) xs).answer
  pub keeps : left ≡ guide_left (told (gathering_in numbers noted) xs).answer numbers (told (gathering_in numbers noted) xs).gathering
  pub holds : noted' ≡ (told (gathering_in numbers noted) xs).gathering.noted

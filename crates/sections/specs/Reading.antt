-- Document 02's reader of a guide's section: the fields by their places, the checks in order, the numbers, and the names.
use Rattle.std.specs.Prelude.{ℕ, zero, suc, ◌+◌, ◌/◌, ◌%◌, ◌≤◌, ◌≡◌, Bool, true, false, not, cond, ◌&&◌, List, [], ◌∷◌, ltb, leb, eqb, length, get_or, take, drop, Result, Ok, Err}
use Rattle.octets.specs.Word.{word}
use Rattle.octets.specs.Checks.{check}
use Rattle.sections.specs.declared.Refusal.{Refusal}
use Rattle.sections.specs.declared.Refusal.TheVariants.{BadLength, OtherProtocol, NumberAboveLast, RunsOver}
use Rattle.sections.specs.declared.Standing.{Standing}
use Rattle.sections.specs.declared.Standing.TheVariants.{NotOurs, NotYet, InForce}
use Rattle.sections.specs.Sizes.{guide_table, head_bytes, uncounted_bytes, most_length}
use Rattle.sections.specs.Walks.{Walk, place_of, providers, providers_in, loops, name_at, provider}
pub use Rattle.sections.specs.Walks.{offset_of}

-- ---- the fields of a section xs

abbrev pub is_ours : ℕ → Bool
is_ours table = eqb table guide_table

abbrev pub size_in : List ℕ → ℕ
size_in xs = word (get_or xs 1 0) (get_or xs 2 0) % 4096

abbrev pub protocol_in : List ℕ → ℕ
protocol_in xs = get_or xs 3 0

abbrev pub version_in : List ℕ → ℕ
version_in xs = get_or xs 5 0 / 2 % 32

abbrev pub current_in : List ℕ → ℕ
current_in xs = get_or xs 5 0 % 2

abbrev pub number_in : List ℕ → ℕ
number_in xs = get_or xs 6 0

abbrev pub last_in : List ℕ → ℕ
last_in xs = get_or xs 7 0

-- ---- the checks

-- the head is there, section_length is not too much, and it tells the bytes given
unfoldable pub has_length : List ℕ → Bool
has_length xs = leb head_bytes (length xs) && (leb (size_in xs) most_length && eqb (size_in xs + uncounted_bytes) (length xs))

-- nothing runs past the end, and no byte is left over
abbrev pub loops_end : Walk → List ℕ → Result Standing Refusal
loops_end (Ok at) xs = check (ltb at (length xs)) (Err (RunsOver at)) (Ok InForce)
loops_end (Err f) xs = Err f

unfoldable pub loops_standing : List ℕ → Result Standing Refusal
loops_standing xs = loops_end (loops xs) xs

-- once its length is right
abbrev pub head_standing : List ℕ → Result Standing Refusal
head_standing xs =
    check (not (eqb (protocol_in xs) 0)) (Err OtherProtocol)  -- 21
    (check (eqb (current_in xs) 0) (Ok NotYet)
    (check (ltb (last_in xs) (number_in xs)) (Err NumberAboveLast)  -- 22
    (loops_standing xs)))  -- 23

unfoldable pub standing : List ℕ → Result Standing Refusal
standing xs =
    check (eqb (length xs) 0) (Err BadLength)  -- 20
    (check (not (is_ours (get_or xs 0 0))) (Ok NotOurs)
    (check (not (has_length xs)) (Err BadLength)  -- 20
    (head_standing xs)))

-- ---- document 02's numbers

abbrev pub number_of : Refusal → ℕ
number_of BadLength = 20
number_of OtherProtocol = 21
number_of NumberAboveLast = 22
number_of (RunsOver at) = 23

-- ---- the names

abbrev pub is_in_force : Result Standing Refusal → Bool
is_in_force (Ok InForce) = true
is_in_force (Ok NotOurs) = false
is_in_force (Ok NotYet) = false
is_in_force (Err f) = false

-- where the n-th provider begins, n from 0
abbrev pub provider_place : List ℕ → ℕ → ℕ
provider_place xs n = place_of (providers xs n head_bytes)

-- how many names a section has: none, where it is not in force
unfoldable pub name_count : List ℕ → ℕ
name_count xs = cond (is_in_force (standing xs)) (providers_in xs) 0

-- the n-th name, empty where there is none; and where it begins in the section, 0 where there is none
unfoldable pub name_in : List ℕ → ℕ → List ℕ
name_in xs n = cond (ltb n (name_count xs)) (name_at xs (provider_place xs n)) []

unfoldable pub name_place : List ℕ → ℕ → ℕ
name_place xs n = cond (ltb n (name_count xs)) (provider_place xs n + 1) 0

-- it lies inside of the section, from a place on, so many bytes long
pub record Stands (xs : List ℕ) (n from size : ℕ) : Type 0 where
  pub begins : from ≡ name_place xs n
  pub inside : from + size ≤ length xs
  pub bytes : take size (drop from xs) ≡ name_in xs n
  pub whole : size ≡ length (name_in xs n)

-- the names of n providers from a place on
unfoldable pub names_from : List ℕ → ℕ → ℕ → List (List ℕ)
names_from xs zero at = []
names_from xs (suc n) at = name_at xs at ∷ names_from xs n (place_of (provider xs at))

-- all names of a section, in order
abbrev pub names_in : List ℕ → List (List ℕ)
names_in xs = names_from xs (providers_in xs) head_bytes

-- the section xs passes the checks, and is read so
pub record Accepts (xs : List ℕ) (version number last : ℕ) (names : List (List ℕ)) : Type 0 where
  pub passes : standing xs ≡ Ok InForce
  pub versioned : version_in xs ≡ version
  pub numbered : number_in xs ≡ number
  pub ended : last_in xs ≡ last
  pub named : names_in xs ≡ names

-- Document 02: the loops of a section xs, thing by thing from a place on; a thing that runs past the section's end cuts the walk where it begins. A byte that is not there
-- counts as 0.
use Rattle.std.specs.Prelude.{ℕ, zero, suc, ◌+◌, List, ltb, length, get_or, take, drop, Result, Ok, Err}
use Rattle.octets.specs.Checks.{check}
use Rattle.sections.specs.declared.Refusal.{Refusal}
use Rattle.sections.specs.declared.Refusal.TheVariants.{BadLength, OtherProtocol, NumberAboveLast, RunsOver}
use Rattle.sections.specs.Sizes.{head_bytes}

-- where a walk ends; or the refusal, where it is cut
abbrev pub Walk : Type 0
Walk = Result ℕ Refusal

-- a walk, and what follows it
abbrev pub and_then : Walk → (ℕ → Walk) → Walk
and_then (Ok at) more = more at
and_then (Err f) more = Err f

-- the offset in the section that a refusal tells: with 23 alone
abbrev pub offset_of : Refusal → ℕ
offset_of BadLength = 0
offset_of OtherProtocol = 0
offset_of NumberAboveLast = 0
offset_of (RunsOver at) = at

-- where it ends, or is cut
abbrev pub place_of : Walk → ℕ
place_of (Ok at) = at
place_of (Err f) = offset_of f

-- ---- the bytes of a name with its length byte, and of a descriptor: tag, length, that many

abbrev pub name_bytes : List ℕ → ℕ → ℕ
name_bytes xs at = 1 + get_or xs at 0

abbrev pub descriptor_bytes : List ℕ → ℕ → ℕ
descriptor_bytes xs at = 2 + get_or xs (at + 1) 0

-- a thing of so many bytes, and what follows it
abbrev pub thing : List ℕ → ℕ → ℕ → (ℕ → Walk) → Walk
thing xs at bytes more = check (ltb (length xs) (at + bytes)) (Err (RunsOver at)) (more (at + bytes))

-- n descriptors
unfoldable pub descriptors : List ℕ → ℕ → ℕ → Walk
descriptors xs zero at = Ok at
descriptors xs (suc n) at = thing xs at (descriptor_bytes xs at) (descriptors xs n)

-- a count of descriptors, and those
unfoldable pub counted : List ℕ → ℕ → Walk
counted xs at = thing xs at 1 (descriptors xs (get_or xs at 0))

-- a name, and a count of descriptors and those
unfoldable pub provider : List ℕ → ℕ → Walk
provider xs at = thing xs at (name_bytes xs at) (counted xs)

-- n providers
unfoldable pub providers : List ℕ → ℕ → ℕ → Walk
providers xs zero at = Ok at
providers xs (suc n) at = and_then (provider xs at) (providers xs n)

-- the providers, and the additional descriptors
abbrev pub providers_in : List ℕ → ℕ
providers_in xs = get_or xs 8 0

unfoldable pub loops : List ℕ → Walk
loops xs = and_then (providers xs (providers_in xs) head_bytes) (counted xs)

-- ---- the name at a place, behind its length byte

abbrev pub name_at : List ℕ → ℕ → List ℕ
name_at xs at = take (get_or xs at 0) (drop (at + 1) xs)

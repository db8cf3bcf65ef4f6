-- The rules of the request on small sections, by computation: one table, and one statement that the definitions give what it says. Assumes nothing.
use mathlib.Core.Path.{◌≡◌, refl}
use mathlib.Core.List.{List, [], ◌∷◌, ◌++◌, map, flat_map}
use Prim.Native.Nat.{ℕ, ◌+◌}
use native.Mathlib.Omega.{arith}
use lib.ListN.{length, take}
use Rattle.std.specs.Prelude.{Result, Ok, Err}
use Rattle.octets.specs.Bits.{bits, laid, number, octets, bytes_of}
use Rattle.sections.specs.declared.Refusal.{Refusal}
use Rattle.sections.specs.declared.Refusal.TheVariants.{BadLength, OtherProtocol, NumberAboveLast, RunsOver}
use Rattle.sections.specs.declared.Standing.{Standing}
use Rattle.sections.specs.declared.Standing.TheVariants.{NotOurs, NotYet, InForce}
use Rattle.sections.specs.Sizes.{guide_table}
use Rattle.sections.specs.Layout.{descriptor_fields, counted_fields, provider_fields, Section, section_head, section_fields, wire, Carries}
use Rattle.sections.specs.Walks.{descriptors, counted, provider, providers, loops}
use Rattle.sections.specs.Reading.{has_length, loops_standing, standing, name_count, name_in, name_place, names_from}
use Rattle.sections.proofs.Sound.{accepted-carried}

-- a section of this table, protocol version, sixth byte (version and current), section number and last number, its length its own
section : ℕ → ℕ → ℕ → ℕ → ℕ → List ℕ → List ℕ
section table protocol sixth number last loops = table ∷ 0xF0 ∷ (5 + length loops) ∷ protocol ∷ 0xFF ∷ sixth ∷ number ∷ last ∷ loops

-- one of version 5 in force
ours : List ℕ → List ℕ
ours loops = section guide_table 0 0xCB 0 1 loops

-- no provider, and no additional descriptor
none : List ℕ
none = 0 ∷ 0 ∷ []

-- a provider AB with a descriptor of one byte, one C with none, and an additional descriptor of two bytes
two : List ℕ
two = 2 ∷ 2 ∷ 0x41 ∷ 0x42 ∷ 1 ∷ 0x80 ∷ 1 ∷ 0x07 ∷ 1 ∷ 0x43 ∷ 0 ∷ 1 ∷ 0x81 ∷ 2 ∷ 0xAA ∷ 0xBB ∷ []

-- a sample: the section, what it is, and its first three names with their places, empty and 0 where there is none
record Sample : Type 0 where
  bytes : List ℕ
  is : Result Standing Refusal
  names : List (List ℕ)
  places : List ℕ

given : List ℕ → Sample
given xs =
    let three : List ℕ = 0 ∷ 1 ∷ 2 ∷ [] in
    record { bytes = xs; is = standing xs; names = map (name_in xs) three; places = map (name_place xs) three }

nameless : Result Standing Refusal → List ℕ → Sample
nameless is xs = record { bytes = xs; is = is; names = [] ∷ [] ∷ [] ∷ []; places = 0 ∷ 0 ∷ 0 ∷ [] }

-- the section of two providers, cut behind n bytes of its loops
cut : ℕ → ℕ → Sample
cut n at = nameless (Err (RunsOver at)) (ours (take n two))

samples : List Sample
samples =
    nameless (Ok InForce) (ours none)
    ∷ record { bytes = ours two; is = Ok InForce; names = (0x41 ∷ 0x42 ∷ []) ∷ (0x43 ∷ []) ∷ [] ∷ []; places = 10 ∷ 17 ∷ 0 ∷ [] }
    ∷ cut 1 9  -- no byte behind the head
    ∷ cut 3 9  -- in a name
    ∷ cut 4 12  -- before the count of a provider's descriptors
    ∷ cut 5 13  -- before a descriptor
    ∷ cut 7 13  -- in it
    ∷ cut 11 19  -- before the count of additional descriptors
    ∷ cut 15 20  -- in the last descriptor
    ∷ nameless (Err (RunsOver 24)) (ours (two ++ (0 ∷ [])))  -- a byte left over
    ∷ nameless (Err BadLength) []
    ∷ nameless (Ok NotOurs) (0xDB ∷ [])
    ∷ nameless (Err BadLength) (guide_table ∷ [])
    ∷ nameless (Err BadLength) (take 9 (ours none))  -- shorter than its section_length
    ∷ nameless (Err OtherProtocol) (section guide_table 1 0xCA 2 1 none)
    ∷ nameless (Ok NotYet) (section guide_table 0 0xCA 2 1 none)
    ∷ nameless (Err NumberAboveLast) (section guide_table 0 0xCB 2 1 (1 ∷ []))  -- and cut
    ∷ []

samples_hold : map (λ (s : Sample). given s.bytes) samples ≡ samples
unfolding samples given nameless cut two none ours section standing has_length loops_standing loops providers provider counted descriptors name_in name_place name_count
samples_hold = refl

-- the section of two providers, from the table: its bytes, and what it carries
layout : Section
layout =
    record {
      syntax = 1;
      privacy = 1;
      first = 3;
      size = 21;
      protocol = 0;
      second = 0xFF;
      third = 3;
      version = 5;
      current = 1;
      number = 0;
      last = 1;
      providers =
          record { name = 0x41 ∷ 0x42 ∷ []; descriptors = record { tag = 0x80; content = 0x07 ∷ [] } ∷ [] }
          ∷ record { name = 0x43 ∷ []; descriptors = [] }
          ∷ [];
      additional = record { tag = 0x81; content = 0xAA ∷ 0xBB ∷ [] } ∷ [];
    }

layout_holds : wire layout ≡ ours two
unfolding layout two ours section wire section_fields section_head provider_fields counted_fields descriptor_fields bytes_of octets number laid bits flat_map
layout_holds = refl

two_carried : Carries (ours two) 5 0 1 ((0x41 ∷ 0x42 ∷ []) ∷ (0x43 ∷ []) ∷ [])
unfolding two ours section standing has_length loops_standing loops providers provider counted descriptors names_from
two_carried = accepted-carried (omega arith) (record { passes = refl; versioned = refl; numbered = refl; ended = refl; named = refl })

-- A/153 Part 3:2013, Table 7.4: the fields of a GAT-MH section in the standard's order, the bytes that they make, and the names that they carry. The record has what
-- the table has: reserved bits and descriptors too.
use Rattle.std.specs.Prelude.{ℕ, ◌+◌, ◌≤◌, ◌≡◌, length}
use mathlib.Core.List.{List, [], ◌∷◌, ◌++◌, map, flat_map}
use Rattle.octets.specs.Bits.{Field, field, run, bytes_of, Held}
use Rattle.sections.specs.Sizes.{guide_table, uncounted_bytes, most_length}

-- ---- descriptors: whatever is in them

pub record Descriptor : Type 0 where
  pub tag : ℕ
  pub content : List ℕ

unfoldable pub descriptor_fields : Descriptor → List Field
descriptor_fields d =
    field 8 d.tag  -- its tag
    ∷ field 8 (length d.content)  -- its length
    ∷ run d.content  -- that many bytes

-- a count of descriptors, and those
unfoldable pub counted_fields : List Descriptor → List Field
counted_fields ds = field 8 (length ds) ∷ flat_map descriptor_fields ds

-- ---- the loop of Table 7.4

pub record Provider : Type 0 where
  pub name : List ℕ
  pub descriptors : List Descriptor

unfoldable pub provider_fields : Provider → List Field
provider_fields p =
    field 8 (length p.name)  -- SG_provider_name_length
    ∷ run p.name  -- SG_provider_name_text
    ++ counted_fields p.descriptors  -- num_SG_level_descriptors, SG_level_descriptor

-- ---- Table 7.4

pub record Section : Type 0 where
  pub syntax : ℕ
  pub privacy : ℕ
  pub first : ℕ
  pub size : ℕ
  pub protocol : ℕ
  pub second : ℕ
  pub third : ℕ
  pub version : ℕ
  pub current : ℕ
  pub number : ℕ
  pub last : ℕ
  pub providers : List Provider
  pub additional : List Descriptor

unfoldable pub section_head : Section → List Field
section_head s =
    field 8 guide_table  -- table_id
    ∷ field 1 s.syntax  -- section_syntax_indicator
    ∷ field 1 s.privacy  -- private_indicator
    ∷ field 2 s.first  -- reserved
    ∷ field 12 s.size  -- section_length
    ∷ field 8 s.protocol  -- GAT_MH_protocol_version
    ∷ field 8 s.second  -- reserved
    ∷ field 2 s.third  -- reserved
    ∷ field 5 s.version  -- version_number
    ∷ field 1 s.current  -- current_next_indicator
    ∷ field 8 s.number  -- section_number
    ∷ field 8 s.last  -- last_section_number
    ∷ field 8 (length s.providers)  -- num_SG_providers
    ∷ []

unfoldable pub section_fields : Section → List Field
section_fields s =
    section_head s
    ++ (flat_map provider_fields s.providers
    ++ counted_fields s.additional)  -- num_additional_descriptors, additional_descriptor

-- ---- the bytes of a section, and which records are sections

unfoldable pub wire : Section → List ℕ
wire s = bytes_of (section_fields s)

pub record Formed (s : Section) : Type 0 where
  -- every number fits its field: so a name and a descriptor have at most 255 bytes, and a count is at most 255
  pub held : Held (section_fields s)
  -- section_length counts the bytes behind it
  pub counts : s.size + uncounted_bytes ≡ length (wire s)

-- ---- the bytes xs are a section in force, with this version, number and last number, and these names

pub record Carries (xs : List ℕ) (version number last : ℕ) (names : List (List ℕ)) : Type 0 where
  pub section : Section
  pub formed : Formed section
  pub bytes : wire section ≡ xs
  pub short : section.size ≤ most_length
  pub protocol : section.protocol ≡ 0
  pub current : section.current ≡ 1
  pub order : section.number ≤ section.last
  pub versioned : section.version ≡ version
  pub numbered : section.number ≡ number
  pub ended : section.last ≡ last
  pub named : map (λ (p : Provider). p.name) section.providers ≡ names

-- The bytes of the tables' rows, one row after the other: what `wire` makes of the fields. Assumes nothing.
use mathlib.Core.Path.{◌≡◌, refl}
use mathlib.Core.List.{List, [], ◌∷◌, ◌++◌, flat_map}
use Prim.Native.Nat.{ℕ}
use lib.ListN.{length}
use Rattle.octets.specs.Bits.{Field, field, Held}
use Rattle.octets.specs.Word.{word_bytes}
use Rattle.octets.proofs.Laws.{packed, Makes, bytes_made, makes_append, makes_byte, makes_two, makes_octet, makes_run, makes_rows}
use Rattle.sections.specs.Sizes.{guide_table}
use Rattle.sections.specs.Layout.{Descriptor, descriptor_fields, counted_fields, Provider, provider_fields, Section, section_head, section_fields, wire}

-- ---- the rows

-- a section's second and third byte, and its sixth
abbrev pub second_fields : Section → List Field
second_fields s = field 1 s.syntax ∷ field 1 s.privacy ∷ field 2 s.first ∷ field 12 s.size ∷ []

abbrev pub sixth_fields : Section → List Field
sixth_fields s = field 2 s.third ∷ field 5 s.version ∷ field 1 s.current ∷ []

unfoldable pub descriptor_row : Descriptor → List ℕ
descriptor_row d = d.tag ∷ length d.content ∷ d.content

unfoldable pub counted_row : List Descriptor → List ℕ
counted_row ds = length ds ∷ flat_map descriptor_row ds

unfoldable pub provider_row : Provider → List ℕ
provider_row p = (length p.name ∷ p.name) ++ counted_row p.descriptors

unfoldable pub section_front : Section → List ℕ
section_front s =
    guide_table
    ∷ word_bytes (packed (second_fields s))
    ++ (s.protocol ∷ s.second ∷ packed (sixth_fields s) ∷ s.number ∷ s.last ∷ length s.providers ∷ [])

unfoldable pub section_row : Section → List ℕ
section_row s = section_front s ++ (flat_map provider_row s.providers ++ counted_row s.additional)

-- ---- the fields make the rows

descriptor_makes : (d : Descriptor) → Makes (descriptor_fields d) (descriptor_row d)
unfolding descriptor_fields descriptor_row
descriptor_makes d = makes_append (makes_octet d.tag) (makes_append (makes_octet (length d.content)) (makes_run d.content))

counted_makes : (ds : List Descriptor) → Makes (counted_fields ds) (counted_row ds)
unfolding counted_fields counted_row
counted_makes ds = makes_append (makes_octet (length ds)) (makes_rows descriptor_fields descriptor_row descriptor_makes ds)

provider_makes : (p : Provider) → Makes (provider_fields p) (provider_row p)
unfolding provider_fields provider_row
provider_makes p =
    makes_append (makes_octet (length p.name)) (makes_append (makes_run p.name) (counted_makes p.descriptors))

front_makes : (s : Section) → Makes (section_head s) (section_front s)
unfolding section_head section_front
front_makes s =
    makes_append (makes_octet guide_table)
    (makes_append (makes_two (second_fields s) refl)
    (makes_append (makes_octet s.protocol)
    (makes_append (makes_octet s.second)
    (makes_append (makes_byte (sixth_fields s) refl)
    (makes_append (makes_octet s.number) (makes_append (makes_octet s.last) (makes_octet (length s.providers))))))))

section_makes : (s : Section) → Makes (section_fields s) (section_row s)
unfolding section_fields section_row
section_makes s =
    makes_append (front_makes s)
    (makes_append (makes_rows provider_fields provider_row provider_makes s.providers) (counted_makes s.additional))

pub wire-row : (s : Section) → Held (section_fields s) → wire s ≡ section_row s
unfolding wire
wire-row s h = bytes_made (section_makes s) h

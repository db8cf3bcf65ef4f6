-- Every section that is accepted is one of the layout: its fields, read off the bytes, make the bytes again. Assumes nothing.
use mathlib.Core.Path.{◌≡◌, sym, ap, ◌∙◌}
use mathlib.Core.List.{List, [], ◌∷◌, ◌++◌, flat_map}
use Prim.Native.Nat.{ℕ, zero, suc, ◌+◌, ◌/◌, ◌%◌, ◌<◌}
use native.Mathlib.Nat.{div-div-eq-div-mul}
use native.Mathlib.Omega.{arith}
use lib.ListN.{length, get_or, drop, length-take}
use Rattle.octets.specs.Bits.{Field, InWidth, Held, run, Bytes}
use Rattle.octets.specs.Word.{word, high, low}
use Rattle.octets.proofs.Laws.{packed, each_append, high_word, low_word, bytes_take, bytes_drop, get_d_byte}
use Rattle.sections.specs.Sizes.{guide_table, head_bytes}
use Rattle.sections.specs.Layout.{descriptor_fields, counted_fields, provider_fields, Section, section_head, section_fields, Carries}
use Rattle.sections.specs.Walks.{Walk, place_of, counted, provider, providers, providers_in, loops, name_bytes, name_at}
use Rattle.sections.specs.Reading.{size_in, protocol_in, version_in, current_in, number_in, last_in, provider_place, Accepts}
use Rattle.sections.proofs.Laws.{then_goes, over_append, bytes_from, over_bytes, over_whole, things, things_over}
use Rattle.sections.proofs.Parts.{descriptor, descriptor_at, counted_at, length-counted, counted_reads, provider_at, providers_at, length-providers, providers-repeat, provider_reads}
use Rattle.sections.proofs.Names.{Passes, in_force_passes, names_of}
use Rattle.sections.proofs.Rows.{second_fields, sixth_fields, section_front, section_row, wire-row}

-- ---- the section that some bytes are

unfoldable pub section_at : List ℕ → Section
section_at xs =
    record {
      syntax = get_or xs 1 0 / 128;
      privacy = get_or xs 1 0 / 64 % 2;
      first = get_or xs 1 0 / 16 % 4;
      size = size_in xs;
      protocol = protocol_in xs;
      second = get_or xs 4 0;
      third = get_or xs 5 0 / 64;
      version = version_in xs;
      current = current_in xs;
      number = number_in xs;
      last = last_in xs;
      providers = providers_at xs (providers_in xs) head_bytes;
      additional = counted_at xs (provider_place xs (providers_in xs));
    }

-- ---- its numbers fit their fields

things_held : {A : Type 0} (one : ℕ → Walk) (read : ℕ → A) (fields : A → List Field) → ((at : ℕ) → Held (fields (read at))) → (n at : ℕ) → Held (flat_map fields (things one read n at))
unfolding flat_map things
things_held one read fields held zero at = tt
things_held one read fields held (suc n) at =
    each_append InWidth (fields (read at)) (flat_map fields (things one read n (place_of (one at))))
    (held at)
    (things_held one read fields held n (place_of (one at)))

module _ (xs : List ℕ) (b : Bytes xs) where
  text_held : (at : ℕ) → (length (name_at xs at) < 256) × Bytes (name_at xs at)
  text_held at =
      let n : ℕ = get_or xs at 0 in
      (omega (arith, get_d_byte xs at b, length-take n (drop (at + 1) xs)), bytes_take n (drop (at + 1) xs) (bytes_drop (at + 1) xs b))

  descriptor_held : (at : ℕ) → Held (descriptor_fields (descriptor_at xs at))
  unfolding descriptor_fields descriptor_at
  descriptor_held at = (get_d_byte xs at b, text_held (at + 1))

  counted_held : (at : ℕ) → Held (counted_fields (counted_at xs at))
  unfolding counted_fields counted_at
  counted_held at =
      (omega (arith, length-counted xs at, get_d_byte xs at b), things_held (descriptor xs) (descriptor_at xs) descriptor_fields descriptor_held (get_or xs at 0) (at + 1))

  provider_held : (at : ℕ) → Held (provider_fields (provider_at xs at))
  unfolding provider_fields provider_at
  provider_held at =
      let t = text_held at in
      (t.0, each_append InWidth (run (name_at xs at)) (counted_fields (counted_at xs (at + name_bytes xs at))) t.1 (counted_held (at + name_bytes xs at)))

  section_held : Held (section_fields (section_at xs))
  unfolding section_fields section_head section_at providers_at
  section_held =
      let s = section_at xs in
      let n : ℕ = providers_in xs in
      each_append InWidth (section_head s) (flat_map provider_fields s.providers ++ counted_fields s.additional)
      (omega (arith, get_d_byte xs 1 b, get_d_byte xs 3 b, get_d_byte xs 4 b, get_d_byte xs 5 b, get_d_byte xs 6 b, get_d_byte xs 7 b, get_d_byte xs 8 b, length-providers xs n head_bytes))
      (each_append InWidth (flat_map provider_fields s.providers) (counted_fields s.additional)
      (things_held (provider xs) (provider_at xs) provider_fields provider_held n head_bytes)
      (counted_held (provider_place xs n)))

  -- ---- where it passes the checks, its rows are the bytes

  front_read : get_or xs 0 0 ≡ guide_table → section_front (section_at xs) ≡ bytes_from xs head_bytes 0
  unfolding section_front section_at
  front_read ours =
      let x : ℕ = get_or xs 1 0 in
      let y : ℕ = get_or xs 2 0 in
      let z : ℕ = get_or xs 5 0 in
      let low-lt = get_d_byte xs 2 b in
      let two : packed (second_fields (section_at xs)) ≡ word x y = omega (arith, div-div-eq-div-mul x 16 4, div-div-eq-div-mul x 64 2) in
      let high_is = ap high two ∙ high_word x y low-lt in
      let low-is = ap low two ∙ low_word x y low-lt in
      let sixth : packed (sixth_fields (section_at xs)) ≡ z = omega (arith, div-div-eq-div-mul z 2 32) in
      let count = length-providers xs (providers_in xs) head_bytes in
      let table = sym ours in
      λ i. table i ∷ high_is i ∷ low-is i ∷ get_or xs 3 0 ∷ get_or xs 4 0 ∷ sixth i ∷ get_or xs 6 0 ∷ get_or xs 7 0 ∷ count i ∷ []

  section-bytes : Passes xs → section_row (section_at xs) ≡ xs
  unfolding section_row section_at providers_at loops
  section-bytes p =
      let n : ℕ = providers_in xs in
      let g = then_goes (providers xs n head_bytes) (counted xs) p.ends in
      let loop = things_over (provider_reads xs) (providers-repeat xs) n head_bytes p.head g.0 in
      over_whole xs
      (rw (front_read p.ours)
      (over_append xs (over_bytes xs head_bytes 0 p.head) (over_append xs loop ((counted_reads xs).over (provider_place xs n) loop.within g.1))))

-- what the reader accepts, the layout carries
pub accepted-carried : {xs : List ℕ} {v n l : ℕ} {names : List (List ℕ)} → Bytes xs → Accepts xs v n l names → Carries xs v n l names
unfolding section_at
accepted-carried {xs} b a =
    let p = in_force_passes a.passes in
    let held = section_held xs b in
    let bytes = wire-row (section_at xs) held ∙ section-bytes xs b p in
    record {
      section = section_at xs;
      formed = record { held = held; counts = p.counts ∙ ap length (sym bytes) };
      bytes = bytes;
      short = p.size;
      protocol = p.protocol;
      current = p.current;
      order = p.order;
      versioned = a.versioned;
      numbered = a.numbered;
      ended = a.ended;
      named = names_of xs (providers_in xs) head_bytes ∙ a.named;
    }

-- Every section of the layout that is in force is accepted, with its numbers and names; and no bytes have two readings. Assumes nothing.
use mathlib.Core.Path.{◌≡◌, sym, ap, ◌∙◌, subst}
use mathlib.Core.List.{List, ◌++◌, map, flat_map}
use Prim.Native.Nat.{ℕ}
use native.Mathlib.Omega.{arith}
use lib.ListN.{length, get_or}
use Rattle.std.specs.Prelude.{Ok}
use Rattle.octets.specs.Bits.{Held}
use Rattle.sections.specs.Sizes.{head_bytes}
use Rattle.sections.specs.Layout.{Provider, Section, section_head, section_fields, wire, Formed, Carries}
use Rattle.sections.specs.Walks.{place_of, counted, loops, providers_in}
use Rattle.sections.specs.Reading.{Accepts}
use Rattle.sections.proofs.Laws.{then_there, over_split, whole_over, things_back}
use Rattle.sections.proofs.Parts.{counted_at, counted_reads, providers_at, providers-repeat, provider_reads}
use Rattle.sections.proofs.Names.{passes_in_force, names_of}
use Rattle.sections.proofs.Rows.{section_front, section_row, counted_row, provider_row, wire-row}
use Rattle.sections.proofs.Sound.{section_at}

-- ---- a section is read off its own row

module _ (s : Section) where
  abbrev xs : List ℕ
  xs = section_row s

  -- the loops
  record LoopsRead : Type 0 where
    ends : loops xs ≡ Ok (length xs)
    providers : (section_at xs).providers ≡ s.providers
    additional : (section_at xs).additional ≡ s.additional

  loops-read : LoopsRead
  unfolding section_at section_row section_front providers_at loops
  loops-read =
      let loop : List ℕ = flat_map provider_row s.providers in
      let rest : List ℕ = counted_row s.additional in
      let o = over_split xs loop rest (over_split xs (section_front s) (loop ++ rest) (whole_over xs)).1 in
      let p = things_back (provider_reads xs) (providers-repeat xs) s.providers o.0 in
      let a = (counted_reads xs).back s.additional o.1 in
      record {
        ends = then_there (counted xs) p.0 ∙ a.0;
        providers = p.1;
        additional = ap (λ w. counted_at xs (place_of w)) p.0 ∙ a.1;
      }

  section-read : Held (section_fields s) → section_at xs ≡ s
  unfolding section_at section_row section_front section_fields section_head
  section-read held =
      let r = loops-read in
      let syntax : (section_at xs).syntax ≡ s.syntax = omega arith in
      let privacy : (section_at xs).privacy ≡ s.privacy = omega arith in
      let first : (section_at xs).first ≡ s.first = omega arith in
      let size : (section_at xs).size ≡ s.size = omega arith in
      let third : (section_at xs).third ≡ s.third = omega arith in
      let version : (section_at xs).version ≡ s.version = omega arith in
      let current : (section_at xs).current ≡ s.current = omega arith in
      λ i. record {
        syntax = syntax i;
        privacy = privacy i;
        first = first i;
        size = size i;
        protocol = s.protocol;
        second = s.second;
        third = third i;
        version = version i;
        current = current i;
        number = s.number;
        last = s.last;
        providers = r.providers i;
        additional = r.additional i;
      }

pub wire-read : (s : Section) → Held (section_fields s) → section_at (wire s) ≡ s
wire-read s held = ap section_at (wire-row s held) ∙ section-read s held

-- ---- no bytes are two sections

pub one_section : (s t : Section) → Formed s → Formed t → wire s ≡ wire t → s ≡ t
one_section s t f g e = sym (wire-read s f.held) ∙ ap section_at e ∙ wire-read t g.held

-- ---- what the layout carries, the reader accepts; so the same bytes carry one thing

pub carried-accepted : {xs : List ℕ} {v n l : ℕ} {names : List (List ℕ)} → Carries xs v n l names → Accepts xs v n l names
unfolding section_at section_row section_front
carried-accepted {xs} c =
    let s = c.section in
    let bytes : section_row s ≡ xs = sym (wire-row s c.formed.held) ∙ c.bytes in
    let r : section_at xs ≡ s = ap section_at (sym c.bytes) ∙ wire-read s c.formed.held in
    let number : (section_at xs).number ≡ s.number = λ i. (r i).number in
    let last : (section_at xs).last ≡ s.last = λ i. (r i).last in
    let size : (section_at xs).size ≡ s.size = λ i. (r i).size in
    record {
      passes =
          passes_in_force
          (record {
            ours = ap (λ (t : List ℕ). get_or t 0 0) (sym bytes);
            head = omega (arith, ap length bytes);
            size = omega (arith, c.short);
            counts = omega (arith, c.formed.counts, ap length c.bytes);
            protocol = (λ i. (r i).protocol) ∙ c.protocol;
            current = (λ i. (r i).current) ∙ c.current;
            order = omega (arith, c.order);
            ends = subst (λ (t : List ℕ). loops t ≡ Ok (length t)) bytes (loops-read s).ends;
          });
      versioned = (λ i. (r i).version) ∙ c.versioned;
      numbered = number ∙ c.numbered;
      ended = last ∙ c.ended;
      named = sym (names_of xs (providers_in xs) head_bytes) ∙ (λ i. map (λ (p : Provider). p.name) (r i).providers) ∙ c.named;
    }

pub one_reading : {xs : List ℕ} {v n l v' n' l' : ℕ} {names names' : List (List ℕ)} → Carries xs v n l names → Carries xs v' n' l' names' → (v ≡ v') × (n ≡ n') × (l ≡ l') × (names ≡ names')
one_reading c d =
    let a = carried-accepted c in
    let b = carried-accepted d in
    (sym a.versioned ∙ b.versioned, sym a.numbered ∙ b.numbered, sym a.ended ∙ b.ended, sym a.named ∙ b.named)

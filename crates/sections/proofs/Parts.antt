-- The things of a section read off its bytes at a place: a walk over one goes over its row, and a row is gone over, and read. Assumes nothing.
use mathlib.Core.Path.{◌≡◌, refl, sym, ap, ◌∙◌, subst}
use mathlib.Core.List.{List, [], ◌∷◌, flat_map}
use Prim.Native.Nat.{ℕ, ◌+◌, ◌≤◌}
use native.Mathlib.Omega.{arith}
use lib.ListN.{length, get_or}
use Rattle.std.specs.Prelude.{Ok}
use Rattle.sections.specs.Layout.{Descriptor, Provider}
use Rattle.sections.specs.Walks.{Walk, name_bytes, descriptor_bytes, thing, descriptors, counted, provider, providers, name_at}
use Rattle.sections.proofs.Laws.{thing_goes, thing_there, thing_then, Over, over_append, over_byte, over_split, over_first, text_over, text-read, Repeats, things, Reads, things_over, things_back, length_things}
use Rattle.sections.proofs.Rows.{descriptor_row, counted_row, provider_row}

module _ (xs : List ℕ) where
  -- ---- a descriptor, and some

  unfoldable pub descriptor : ℕ → Walk
  descriptor at = thing xs at (descriptor_bytes xs at) Ok

  unfoldable pub descriptor_at : ℕ → Descriptor
  descriptor_at at = record { tag = get_or xs at 0; content = name_at xs (at + 1) }

  pub descriptors-repeat : Repeats descriptor (descriptors xs)
  unfolding descriptors descriptor
  descriptors-repeat = record { none = λ at. refl; more = λ n at. thing_then xs at (descriptor_bytes xs at) (descriptors xs n) }

  pub descriptor_reads : Reads xs descriptor descriptor_at descriptor_row
  unfolding descriptor descriptor_at descriptor_row
  descriptor_reads =
      record {
        over = λ at {b} h e.
            let g = thing_goes xs at (descriptor_bytes xs at) Ok e in
            let end : at + descriptor_bytes xs at ≡ b = cc in
            let next : at + 1 + name_bytes xs (at + 1) ≡ b = omega arith in
            rw (← next) (over_append xs (over_byte xs at (omega arith)) (text_over xs (at + 1) (omega arith)));
        back = λ d {at} {b} o.
            let p = (over_split xs (d.tag ∷ []) (length d.content ∷ d.content) o).1 in
            let t = text-read xs d.content p in
            let end : at + descriptor_bytes xs at ≡ b = omega (arith, t.0) in
            let room : at + descriptor_bytes xs at ≤ length xs = omega (arith, p.within) in
            let tag = over_first xs o in
            (thing_there xs at (descriptor_bytes xs at) Ok room ∙ ap Ok end, λ i. record { tag = tag i; content = t.1 i });
      }

  -- ---- a count of descriptors and those

  unfoldable pub counted_at : ℕ → List Descriptor
  counted_at at = things descriptor descriptor_at (get_or xs at 0) (at + 1)

  pub length-counted : (at : ℕ) → length (counted_at at) ≡ get_or xs at 0
  unfolding counted_at
  length-counted at = length_things descriptor descriptor_at (get_or xs at 0) (at + 1)

  pub counted_reads : Reads xs (counted xs) counted_at counted_row
  unfolding counted counted_at counted_row
  counted_reads =
      record {
        over = λ at {b} h e.
            let n : ℕ = get_or xs at 0 in
            let g = thing_goes xs at 1 (descriptors xs n) e in
            let o = things_over descriptor_reads descriptors-repeat n (at + 1) g.0 g.1 in
            subst (λ (k : ℕ). Over xs at (k ∷ flat_map descriptor_row (counted_at at)) b) (sym (length-counted at))
            (over_append xs (over_byte xs at (omega (arith, g.0))) o);
        back = λ ds {at} {b} o.
            let p = over_split xs (length ds ∷ []) (flat_map descriptor_row ds) o in
            let n = over_first xs o in
            let r = things_back descriptor_reads descriptors-repeat ds p.1 in (
              thing_there xs at 1 (descriptors xs (get_or xs at 0)) p.0.within
                  ∙ ap (λ (k : ℕ). descriptors xs k (at + 1)) n ∙ r.0,
              ap (λ (k : ℕ). things descriptor descriptor_at k (at + 1)) n ∙ r.1,
            );
      }

  -- ---- a provider, and some

  unfoldable pub provider_at : ℕ → Provider
  provider_at at = record { name = name_at xs at; descriptors = counted_at (at + name_bytes xs at) }

  unfoldable pub providers_at : ℕ → ℕ → List Provider
  providers_at n at = things (provider xs) provider_at n at

  pub length-providers : (n at : ℕ) → length (providers_at n at) ≡ n
  unfolding providers_at
  length-providers = length_things (provider xs) provider_at

  pub providers-repeat : Repeats (provider xs) (providers xs)
  unfolding providers
  providers-repeat = record { none = λ at. refl; more = λ n at. refl }

  pub provider_reads : Reads xs (provider xs) provider_at provider_row
  unfolding provider provider_at provider_row
  provider_reads =
      record {
        over = λ at h e.
            let g = thing_goes xs at (name_bytes xs at) (counted xs) e in
            over_append xs (text_over xs at g.0) (counted_reads.over (at + name_bytes xs at) g.0 g.1);
        back = λ p {at} {b} o.
            let q = over_split xs (length p.name ∷ p.name) (counted_row p.descriptors) o in
            let t = text-read xs p.name q.0 in
            let r = counted_reads.back p.descriptors q.1 in
            let room : at + name_bytes xs at ≤ length xs = omega (arith, t.0, q.0.within) in (
              thing_there xs at (name_bytes xs at) (counted xs) room ∙ ap (counted xs) t.0 ∙ r.0,
              let list = ap counted_at t.0 ∙ r.1 in
                  λ i. record { name = t.1 i; descriptors = list i },
            );
      }

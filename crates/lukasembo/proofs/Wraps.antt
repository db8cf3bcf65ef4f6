-- The tunnel's writer for programs in C: how great its numbers are, its promise told, and that the one number tells each part. Assumes nothing.
use mathlib.Core.Path.{◌≡◌, ap, ◌∙◌}
use mathlib.Core.List.{List}
use Rattle.std.proofs.Common.{Result}
use Prim.Native.Nat.{ℕ, ◌/◌, ◌%◌, ◌^◌, ◌<◌}
use native.Mathlib.Omega.{arith}
use Rattle.wrapper.specs.declared.Numbers.{Numbers}
use Rattle.wrapper.specs.declared.Refusal.{Refusal}
use Rattle.wrapper.proofs.Laws.{number_most}
use Rattle.wrapper.specs.Wrap.{Writer, writer, wrapped_values, Outcome, wrapped, WrapSays, CloseSays, Leaves}
use Rattle.round_trip.proofs.Results.{Small, write_most, close_most, write_small, close_small}
use Rattle.lukasembo.specs.Wraps.{packed_wrapped, writer_in, Tells, packed_writer}

-- what a caller can say fits
pub writer_small : (numbers since : ℕ) → numbers < 2 ^ 64 → Small (writer_in numbers since)
writer_small numbers since h = (omega arith, omega arith, omega arith)

-- and so does what a call leaves
abbrev Fits : Outcome → Type 0
Fits u = ((wrapped_values u.answer).wrote < 65536) × Small u.writer.numbers

fits_left : {u : Outcome} {a : Result ℕ Refusal} {n : Numbers} {bytes output : List ℕ} → Leaves u a n bytes output → Fits u → ((wrapped_values a).wrote < 65536) × (n.size < 65536) × (n.left < 65536) × (n.begin < 65536)
fits_left says f =
    let m = ap (λ (w : Writer). w.numbers) says.holds in
    (rw says.answers f.0, rw m f.1.0, rw m f.1.1, rw m f.1.2)

module _ (m : Numbers) (numbers since : ℕ) (short : numbers < 2 ^ 64) (is : m ≡ writer_in numbers since) (bytes : List ℕ) where
  small : Small m
  small = rw is (writer_small numbers since short)

  pub wrap_fits : (packet : List ℕ) (timestamp : ℕ) (output : List ℕ) {a : Result ℕ Refusal} {n : Numbers} {bytes' output' : List ℕ} → WrapSays m bytes packet timestamp output a n bytes' output' → ((wrapped_values a).wrote < 65536) × (n.size < 65536) × (n.left < 65536) × (n.begin < 65536)
  wrap_fits packet timestamp output says =
      fits_left says (omega (arith, write_most (writer m bytes) output packet timestamp), write_small (writer m bytes) output small packet timestamp)

  pub close-fits : (output : List ℕ) {a : Result ℕ Refusal} {n : Numbers} {output' : List ℕ} → CloseSays m bytes output a n output' → ((wrapped_values a).wrote < 65536) × (n.size < 65536) × (n.left < 65536) × (n.begin < 65536)
  close-fits output says = fits_left says (omega (arith, close_most (writer m bytes) output), close_small (writer m bytes) output small)

-- the promise, told
pub told : {u v : Outcome} → u ≡ v → {a : Result ℕ Refusal} {n : Numbers} {bytes output : List ℕ} → Leaves u a n bytes output → (answer left : ℕ) → (answer ≡ packed_wrapped (wrapped_values a) n.timestamp) × (left ≡ packed_writer n) → Tells v answer left bytes output
told {u} {v} same {a} {n} says answer left packs =
    let m = ap (λ (w : Writer). w.numbers) (says.holds ∙ ap (λ (r : Outcome). r.writer) same) in
    let b = says.answers ∙ ap (λ (r : Outcome). r.answer) same in
    record {
      answers = packs.0 ∙ (λ i. packed_wrapped (wrapped_values (b i)) (m i).timestamp);
      keeps = packs.1 ∙ ap packed_writer m;
      holds = ap (λ (w : Writer). w.bytes) (says.holds ∙ ap (λ (r : Outcome). r.writer) same);
      leaves = says.leaves ∙ ap (λ (r : Outcome). r.output) same;
    }

-- ---- the one number tells each part

pub wrapped_told : (w : Writer) (output packet : List ℕ) (timestamp : ℕ) → let u = wrapped w output packet timestamp in let v = wrapped_values u.answer in let n = packed_wrapped v u.writer.numbers.timestamp in (n % 0x100 ≡ v.number) × (n / 0x10000 % 0x10000 ≡ v.wrote) × (n / 0x100000000 ≡ u.writer.numbers.timestamp)
wrapped_told w output packet timestamp =
    let a = (wrapped w output packet timestamp).answer in
    let most = write_most w output packet timestamp in
    let few = number_most a in
    (omega arith, omega arith, omega arith)

pub writer_told : (numbers since : ℕ) → numbers < 2 ^ 64 → packed_writer (writer_in numbers since) ≡ numbers
writer_told numbers since h = omega arith

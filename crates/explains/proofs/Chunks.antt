-- What is explained of a chunk: that it is too long, its major version, or the first row not whole of the part that the reader tells. Assumes
-- nothing.
use mathlib.Core.Path.{◌≡◌, refl, sym, ap, ◌∙◌}
use mathlib.Core.List.{List, [], ◌∷◌, ◌++◌, map, flat_map}
use Prim.Native.Nat.{ℕ, suc, ◌+◌, ◌-◌, ◌*◌, ◌/◌, ◌%◌, ◌≤◌, ◌<◌}
use native.Mathlib.Omega.{arith}
use borrow.Author.Tests.{ltb-true, ltb-false, eqb-true, eqb-false}
use lib.Dec.{T, eqb, ltb}
use lib.ListN.{length, get_or, take, get_or-append, get_or-eq_default}
use Rattle.std.proofs.Common.{Result, Err, Some}
use Rattle.octets.specs.Bits.{Field, field, run, bytes_of, Bytes}
use Rattle.octets.specs.Each.{Each}
use Rattle.octets.specs.Checks.{check, among}
use Rattle.octets.specs.Tables.{before, first_not_whole, number_at}
use Rattle.octets.proofs.Laws.{either, each_append, each_right, get_d_byte, width, width_append, width_run, length-bytes_of}
use Rattle.octets.proofs.Tables.{before_next, before_mono, not_whole_before, not_whole_past, not_whole_within, number_in-byte}
use Rattle.meaning.specs.declared.Refusal.{Refusal}
use Rattle.meaning.specs.declared.Part.{Part}
use Rattle.meaning.specs.declared.Part.TheVariants.{Header, EnsembleFields, SingleService}
use Rattle.meaning.specs.declared.Refusal.TheVariants.{OtherMajor, TooLong, EndsEarly}
use Rattle.meaning.specs.Sizes.{longest_chunk, chunk_header_bytes, ensemble_bytes, service_bytes}
use Rattle.meaning.specs.Numbers.{checked_number}
use Rattle.meaning.specs.Reading.{checks, ensembles_in, major_in, h_in}
use Rattle.meaning.specs.Layout.{ServiceRow, service_fields, EnsembleRow, ensemble_head, Chunk as ChunkRecord, chunk_head, wire, Formed}
use Rattle.meaning.specs.Ends.{Thing, thing_bytes, service_thing, ensemble_things, things, EndsIn}
use Rattle.meaning.proofs.Gives.{gives_check, gives_number, ensembles_give}
use Rattle.meaning.proofs.Rows.{chunk_row, wire-row}
use Rattle.meaning.proofs.Complete.{Extended, Widened, h-read, e-read, s_read}
use Rattle.meaning.proofs.Ends.{told_ends}
use Rattle.fields.specs.Fields.{widths_of}
use Rattle.fields.specs.declared.Table.TheVariants.{Chunk}
use Rattle.explains.specs.declared.Field.TheVariants.{Length, Row}
use Rattle.explains.specs.declared.Explained.TheVariants.{Found}
use Rattle.explains.specs.Explaining.{explained_values, run_in, widths_in, table_of, chunk_by, chunk_explained}
use Rattle.explains.specs.Breaks.{NotWhole}
use Rattle.explains.proofs.Exactly.{chunk-number}

-- ---- too long, or of another major version

-- what the checks find: 8, or 5, or 9 or nothing
checks_ways : {R : Type 0} (xs : List ℕ) → (longest_chunk < length xs → checks xs ≡ Err TooLong → R) → (length xs ≤ longest_chunk → 2 ≤ length xs → (major_in xs ≡ 0 → ⊥) → checks xs ≡ Err OtherMajor → R) → (length xs ≤ longest_chunk → (2 ≤ length xs → major_in xs ≡ 0) → T (among (0 ∷ 9 ∷ []) (checked_number (checks xs))) → R) → R
unfolding checks
checks_ways xs long other rest =
    either (ltb longest_chunk (length xs)) (λ q. long (ltb-true _ _ q) (simp q))
    (λ q.
    let room = ltb-false longest_chunk (length xs) q in
    either (ltb (length xs) 2) (λ r. let bare = ltb-true (length xs) 2 r in rest room (λ two. absurd (omega arith)) (simp (q, r) tt))
    (λ r.
    either (eqb (major_in xs) 0)
    (λ m.
    let early : Result Unit Refusal = check (ltb (length xs) (chunk_header_bytes + h_in xs)) (Err (EndsEarly Header 0)) (ensembles_in xs) in
    rest room (λ two. eqb-true _ _ m) (simp (q, r, m) (gives_number (9 ∷ []) early (search (gives_check, ensembles_give)))))
    (λ m. other room (ltb-false _ _ r) (eqb-false _ _ m) (simp (q, r, m)))))

pub too_long : (xs : List ℕ) → (explained_values (chunk_explained xs)).number ≡ 8 → (chunk_explained xs ≡ Some (Found 8 Length 0 (length xs))) × (longest_chunk < length xs)
unfolding chunk_explained
too_long xs eight =
    let number = sym (chunk-number xs) ∙ eight in
    checks_ways xs
    (λ l e. (ap (λ (v : Result Unit Refusal). chunk_by v xs) e, l))
    (λ room two m e. absurd (omega (arith, ap checked_number e)))
    (λ room m t. absurd (rw number at t))

pub major_broken : (xs : List ℕ) → Bytes xs → (explained_values (chunk_explained xs)).number ≡ 5 → (chunk_explained xs ≡ Some (Found 5 (Row Chunk 0) 0 (number_at xs 0 2))) × (number_at xs 0 2 ≡ 0 → ⊥) × (2 ≤ length xs) × (length xs ≤ longest_chunk)
unfolding chunk_explained before
major_broken xs b five =
    let number = sym (chunk-number xs) ∙ five in
    checks_ways xs
    (λ l e. absurd (omega (arith, ap checked_number e)))
    (λ room two m e.
    let value : number_at xs 0 2 ≡ major_in xs = number_in-byte xs 0 0 2 (omega arith) (omega arith) ∙ omega (arith, get_d_byte xs 0 b) in
    (ap (λ (v : Result Unit Refusal). chunk_by v xs) e, (λ z. m (sym value ∙ z)), two, room))
    (λ room m t. absurd (rw number at t))

-- ---- how long a part is

-- its bytes besides the extension bytes, and how many of those there are in a chunk
abbrev fixed_bytes : Part → ℕ
fixed_bytes Header = chunk_header_bytes
fixed_bytes EnsembleFields = ensemble_bytes
fixed_bytes SingleService = service_bytes

abbrev run_of : ChunkRecord → Part → ℕ
run_of c Header = c.h
run_of c EnsembleFields = c.e
run_of c SingleService = c.s

fixed_more : (p : Part) → 2 < fixed_bytes p
fixed_more Header = omega arith
fixed_more EnsembleFields = omega arith
fixed_more SingleService = omega arith

table_bits : (p : Part) (m : ℕ) → let ws = widths_of m (table_of p) in before (length ws) ws ≡ 8 * (fixed_bytes p + m)
unfolding before
table_bits Header m = omega arith
table_bits EnsembleFields m = omega arith
table_bits SingleService m = omega arith

-- fields with a run of m bytes among them, and n bytes besides
run-size : (n : ℕ) (gs hs : List Field) (xs : List ℕ) {m : ℕ} → width gs + width hs ≡ 8 * n → length xs ≡ m → length (bytes_of (gs ++ (run xs ++ hs))) ≡ n + m
run-size n gs hs xs w e =
    omega (arith, length-bytes_of (gs ++ (run xs ++ hs)), width_append gs (run xs ++ hs), width_append (run xs) hs, width_run xs)

-- every thing of a chunk
module _ (c : ChunkRecord) where
  abbrev Sized : Thing → Type 0
  Sized t = length (thing_bytes t) ≡ fixed_bytes t.part + run_of c t.part

  services_sized : (vs : List ServiceRow) → Each (Extended c.s) vs → Each Sized (map service_thing vs)
  unfolding service_fields
  services_sized [] x = tt
  services_sized (v ∷ vs) x = (run-size service_bytes (take 5 (service_fields v)) [] v.extension refl x.0, services_sized vs x.1)

  ensembles_sized : (es : List EnsembleRow) → Each (Widened c.e c.s) es → Each Sized (flat_map ensemble_things es)
  unfolding flat_map ensemble_things ensemble_head
  ensembles_sized [] w = tt
  ensembles_sized (x ∷ es) w =
      let count : List Field = field 8 (length x.services) ∷ [] in
      each_append Sized (ensemble_things x) (flat_map ensemble_things es)
      (run-size ensemble_bytes (take 7 (ensemble_head x)) count x.extension refl w.0.0, services_sized x.services w.0.1)
      (ensembles_sized es w.1)

  things_sized : Formed c → Each Sized (things c)
  unfolding things chunk_head
  things_sized t =
      let count : List Field = field 8 (length c.ensembles) ∷ [] in
      (run-size chunk_header_bytes (take 8 (chunk_head c)) count c.extension refl t.header, ensembles_sized c.ensembles t.loops)

-- ---- the lengths of runs, read from what there is of a chunk

module _ (c : ChunkRecord) (t : Formed c) (xs lacking : List ℕ) (is : wire c ≡ xs ++ lacking) where
  byte_begun : (i : ℕ) → i < length xs → get_or xs i 0 ≡ get_or (chunk_row c) i 0
  byte_begun i h = sym (get_or-append xs lacking 0 i h) ∙ ap (λ (zs : List ℕ). get_or zs i 0) (sym is ∙ wire-row c t.held)

  -- a byte that is not there is read as 0
  read_begun : (f : ℕ → ℕ) (i : ℕ) {m : ℕ} → i < 2 → f 0 ≡ 0 → f (get_or (chunk_row c) i 0) ≡ m → (2 ≤ length xs → f (get_or xs i 0) ≡ m) × (f (get_or xs i 0) ≤ m)
  read_begun f i l none said = (
    (λ two. ap f (byte_begun i (omega arith)) ∙ said),
    either (ltb i (length xs))
        (λ q. omega (arith, ap f (byte_begun i (ltb-true _ _ q))))
        (λ q. omega (arith, ap f (get_or-eq_default xs 0 (ltb-false _ _ q)))),
  )

  run_begun : (p : Part) → (2 ≤ length xs → run_in (table_of p) xs ≡ run_of c p) × (run_in (table_of p) xs ≤ run_of c p)
  run_begun Header = read_begun (λ b. b % 8) 0 (omega arith) refl (h-read c t)
  run_begun EnsembleFields = read_begun (λ b. b / 32) 1 (omega arith) refl (e-read c t)
  run_begun SingleService = read_begun (λ b. b / 4 % 8) 1 (omega arith) refl (s_read c t)

-- ---- a chunk that ends early

module _ {xs : List ℕ} {p : Part} {start : ℕ} (h : EndsIn xs p start) where
  abbrev thing : Thing
  thing = h.first.thing

  thing-size : length (thing_bytes thing) ≡ fixed_bytes p + run_of h.chunk p
  thing-size =
      let f = h.first in
      let all : Each (Sized h.chunk) (f.before ++ thing ∷ f.after) = rw f.order at (things_sized h.chunk h.formed) in
      (each_right (Sized h.chunk) f.before (thing ∷ f.after) all).0
      ∙ ap (λ (q : Part). fixed_bytes q + run_of h.chunk q) f.part

  abbrev ws : List ℕ
  ws = widths_in (table_of p) xs

  -- the bits that there are of it
  abbrev room : ℕ
  room = 8 * (length xs - start)

  -- the table, by what there is of the chunk, has no more bits than the thing, and more than there are
  table_between : (room < before (length ws) ws) × (before (length ws) ws ≤ 8 * length (thing_bytes thing))
  table_between =
      let bits = table_bits p (run_in (table_of p) xs) in
      let begun = run_begun h.chunk h.formed xs h.lacking h.bytes p in
      let size = thing-size in (
        either (ltb (length xs) 2)
            (λ q. omega (arith, ltb-true (length xs) 2 q, fixed_more p))
            (λ q. omega (arith, begun.0 (ltb-false (length xs) 2 q), h.first.whole, h.first.cut)),
        omega (arith, begun.1),
      )

  ends_not_whole : length xs ≤ longest_chunk → (2 ≤ length xs → major_in xs ≡ 0) → let i = first_not_whole ws room in NotWhole xs p start i (8 * start + before i ws)
  ends_not_whole short major =
      let i : ℕ = first_not_whole ws room in
      let between = table_between in
      let row = not_whole_within ws room between.0 in
      let within = h.first.whole in
      record {
        room = short;
        major = major;
        ends = h;
        row = row;
        offset = refl;
        past = omega (arith, not_whole_past ws room row);
        earlier = λ j l. omega (arith, not_whole_before ws room (suc j) l);
        inside = omega (arith, before_next i ws, before_mono (suc i) (length ws) ws row, between.1);
      }

pub not_whole : {xs : List ℕ} {p : Part} {start : ℕ} → Bytes xs → checks xs ≡ Err (EndsEarly p start) → (i : ℕ) × (at : ℕ) × (chunk_explained xs ≡ Some (Found 9 (Row (table_of p) i) at (length xs))) × NotWhole xs p start i at
unfolding chunk_explained
not_whole {xs} {p} {start} b is =
    checks_ways xs
    (λ l e. absurd (omega (arith, ap checked_number (sym e ∙ is))))
    (λ short two m e. absurd (omega (arith, ap checked_number (sym e ∙ is))))
    (λ short m t. (_, _, ap (λ (v : Result Unit Refusal). chunk_by v xs) is, ends_not_whole (told_ends b is) short m))

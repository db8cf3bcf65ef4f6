-- Every chunk that is accepted is one of the layout, with the list that is read: the rows are read off the bytes, and laid out they are the
-- bytes again. Assumes nothing.
use mathlib.Core.Path.{◌≡◌, refl, sym, ap, ap₂, ◌∙◌}
use mathlib.Core.Bool.{cond}
use mathlib.Core.List.{List, [], ◌∷◌, ◌++◌, map, flat_map, append_assoc}
use Prim.Native.Nat.{ℕ, zero, suc, ◌+◌, ◌*◌, ◌/◌, ◌%◌, ◌≤◌, ◌<◌}
use native.Mathlib.Nat.{div-div-eq-div-mul}
use native.Mathlib.Omega.{arith}
use lib.Dec.{eqb}
use lib.ListN.{length, get_or, take, drop, length-drop, take-append-drop}
use lib.Seq.{drop-drop, split_at, length-take-le}
use Rattle.std.proofs.Common.{Ok}
use Rattle.octets.specs.Bits.{field, InWidth, Held, run, Bytes}
use Rattle.octets.specs.Each.{Each}
use Rattle.octets.specs.Word.{word}
use Rattle.octets.proofs.Laws.{each_append, each_join, high_word, low_word, bytes_take, bytes_drop, get_d_byte}
use Rattle.meaning.specs.declared.Kind.{Kind}
use Rattle.meaning.specs.Sizes.{chunk_header_bytes, ensemble_bytes, service_bytes}
use Rattle.meaning.specs.Lists.{Service, known, unknown, FicList}
use Rattle.meaning.specs.Layout.{ServiceRow, service_fields, EnsembleRow, ensemble_head, ensemble_fields, Chunk, chunk_head, chunk_fields, wire, Formed, service_of, ensemble_of, list_of, Carries}
use Rattle.meaning.specs.Reading.{service_at, services_at, known_at, unknown_at, ensemble_at, ensembles_at, services_in, services_room, inside, past, ensembles_in, ensembles_checks, major_in, minor_in, h_in, e_in, s_in, version_in, stream_in, count_in, after_header, list_in, Accepts}
use Rattle.meaning.proofs.Checks.{EnsemblePasses, ensemble-passes, header-passes}
use Rattle.meaning.proofs.Rows.{service_row, service_third, ensemble_front, ensemble_row, ensemble_second, ensemble_third, chunk_first, chunk_second, chunk_front, chunk_row, wire-row}

-- ---- services

service_row_at : ℕ → List ℕ → ServiceRow
service_row_at s zs =
    record {
      id = word (get_or zs 0 0) (get_or zs 1 0);
      reserved = get_or zs 2 0 / 32;
      multi = get_or zs 2 0 / 8 % 4;
      status = get_or zs 2 0 / 2 % 4;
      sp = get_or zs 2 0 % 2;
      extension = take s (drop 3 zs);
    }

service_rows_at : ℕ → ℕ → List ℕ → List ServiceRow
service_rows_at s zero zs = []
service_rows_at s (suc n) zs = service_row_at s zs ∷ service_rows_at s n (drop (service_bytes + s) zs)

length-services : (s n : ℕ) (zs : List ℕ) → length (service_rows_at s n zs) ≡ n
unfolding service_rows_at
length-services s zero zs = refl
length-services s (suc n) zs = ap suc (length-services s n (drop (service_bytes + s) zs))

services_of_lem : (s n : ℕ) (zs : List ℕ) → map service_of (service_rows_at s n zs) ≡ services_at s n zs
unfolding service_rows_at service_row_at services_at
services_of_lem s zero zs = refl
services_of_lem s (suc n) zs = ap (λ (t : List Service). service_at zs ∷ t) (services_of_lem s n (drop (service_bytes + s) zs))

service_held : (s : ℕ) (zs : List ℕ) → Bytes zs → Held (service_fields (service_row_at s zs))
unfolding service_fields service_row_at
service_held s zs b =
    let b0 = get_d_byte zs 0 b in
    let b1 = get_d_byte zs 1 b in
    let b2 = get_d_byte zs 2 b in
    let rest = bytes_take s (drop 3 zs) (bytes_drop 3 zs b) in
    each_join InWidth 5 (service_fields (service_row_at s zs)) (omega arith) (each_append InWidth (run (take s (drop 3 zs))) [] rest tt)

service_written : (s : ℕ) (zs : List ℕ) → Bytes zs → service_bytes + s ≤ length zs → service_row (service_row_at s zs) ++ drop (service_bytes + s) zs ≡ zs
unfolding service_row service_row_at
service_written s [] b h = absurd (omega arith)
service_written s (x ∷ []) b h = absurd (omega arith)
service_written s (x ∷ y ∷ []) b h = absurd (omega arith)
service_written s (x ∷ y ∷ z ∷ zs) b h =
    let first = high_word x y b.1.0 in
    let second = low_word x y b.1.0 in
    let third : service_third (service_row_at s (x ∷ y ∷ z ∷ zs)) ≡ z = omega (arith, div-div-eq-div-mul z 2 4, div-div-eq-div-mul z 8 4) in
    let three : service_bytes + s ≡ suc (suc (suc s)) = omega arith in
    ap (λ (k : ℕ). service_row (service_row_at s (x ∷ y ∷ z ∷ zs)) ++ drop k (x ∷ y ∷ z ∷ zs)) three
    ∙ (λ i. first i ∷ second i ∷ third i ∷ take-append-drop s zs i)

services_held : (s n : ℕ) (zs : List ℕ) → Bytes zs → Held (flat_map service_fields (service_rows_at s n zs))
unfolding flat_map service_rows_at
services_held s zero zs b = tt
services_held s (suc n) zs b =
    let rest = drop (service_bytes + s) zs in
    each_append InWidth (service_fields (service_row_at s zs)) (flat_map service_fields (service_rows_at s n rest))
    (service_held s zs b)
    (services_held s n rest (bytes_drop (service_bytes + s) zs b))

-- n services of w bytes each are what is before the rest
rows_room : (n w : ℕ) (zs : List ℕ) → suc n * w ≤ length zs → (w ≤ length zs) × (n * w ≤ length (drop w zs)) × (drop (suc n * w) zs ≡ drop (n * w) (drop w zs))
rows_room n w zs h =
    let more : suc n * w ≡ w + n * w = omega arith in
    (omega arith, omega (arith, length-drop w zs), ap (λ (k : ℕ). drop k zs) more ∙ sym (drop-drop (n * w) w zs))

services_written : (s n : ℕ) (zs : List ℕ) → Bytes zs → n * (service_bytes + s) ≤ length zs → flat_map service_row (service_rows_at s n zs) ++ drop (n * (service_bytes + s)) zs ≡ zs
unfolding flat_map service_rows_at
services_written s zero zs b h = let none : 0 * (service_bytes + s) ≡ 0 = omega arith in ap (λ (k : ℕ). drop k zs) none
services_written s (suc n) zs b h =
    let w : ℕ = service_bytes + s in
    let r = rows_room n w zs h in
    let row : List ℕ = service_row (service_row_at s zs) in
    let more : List ℕ = flat_map service_row (service_rows_at s n (drop w zs)) in
    append_assoc row more (drop (suc n * w) zs)
    ∙ ap (λ (t : List ℕ). row ++ (more ++ t)) r.2
    ∙ ap (λ (t : List ℕ). row ++ t) (services_written s n (drop w zs) (bytes_drop w zs b) r.1)
    ∙ service_written s zs b r.0

services_extended : (s n : ℕ) (zs : List ℕ) → n * (service_bytes + s) ≤ length zs → Each (λ v. length v.extension ≡ s) (service_rows_at s n zs)
unfolding service_rows_at service_row_at
services_extended s zero zs h = tt
services_extended s (suc n) zs h =
    let r = rows_room n (service_bytes + s) zs h in
    (length-take-le s (drop 3 zs) (omega (arith, r.0, length-drop 3 zs)), services_extended s n (drop (service_bytes + s) zs) r.1)

-- ---- ensembles

ensemble_row_at : ℕ → ℕ → List ℕ → EnsembleRow
ensemble_row_at e s ys =
    record {
      id = get_or ys 0 0;
      reserved = get_or ys 1 0 / 32;
      version = version_in ys;
      slt = get_or ys 2 0 / 128;
      gat = get_or ys 2 0 / 64 % 2;
      eat = get_or ys 2 0 / 32 % 2;
      channel = get_or ys 2 0 % 32;
      extension = take e (drop 3 ys);
      services = service_rows_at s (services_in e ys) (inside e ys);
    }

ensemble_rows_at : ℕ → ℕ → ℕ → List ℕ → List EnsembleRow
ensemble_rows_at e s zero ys = []
ensemble_rows_at e s (suc n) ys = ensemble_row_at e s ys ∷ ensemble_rows_at e s n (past e s ys)

-- what follows n ensembles
after : ℕ → ℕ → ℕ → List ℕ → List ℕ
after e s zero ys = ys
after e s (suc n) ys = after e s n (past e s ys)

length-ensembles : (e s n : ℕ) (ys : List ℕ) → length (ensemble_rows_at e s n ys) ≡ n
unfolding ensemble_rows_at
length-ensembles e s zero ys = refl
length-ensembles e s (suc n) ys = ap suc (length-ensembles e s n (past e s ys))

ensemble_of_lem : (e s : ℕ) (ys : List ℕ) → ensemble_of (ensemble_row_at e s ys) ≡ ensemble_at e s ys
unfolding ensemble_row_at
ensemble_of_lem e s ys =
    let x = known_at e s ys in
    let services = services_of_lem s (services_in e ys) (inside e ys) in
    λ i.
    cond (eqb (version_in ys) 0)
    (known (record { id = x.id; slt = x.slt; gat = x.gat; eat = x.eat; channel = x.channel; services = services i }))
    (unknown (unknown_at ys))

ensembles_of : (e s n : ℕ) (ys : List ℕ) → map ensemble_of (ensemble_rows_at e s n ys) ≡ ensembles_at e s n ys
unfolding ensemble_rows_at ensembles_at
ensembles_of e s zero ys = refl
ensembles_of e s (suc n) ys = ap₂ ◌∷◌ (ensemble_of_lem e s ys) (ensembles_of e s n (past e s ys))

ensemble_held : (e s : ℕ) (ys : List ℕ) → Bytes ys → Held (ensemble_fields (ensemble_row_at e s ys))
unfolding ensemble_fields ensemble_head ensemble_row_at
ensemble_held e s ys b =
    let b0 = get_d_byte ys 0 b in
    let b1 = get_d_byte ys 1 b in
    let b2 = get_d_byte ys 2 b in
    let x = ensemble_row_at e s ys in
    let n : ℕ = services_in e ys in
    let rows = service_rows_at s n (inside e ys) in
    let count : length rows < 256 = omega (arith, length-services s n (inside e ys), get_d_byte ys (3 + e) b) in
    each_append InWidth (ensemble_head x) (flat_map service_fields rows)
    (each_join InWidth 7 (ensemble_head x) (omega arith)
    (each_append InWidth (run (take e (drop 3 ys))) (field 8 (length rows) ∷ []) (bytes_take e (drop 3 ys) (bytes_drop 3 ys b)) (count, tt)))
    (services_held s n (inside e ys) (bytes_drop (ensemble_bytes + e) ys b))

-- the fields of an ensemble that has all of them are the bytes before its services
front_written : (e s : ℕ) (ys : List ℕ) → Bytes ys → ensemble_bytes + e ≤ length ys → ensemble_front (ensemble_row_at e s ys) ++ inside e ys ≡ ys
unfolding ensemble_front ensemble_row_at
front_written e s [] b h = absurd (omega arith)
front_written e s (x ∷ []) b h = absurd (omega arith)
front_written e s (x ∷ y ∷ []) b h = absurd (omega arith)
front_written e s (x ∷ y ∷ z ∷ zs) b h =
    let ys : List ℕ = x ∷ y ∷ z ∷ zs in
    let n : ℕ = services_in e ys in
    let rows = service_rows_at s n (inside e ys) in
    let second : ensemble_second (ensemble_row_at e s ys) ≡ y = omega arith in
    let third : ensemble_third (ensemble_row_at e s ys) ≡ z = omega (arith, div-div-eq-div-mul z 32 2, div-div-eq-div-mul z 64 2) in
    let three : 3 + e ≡ suc (suc (suc e)) = omega arith in
    let four : ensemble_bytes + e ≡ suc (suc (suc (suc e))) = omega arith in
    let count : length rows ≡ get_or zs e 0 = length-services s n (inside e ys) ∙ ap (λ (k : ℕ). get_or ys k 0) three in
    let rest : (take e zs ++ (length rows ∷ [])) ++ inside e ys ≡ zs =
    append_assoc (take e zs) (length rows ∷ []) (inside e ys)
    ∙ (λ i. take e zs ++ (count i ∷ drop (four i) ys))
    ∙ sym (split_at zs e 0 (omega arith)) in
    λ i. x ∷ second i ∷ third i ∷ rest i

ensemble_written : (e s : ℕ) (ys : List ℕ) → Bytes ys → EnsemblePasses e s ys → ensemble_row (ensemble_row_at e s ys) ++ past e s ys ≡ ys
unfolding ensemble_row ensemble_row_at
ensemble_written e s ys b h =
    let front : List ℕ = ensemble_front (ensemble_row_at e s ys) in
    let rows = service_rows_at s (services_in e ys) (inside e ys) in
    append_assoc front (flat_map service_row rows) (past e s ys)
    ∙ ap (λ (t : List ℕ). front ++ t) (services_written s (services_in e ys) (inside e ys) (bytes_drop (ensemble_bytes + e) ys b) h.services)
    ∙ front_written e s ys b h.fields

-- what the ensembles' rows are, where they pass
record RowsOf (e s n : ℕ) (ys : List ℕ) : Type 0 where
  held : Held (flat_map ensemble_fields (ensemble_rows_at e s n ys))
  written : flat_map ensemble_row (ensemble_rows_at e s n ys) ++ after e s n ys ≡ ys
  widened : Each (λ x. (length x.extension ≡ e) × Each (λ v. length v.extension ≡ s) x.services) (ensemble_rows_at e s n ys)
  stuffing : Bytes (after e s n ys)

rows_of : (e s n at : ℕ) (ys : List ℕ) → Bytes ys → ensembles_checks e s n at ys ≡ Ok tt → RowsOf e s n ys
unfolding flat_map ensemble_rows_at ensemble_row_at after
rows_of e s zero at ys b p = record { held = tt; written = refl; widened = tt; stuffing = b }
rows_of e s (suc n) at ys b p =
    let h = ensemble-passes e s n at ys p in
    let more = past e s ys in
    let r = rows_of e s n _ more (bytes_drop (services_room e s ys) (inside e ys) (bytes_drop (ensemble_bytes + e) ys b)) h.1 in
    let row : List ℕ = ensemble_row (ensemble_row_at e s ys) in
    record {
      held = each_append InWidth (ensemble_fields (ensemble_row_at e s ys)) (flat_map ensemble_fields (ensemble_rows_at e s n more)) (ensemble_held e s ys b) r.held;
      written =
          append_assoc row (flat_map ensemble_row (ensemble_rows_at e s n more)) (after e s n more)
          ∙ ap (λ (t : List ℕ). row ++ t) r.written
          ∙ ensemble_written e s ys b h.0;
      widened = (
        (
          length-take-le e (drop 3 ys) (omega (arith, h.0.fields, length-drop 3 ys)),
          services_extended s (services_in e ys) (inside e ys) h.0.services,
        ),
        r.widened,
      );
      stuffing = r.stuffing;
    }

-- ---- chunks

pub chunk_at : List ℕ → Chunk
chunk_at xs =
    record {
      major = major_in xs;
      minor = minor_in xs;
      h = h_in xs;
      e = e_in xs;
      s = s_in xs;
      reserved = get_or xs 1 0 / 2 % 2;
      current = get_or xs 1 0 % 2;
      stream = stream_in xs;
      extension = take (h_in xs) (drop 4 xs);
      ensembles = ensemble_rows_at (e_in xs) (s_in xs) (count_in xs) (after_header xs);
      stuffing = after (e_in xs) (s_in xs) (count_in xs) (after_header xs);
    }

pub major_at : (xs : List ℕ) → (chunk_at xs).major ≡ major_in xs
unfolding chunk_at
major_at xs = refl

list_of_lem : (xs : List ℕ) → list_of (chunk_at xs) ≡ list_in xs
unfolding chunk_at list_in
list_of_lem xs =
    let ensembles = ensembles_of (e_in xs) (s_in xs) (count_in xs) (after_header xs) in
    λ i. record { stream = stream_in xs; ensembles = ensembles i }

-- the header of a chunk that has it whole is the bytes before its ensembles
header_written : (xs : List ℕ) → Bytes xs → chunk_header_bytes + h_in xs ≤ length xs → chunk_front (chunk_at xs) ++ after_header xs ≡ xs
unfolding chunk_front chunk_at
header_written [] b h = absurd (omega arith)
header_written (x ∷ []) b h = absurd (omega arith)
header_written (x ∷ y ∷ []) b h = absurd (omega arith)
header_written (x ∷ y ∷ z ∷ []) b h = absurd (omega arith)
header_written (x ∷ y ∷ z ∷ u ∷ zs) b h =
    let xs : List ℕ = x ∷ y ∷ z ∷ u ∷ zs in
    let n : ℕ = h_in xs in
    let rows = ensemble_rows_at (e_in xs) (s_in xs) (count_in xs) (after_header xs) in
    let first : chunk_first (chunk_at xs) ≡ x = omega (arith, div-div-eq-div-mul x 8 8) in
    let second : chunk_second (chunk_at xs) ≡ y = omega (arith, div-div-eq-div-mul y 2 2, div-div-eq-div-mul y 4 8) in
    let third = high_word z u b.1.1.1.0 in
    let fourth = low_word z u b.1.1.1.0 in
    let four : 4 + n ≡ suc (suc (suc (suc n))) = omega arith in
    let five : chunk_header_bytes + n ≡ suc (suc (suc (suc (suc n)))) = omega arith in
    let count : length rows ≡ get_or zs n 0 = length-ensembles (e_in xs) (s_in xs) (count_in xs) (after_header xs) ∙ ap (λ (k : ℕ). get_or xs k 0) four in
    let rest : (take n zs ++ (length rows ∷ [])) ++ after_header xs ≡ zs =
    append_assoc (take n zs) (length rows ∷ []) (after_header xs)
    ∙ (λ i. take n zs ++ (count i ∷ drop (five i) xs))
    ∙ sym (split_at zs n 0 (omega arith)) in
    λ i. first i ∷ second i ∷ third i ∷ fourth i ∷ rest i

-- a chunk that has its header, and whose ensembles pass
module _ (xs : List ℕ) (b : Bytes xs) (h : chunk_header_bytes + h_in xs ≤ length xs) (p : ensembles_in xs ≡ Ok tt) where
  rows : List EnsembleRow
  rows = ensemble_rows_at (e_in xs) (s_in xs) (count_in xs) (after_header xs)

  rows_are : RowsOf (e_in xs) (s_in xs) (count_in xs) (after_header xs)
  rows_are = rows_of (e_in xs) (s_in xs) (count_in xs) _ (after_header xs) (bytes_drop (chunk_header_bytes + h_in xs) xs b) p

  chunk_held : Held (chunk_fields (chunk_at xs))
  unfolding chunk_fields chunk_head chunk_at rows
  chunk_held =
      let b0 = get_d_byte xs 0 b in
      let b1 = get_d_byte xs 1 b in
      let b2 = get_d_byte xs 2 b in
      let b3 = get_d_byte xs 3 b in
      let r = rows_are in
      let stuffing : List ℕ = after (e_in xs) (s_in xs) (count_in xs) (after_header xs) in
      let count : length rows < 256 = omega (arith, length-ensembles (e_in xs) (s_in xs) (count_in xs) (after_header xs), get_d_byte xs (4 + h_in xs) b) in
      each_append InWidth (chunk_head (chunk_at xs)) (flat_map ensemble_fields rows ++ run stuffing)
      (each_join InWidth 8 (chunk_head (chunk_at xs)) (omega arith)
      (each_append InWidth (run (take (h_in xs) (drop 4 xs))) (field 8 (length rows) ∷ [])
      (bytes_take (h_in xs) (drop 4 xs) (bytes_drop 4 xs b))
      (count, tt)))
      (each_append InWidth (flat_map ensemble_fields rows) (run stuffing) r.held r.stuffing)

  pub chunk_formed : Formed (chunk_at xs)
  unfolding chunk_at
  chunk_formed =
      record {
        held = chunk_held;
        header = length-take-le (h_in xs) (drop 4 xs) (omega (arith, h, length-drop 4 xs));
        loops = rows_are.widened;
      }

  pub chunk_bytes : wire (chunk_at xs) ≡ xs
  unfolding chunk_row chunk_at
  chunk_bytes =
      wire-row (chunk_at xs) chunk_held
      ∙ ap (λ (t : List ℕ). chunk_front (chunk_at xs) ++ t) rows_are.written
      ∙ header_written xs b h

-- what the reader accepts, the layout carries
pub accepted-carried : {xs : List ℕ} {k : Kind} {m : ℕ} {l : FicList} → Bytes xs → Accepts xs k m l → Carries xs k m l
unfolding chunk_at
accepted-carried {xs} {k} {m} {l} b a =
    let p = header-passes xs a.passes in
    let bytes = chunk_bytes xs b p.0.fields p.1 in
    record {
      chunk = chunk_at xs;
      allowed = record { formed = chunk_formed xs b p.0.fields p.1; room = omega (arith, ap length bytes, p.0.longest) };
      bytes = bytes;
      major = p.0.major;
      kind = a.kind;
      minor = a.minor;
      list = list_of_lem xs ∙ a.list;
    }

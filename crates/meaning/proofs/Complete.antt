-- Every chunk of the layout is accepted, with exactly its list. Assumes nothing.
use mathlib.Core.Path.{◌≡◌, refl, sym, ap, ap₂, ◌∙◌, subst}
use mathlib.Core.Bool.{cond}
use mathlib.Core.List.{List, [], ◌∷◌, ◌++◌, map, flat_map, append_assoc}
use Prim.Native.Nat.{ℕ, suc, ◌+◌, ◌*◌, ◌/◌, ◌%◌, ◌≤◌, ◌<◌}
use native.Mathlib.Omega.{arith}
use lib.Dec.{eqb}
use lib.ListN.{length, get_or, drop, length-append}
use lib.Seq.{drop_at, get_or_at}
use Rattle.std.proofs.Common.{Ok}
use Rattle.octets.specs.Bits.{Field, field, InWidth, Held, run}
use Rattle.octets.specs.Each.{Each}
use Rattle.octets.specs.Word.{word_bytes}
use Rattle.octets.proofs.Laws.{each_left, each_right, word-high-low}
use Rattle.meaning.specs.declared.Kind.{Kind}
use Rattle.meaning.specs.Sizes.{longest_chunk, chunk_header_bytes, ensemble_bytes, service_bytes}
use Rattle.meaning.specs.Lists.{known, unknown, FicList, kind_of}
use Rattle.meaning.specs.Layout.{ServiceRow, service_fields, EnsembleRow, ensemble_head, ensemble_fields, Chunk, chunk_head, chunk_fields, Formed, service_of, known_in, ensemble_of, list_of, wire, Carries}
use Rattle.meaning.specs.Reading.{service_at, services_at, known_at, ensemble_at, ensembles_at, services_in, services_room, inside, past, ensembles_checks, major_in, h_in, e_in, s_in, count_in, after_header, list_in, Accepts}
use Rattle.meaning.proofs.Checks.{EnsemblePasses, ensemble_next, HeaderPasses, header_fine}
use Rattle.meaning.proofs.Rows.{service_row, service_third, ensemble_front, ensemble_row, ensemble_second, ensemble_third, chunk_first, chunk_second, chunk_front, chunk_row, wire-row}

-- ---- services

abbrev pub Extended : ℕ → ServiceRow → Type 0
Extended s v = length v.extension ≡ s

service-read : (v : ServiceRow) (rest : List ℕ) → Held (service_fields v) → service_at (service_row v ++ rest) ≡ service_of v
unfolding service_row service_fields
service-read v rest h =
    let m : service_third v / 8 % 4 ≡ v.multi = omega arith in
    let t : service_third v / 2 % 4 ≡ v.status = omega arith in
    let p : service_third v % 2 ≡ v.sp = omega arith in
    λ i. record { id = word-high-low v.id i; multi = m i; status = t i; sp = p i }

pub service-length : (s : ℕ) (v : ServiceRow) → Extended s v → length (service_row v) ≡ service_bytes + s
unfolding service_row
service-length s v x = omega arith

pub services-length : (s : ℕ) (vs : List ServiceRow) → Each (Extended s) vs → length (flat_map service_row vs) ≡ length vs * (service_bytes + s)
unfolding flat_map
services-length s [] h = omega arith
services-length s (v ∷ vs) h =
    omega (arith, length-append (service_row v) (flat_map service_row vs), service-length s v h.0, services-length s vs h.1)

services-read : (s : ℕ) (vs : List ServiceRow) (rest : List ℕ) → Held (flat_map service_fields vs) → Each (Extended s) vs → services_at s (length vs) (flat_map service_row vs ++ rest) ≡ map service_of vs
unfolding flat_map services_at
services-read s [] rest h x = refl
services-read s (v ∷ vs) rest h x =
    let more : List ℕ = flat_map service_row vs ++ rest in
    ap (λ (t : List ℕ). service_at t ∷ services_at s (length vs) (drop (service_bytes + s) t)) (append_assoc (service_row v) (flat_map service_row vs) rest)
    ∙ ap₂ ◌∷◌ (service-read v more (each_left InWidth (service_fields v) (flat_map service_fields vs) h))
    (ap (services_at s (length vs)) (drop_at (service_row v) more (service_bytes + s) (service-length s v x.0))
    ∙ services-read s vs rest (each_right InWidth (service_fields v) (flat_map service_fields vs) h) x.1)

-- ---- ensembles

abbrev pub Widened : ℕ → ℕ → EnsembleRow → Type 0
Widened e s x = (length x.extension ≡ e) × Each (Extended s) x.services

pub services_held : (x : EnsembleRow) → Held (ensemble_fields x) → (length x.services < 256) × Held (flat_map service_fields x.services)
unfolding ensemble_fields ensemble_head
services_held x h =
    let front = each_left InWidth (ensemble_head x) (flat_map service_fields x.services) h in (
      (each_right InWidth (run x.extension) (field 8 (length x.services) ∷ []) front.1.1.1.1.1.1.1).0,
      each_right InWidth (ensemble_head x) (flat_map service_fields x.services) h,
    )

-- an ensemble's row at the start of what is left, the extension lengths being e and s
module _ (e s : ℕ) (x : EnsembleRow) (w : Widened e s x) (rest : List ℕ) where
  row : List ℕ
  row = flat_map service_row x.services

  -- the row, split before its services
  row_split : ensemble_row x ++ rest ≡ ensemble_front x ++ (row ++ rest)
  unfolding ensemble_row row
  row_split = append_assoc (ensemble_front x) row rest

  pub front_length : length (ensemble_front x) ≡ ensemble_bytes + e
  unfolding ensemble_front
  front_length = omega (arith, w.0, length-append x.extension (length x.services ∷ []))

  pub services-counted : services_in e (ensemble_row x ++ rest) ≡ length x.services
  unfolding ensemble_front
  services-counted =
      let front : List ℕ = x.id ∷ ensemble_second x ∷ ensemble_third x ∷ x.extension in
      let count : ℕ = length x.services in
      ap (services_in e) (row_split ∙ append_assoc front (count ∷ []) (row ++ rest))
      ∙ get_or_at front count (row ++ rest) 0 (3 + e) (omega (arith, w.0))

  inside-row : inside e (ensemble_row x ++ rest) ≡ row ++ rest
  inside-row = ap (inside e) row_split ∙ drop_at (ensemble_front x) (row ++ rest) (ensemble_bytes + e) front_length

  room_row : services_room e s (ensemble_row x ++ rest) ≡ length row
  unfolding row
  room_row = ap (λ (n : ℕ). n * (service_bytes + s)) services-counted ∙ sym (services-length s x.services w.1)

  pub past_row : past e s (ensemble_row x ++ rest) ≡ rest
  past_row = ap₂ drop room_row inside-row ∙ drop_at row rest (length row) refl

  ensemble-passes-row : EnsemblePasses e s (ensemble_row x ++ rest)
  ensemble-passes-row =
      record {
        fields = omega (arith, front_length, ap length row_split, length-append (ensemble_front x) (row ++ rest));
        services = omega (arith, room_row, ap length inside-row, length-append row rest);
      }

  known_read : Held (ensemble_fields x) → known_at e s (ensemble_row x ++ rest) ≡ known_in x
  unfolding ensemble_fields ensemble_head ensemble_front ensemble_row row
  known_read h =
      let ys : List ℕ = ensemble_row x ++ rest in
      let slt : ensemble_third x / 128 ≡ x.slt = omega arith in
      let gat : ensemble_third x / 64 % 2 ≡ x.gat = omega arith in
      let eat : ensemble_third x / 32 % 2 ≡ x.eat = omega arith in
      let channel : ensemble_third x % 32 ≡ x.channel = omega arith in
      let services : services_at s (services_in e ys) (inside e ys) ≡ map service_of x.services =
      ap₂ (services_at s) services-counted inside-row ∙ services-read s x.services rest (services_held x h).1 w.1 in
      λ i. record { id = x.id; slt = slt i; gat = gat i; eat = eat i; channel = channel i; services = services i }

  ensemble-read : Held (ensemble_fields x) → ensemble_at e s (ensemble_row x ++ rest) ≡ ensemble_of x
  unfolding ensemble_fields ensemble_head ensemble_front ensemble_row
  ensemble-read h =
      let version : ensemble_second x % 32 ≡ x.version = omega arith in
      λ i. cond (eqb (version i) 0) (known (known_read h i)) (unknown (record { id = x.id; version = version i }))

-- the ensembles' rows, one after the other
module _ (e s : ℕ) where
  ensembles-read : (xs : List EnsembleRow) (rest : List ℕ) → Held (flat_map ensemble_fields xs) → Each (Widened e s) xs → ensembles_at e s (length xs) (flat_map ensemble_row xs ++ rest) ≡ map ensemble_of xs
  unfolding flat_map ensembles_at
  ensembles-read [] rest h w = refl
  ensembles-read (x ∷ xs) rest h w =
      let more : List ℕ = flat_map ensemble_row xs ++ rest in
      ap (ensembles_at e s (suc (length xs))) (append_assoc (ensemble_row x) (flat_map ensemble_row xs) rest)
      ∙ ap₂ ◌∷◌ (ensemble-read e s x w.0 more (each_left InWidth (ensemble_fields x) (flat_map ensemble_fields xs) h))
      (ap (ensembles_at e s (length xs)) (past_row e s x w.0 more)
      ∙ ensembles-read xs rest (each_right InWidth (ensemble_fields x) (flat_map ensemble_fields xs) h) w.1)

  ensembles_fine : (xs : List EnsembleRow) (at : ℕ) (rest : List ℕ) → Each (Widened e s) xs → ensembles_checks e s (length xs) at (flat_map ensemble_row xs ++ rest) ≡ Ok tt
  unfolding flat_map
  ensembles_fine [] at rest w = unfold ensembles_checks in refl
  ensembles_fine (x ∷ xs) at rest w =
      let more : List ℕ = flat_map ensemble_row xs ++ rest in
      ap (ensembles_checks e s (suc (length xs)) at) (append_assoc (ensemble_row x) (flat_map ensemble_row xs) rest)
      ∙ ensemble_next e s (length xs) at (ensemble_row x ++ more) (ensemble-passes-row e s x w.0 more)
      ∙ ap (ensembles_checks e s (length xs) _) (past_row e s x w.0 more)
      ∙ ensembles_fine xs _ rest w.1

-- ---- chunks

-- the row of a chunk whose fields and extensions agree
module _ (c : Chunk) (t : Formed c) where
  abbrev xs : List ℕ
  xs = chunk_row c

  unfoldable pub rest : List ℕ
  rest = flat_map ensemble_row c.ensembles ++ c.stuffing

  pub major-read : major_in xs ≡ c.major
  unfolding chunk_row chunk_front chunk_fields chunk_head
  major-read = let held = t.held in omega arith

  pub h-read : h_in xs ≡ c.h
  unfolding chunk_row chunk_front chunk_fields chunk_head
  h-read = let held = t.held in omega arith

  pub e-read : e_in xs ≡ c.e
  unfolding chunk_row chunk_front chunk_fields chunk_head
  e-read = let held = t.held in omega arith

  pub s_read : s_in xs ≡ c.s
  unfolding chunk_row chunk_front chunk_fields chunk_head
  s_read = let held = t.held in omega arith

  pub front_length_read : length (chunk_front c) ≡ chunk_header_bytes + c.h
  unfolding chunk_front
  front_length_read = omega (arith, t.header, length-append c.extension (length c.ensembles ∷ []))

  pub count_read : count_in xs ≡ length c.ensembles
  unfolding chunk_row chunk_front rest
  count_read =
      let before : List ℕ = chunk_first c ∷ chunk_second c ∷ word_bytes c.stream ++ c.extension in
      let count : ℕ = length c.ensembles in
      ap (λ (k : ℕ). get_or xs (4 + k) 0) h-read
      ∙ ap (λ (t : List ℕ). get_or t (4 + c.h) 0) (append_assoc before (count ∷ []) rest)
      ∙ get_or_at before count rest 0 (4 + c.h) (omega (arith, t.header))

  pub after_header-read : after_header xs ≡ rest
  unfolding chunk_row rest
  after_header-read =
      ap (λ (k : ℕ). drop (chunk_header_bytes + k) xs) h-read
      ∙ drop_at (chunk_front c) rest (chunk_header_bytes + c.h) front_length_read

  pub ensembles_held : (length c.ensembles < 256) × Held (flat_map ensemble_fields c.ensembles)
  unfolding chunk_fields chunk_head
  ensembles_held =
      let payload : List Field = flat_map ensemble_fields c.ensembles ++ run c.stuffing in
      let front = each_left InWidth (chunk_head c) payload t.held in (
        (each_right InWidth (run c.extension) (field 8 (length c.ensembles) ∷ []) front.1.1.1.1.1.1.1.1).0,
        each_left InWidth (flat_map ensemble_fields c.ensembles) (run c.stuffing) (each_right InWidth (chunk_head c) payload t.held),
      )

  list_read : list_in xs ≡ list_of c
  unfolding list_in chunk_row chunk_front rest
  list_read =
      let ensembles : ensembles_at (e_in xs) (s_in xs) (count_in xs) (after_header xs) ≡ map ensemble_of c.ensembles =
      (λ i. ensembles_at (e-read i) (s_read i) (count_read i) (after_header-read i))
      ∙ ensembles-read c.e c.s c.ensembles c.stuffing ensembles_held.1 t.loops in
      λ i. record { stream = word-high-low c.stream i; ensembles = ensembles i }

  chunk-passes : c.major ≡ 0 → length (wire c) ≤ longest_chunk → HeaderPasses xs
  unfolding chunk_row chunk_front chunk_fields chunk_head
  chunk-passes m r =
      let held = t.held in
      record {
        longest = omega (arith, r, ap length (wire-row c t.held));
        major = major-read ∙ m;
        fields = omega (arith, h-read, front_length_read, length-append (chunk_front c) (flat_map ensemble_row c.ensembles ++ c.stuffing));
      }

  payload_fine : (at : ℕ) → ensembles_checks (e_in xs) (s_in xs) (count_in xs) at (after_header xs) ≡ Ok tt
  unfolding rest
  payload_fine at =
      (λ i. ensembles_checks (e-read i) (s_read i) (count_read i) at (after_header-read i))
      ∙ ensembles_fine c.e c.s c.ensembles at c.stuffing t.loops

  chunk_accepts : c.major ≡ 0 → length (wire c) ≤ longest_chunk → Accepts xs (kind_of c.current) c.minor (list_of c)
  unfolding chunk_row chunk_front chunk_fields chunk_head
  chunk_accepts m r =
      let held = t.held in
      let current : get_or xs 1 0 % 2 ≡ c.current = omega arith in
      record { passes = header_fine xs (chunk-passes m r) (payload_fine _); kind = ap kind_of current; minor = omega arith; list = list_read }

-- what the layout carries, the reader accepts
pub carried-accepted : {xs : List ℕ} {k : Kind} {m : ℕ} {l : FicList} → Carries xs k m l → Accepts xs k m l
carried-accepted {xs} {k} {m} {l} h =
    let c = h.chunk in
    let a = chunk_accepts c h.allowed.formed h.major h.allowed.room in
    subst (λ (t : List ℕ). Accepts t k m l) (sym (wire-row c h.allowed.formed.held) ∙ h.bytes)
    (record { passes = a.passes; kind = a.kind ∙ h.kind; minor = a.minor ∙ h.minor; list = a.list ∙ h.list })

-- The chunk that the oldest edition sends: it carries its list in the fewest bytes, it may be stuffed, and a chunk of the oldest edition is
-- that one with its stuffing. Assumes nothing.
use mathlib.Core.Path.{◌≡◌, refl, sym, ap, ap₂, ◌∙◌, subst}
use mathlib.Core.Bool.{true}
use mathlib.Core.List.{List, [], ◌∷◌, ◌++◌, map, flat_map, append_assoc, map-append}
use Prim.Native.Nat.{ℕ, zero, suc, ◌+◌, ◌*◌, ◌≤◌, ◌<◌}
use native.Mathlib.Omega.{arith}
use borrow.Author.Tests.{eq-eqb, ne_eqb, eqb-false}
use lib.Dec.{eqb}
use lib.ListN.{length, length-append, length-map, drop_of_length-le}
use Rattle.octets.specs.Bits.{Field, InWidth, Held, run, Bytes, bytes_of}
use Rattle.octets.specs.Each.{Each}
use Rattle.octets.proofs.Laws.{either, each_append, each_join, each_left, each_right, each_map, held_rows, bytes_made, makes_run, bytes-bytes_of}
use Rattle.meaning.specs.declared.Kind.{Kind}
use Rattle.meaning.specs.declared.Kind.TheVariants.{This, Next}
use Rattle.meaning.specs.Sizes.{longest_chunk, ensemble_bytes, service_bytes}
use Rattle.meaning.specs.Lists.{Service, Ensemble, known, unknown, is_known, ensemble_services, FicList, kind_of, current_of, services_of, AllKnown}
use Rattle.meaning.specs.Layout.{ServiceRow, service_fields, EnsembleRow, ensemble_head, ensemble_fields, Chunk, chunk_head, chunk_fields, wire, service_of, known_in, unknown_in, ensemble_of, list_of, Carries}
use Rattle.meaning.specs.Plain.{plain_service, plain_ensemble, plain, OfItsSort, Fits, plain_length, Oldest, VersionsZero}
use Rattle.meaning.proofs.Rows.{service_row, ensemble_front, ensemble_row, chunk_front, chunk_row, chunk_makes, wire-row}
use Rattle.meaning.proofs.Complete.{Extended, services-length, Widened, services_held, ensembles_held, carried-accepted}
use Rattle.meaning.proofs.Lengths.{list_room}

-- ---- the two kinds

kind-current : (k : Kind) → kind_of (current_of k) ≡ k
kind-current This = refl
kind-current Next = refl

pub current-kind : (n : ℕ) → n < 2 → current_of (kind_of n) ≡ n
current-kind zero h = refl
current-kind (suc zero) h = refl
current-kind (suc (suc n)) h = absurd (omega arith)

pub current_bit : (k : Kind) → current_of k ≤ 1
current_bit This = omega arith
current_bit Next = omega arith

pub plain_held : (k : Kind) (l : FicList) → Fits l → Held (chunk_fields (plain k l))
unfolding chunk_fields chunk_head
plain_held This l h = h.0
plain_held Next l h = let held = h.0 in each_join InWidth 8 (chunk_fields (plain Next l)) (omega arith) held.1.1.1.1.1.1.1.1

-- ---- how long it is

length-ensembles : (es : List Ensemble) → length (flat_map ensemble_row (map plain_ensemble es)) ≡ ensemble_bytes * length es + service_bytes * length (flat_map ensemble_services es)
unfolding flat_map ensemble_row ensemble_front
length-ensembles [] = refl
length-ensembles (unknown u ∷ es) = omega (arith, length-ensembles es)
length-ensembles (known e ∷ es) =
    omega (
      arith,
      length-append (flat_map service_row (map plain_service e.services)) (flat_map ensemble_row (map plain_ensemble es)),
      length-append e.services (flat_map ensemble_services es),
      services-length 0 (map plain_service e.services) (each_map (Extended 0) plain_service (λ v. refl) e.services),
      length-map e.services plain_service,
      length-ensembles es,
    )

pub length-plain : (k : Kind) (l : FicList) → Fits l → length (wire (plain k l)) ≡ plain_length l
unfolding chunk_row chunk_front services_of
length-plain k l h =
    let rows : List ℕ = flat_map ensemble_row (map plain_ensemble l.ensembles) in
    omega (arith, ap length (wire-row (plain k l) (plain_held k l h)), length-append rows [], length-ensembles l.ensembles)

-- ---- it carries its list

services-plain : (vs : List Service) → map service_of (map plain_service vs) ≡ vs
services-plain [] = refl
services-plain (v ∷ vs) = ap (λ (t : List Service). v ∷ t) (services-plain vs)

ensemble-plain : (e : Ensemble) → OfItsSort e → ensemble_of (plain_ensemble e) ≡ e
ensemble-plain (known e) o =
    let services = services-plain e.services in
    λ i. known (record { id = e.id; slt = e.slt; gat = e.gat; eat = e.eat; channel = e.channel; services = services i })
ensemble-plain (unknown u) o = simp (ne_eqb u.version 0 o) refl

ensembles-plain : (es : List Ensemble) → Each OfItsSort es → map ensemble_of (map plain_ensemble es) ≡ es
ensembles-plain [] o = refl
ensembles-plain (e ∷ es) o = ap₂ ◌∷◌ (ensemble-plain e o.0) (ensembles-plain es o.1)

list-plain : (k : Kind) (l : FicList) → Each OfItsSort l.ensembles → list_of (plain k l) ≡ l
list-plain k l o =
    let ensembles = ensembles-plain l.ensembles o in
    λ i. record { stream = l.stream; ensembles = ensembles i }

plain_widened : (e : Ensemble) → Widened 0 0 (plain_ensemble e)
plain_widened (known e) = (refl, each_map (Extended 0) plain_service (λ v. refl) e.services)
plain_widened (unknown u) = (refl, tt)

pub plain_carried : (k : Kind) (l : FicList) → Fits l → plain_length l ≤ longest_chunk → Carries (wire (plain k l)) k 0 l
plain_carried k l h r =
    record {
      chunk = plain k l;
      allowed =
          record {
            formed =
                record {
                  held = plain_held k l h;
                  header = refl;
                  loops = each_map (Widened 0 0) plain_ensemble plain_widened l.ensembles;
                };
            room = omega (arith, length-plain k l h);
          };
      bytes = refl;
      major = refl;
      kind = kind-current k;
      minor = refl;
      list = list-plain k l h.1;
    }

-- ---- what is carried

pub bytes-carried : {xs : List ℕ} {k : Kind} {m : ℕ} {l : FicList} → Carries xs k m l → Bytes xs
unfolding wire
bytes-carried h = subst (λ (t : List ℕ). Bytes t) h.bytes (bytes-bytes_of (chunk_fields h.chunk))

pub carried_room : {xs : List ℕ} {k : Kind} {m : ℕ} {l : FicList} → Carries xs k m l → plain_length l ≤ length xs
carried_room {xs} h =
    let a = carried-accepted h in
    subst (λ (t : FicList). plain_length t ≤ length xs) a.list (list_room xs a.passes)

-- the rows of a loop made anew from what they carry: as many, and each fits still
length-map-map : {A B : Type 0} (f : B → A) (g : A → B) (rs : List A) → length (map f (map g rs)) ≡ length rs
length-map-map f g rs = length-map (map g rs) f ∙ length-map rs g

service-fits : (v : ServiceRow) → Held (service_fields v) → Held (service_fields (plain_service (service_of v)))
unfolding service_fields
service-fits v h = each_join InWidth 5 (service_fields (plain_service (service_of v))) (omega arith) tt

known-fits : (x : EnsembleRow) → Held (ensemble_fields x) → Held (ensemble_fields (plain_ensemble (known (known_in x))))
unfolding ensemble_fields ensemble_head
known-fits x h =
    let held = services_held x h in
    each_join InWidth 7 (ensemble_fields (plain_ensemble (known (known_in x)))) (omega arith)
    (omega (arith, length-map-map plain_service service_of x.services), held_rows service_fields plain_service service_of service-fits x.services held.1)

unknown-fits : (x : EnsembleRow) → Held (ensemble_fields x) → Held (ensemble_fields (plain_ensemble (unknown (unknown_in x))))
unfolding ensemble_fields ensemble_head flat_map
unknown-fits x h = omega arith

ensemble-fits : (x : EnsembleRow) → Held (ensemble_fields x) → Held (ensemble_fields (plain_ensemble (ensemble_of x)))
ensemble-fits x h = either (eqb x.version 0) (λ q. simp q (known-fits x h)) (λ q. simp q (unknown-fits x h))

ensemble_sorted : (x : EnsembleRow) → OfItsSort (ensemble_of x)
ensemble_sorted x = either (eqb x.version 0) (λ q. simp q tt) (λ q. simp q (eqb-false x.version 0 q))

pub carried_fitting : {xs : List ℕ} {k : Kind} {m : ℕ} {l : FicList} → Carries xs k m l → Fits l
unfolding chunk_fields chunk_head
carried_fitting h =
    let c = h.chunk in
    let own = h.allowed.formed.held in
    let held = ensembles_held c h.allowed.formed in
    let rows : List EnsembleRow = map plain_ensemble (map ensemble_of c.ensembles) in
    let fits : Held (flat_map ensemble_fields rows) = held_rows ensemble_fields plain_ensemble ensemble_of ensemble-fits c.ensembles held.1 in
    subst (λ (t : FicList). Fits t) h.list (
      each_join InWidth 8 (chunk_fields (plain This (list_of c))) (omega arith)
          (omega (arith, length-map-map plain_ensemble ensemble_of c.ensembles), each_append InWidth (flat_map ensemble_fields rows) [] fits tt),
      each_map OfItsSort ensemble_of ensemble_sorted c.ensembles,
    )

-- ---- stuffing

abbrev stuffed : Chunk → List ℕ → Chunk
stuffed c fill =
    record {
      major = c.major;
      minor = c.minor;
      h = c.h;
      e = c.e;
      s = c.s;
      reserved = c.reserved;
      current = c.current;
      stream = c.stream;
      extension = c.extension;
      ensembles = c.ensembles;
      stuffing = c.stuffing ++ fill;
    }

fields_stuffed : (c : Chunk) (fill : List ℕ) → chunk_fields (stuffed c fill) ≡ chunk_fields c ++ run fill
unfolding chunk_fields chunk_head
fields_stuffed c fill = simp (map-append, append_assoc) refl

wire_stuffed : (c : Chunk) (fill : List ℕ) → Held (chunk_fields c ++ run fill) → wire (stuffed c fill) ≡ wire c ++ fill
unfolding wire
wire_stuffed c fill h =
    let own = each_left InWidth (chunk_fields c) (run fill) h in
    ap bytes_of (fields_stuffed c fill)
    ∙ (chunk_makes c).made own (run fill)
    ∙ ap₂ ◌++◌ (sym (wire-row c own)) (bytes_made (makes_run fill) (each_right InWidth (chunk_fields c) (run fill) h))

pub stuffed_carried : {xs : List ℕ} {k : Kind} {m : ℕ} {l : FicList} → Carries xs k m l → (fill : List ℕ) → Bytes fill → length (xs ++ fill) ≤ longest_chunk → Carries (xs ++ fill) k m l
stuffed_carried {xs} h fill b r =
    let c = h.chunk in
    let held : Held (chunk_fields c ++ run fill) = each_append InWidth (chunk_fields c) (run fill) h.allowed.formed.held b in
    let bytes : wire (stuffed c fill) ≡ xs ++ fill = wire_stuffed c fill held ∙ ap (λ (t : List ℕ). t ++ fill) h.bytes in
    record {
      chunk = stuffed c fill;
      allowed =
          record {
            formed =
                record {
                  held = subst (λ (fs : List Field). Held fs) (sym (fields_stuffed c fill)) held;
                  header = h.allowed.formed.header;
                  loops = h.allowed.formed.loops;
                };
            room = omega (arith, ap length bytes);
          };
      bytes = bytes;
      major = h.major;
      kind = h.kind;
      minor = h.minor;
      list = h.list;
    }

-- ---- the oldest edition: with no extensions and all reserved bits ones, a row is the plain row of what it carries

nil_of_length : (n : ℕ) (ys : List ℕ) → n ≡ 0 → length ys ≡ n → ys ≡ []
nil_of_length n ys z e = drop_of_length-le ys {i = 0} (omega arith)

services_oldest : (s : ℕ) (vs : List ServiceRow) → s ≡ 0 → Each (Extended s) vs → Each (λ v. v.reserved ≡ 7) vs → vs ≡ map plain_service (map service_of vs)
services_oldest s [] z x r = refl
services_oldest s (v ∷ vs) z x r =
    let extension = nil_of_length s v.extension z x.0 in
    let more = services_oldest s vs z x.1 r.1 in
    λ i. record { id = v.id; reserved = r.0 i; multi = v.multi; status = v.status; sp = v.sp; extension = extension i } ∷ more i

version-known : (x : EnsembleRow) → x.version ≡ 0 → ensemble_of x ≡ known (known_in x)
version-known x v = simp (eq-eqb x.version 0 v) refl

ensembles_oldest : (c : Chunk) (o : Oldest c) (xs : List EnsembleRow) → Each (Widened c.e c.s) xs → Each (λ x. x.version ≡ 0) xs → Each (λ x. (x.reserved ≡ 7) × Each (λ v. v.reserved ≡ 7) x.services) xs → xs ≡ map plain_ensemble (map ensemble_of xs)
ensembles_oldest c o [] w v r = refl
ensembles_oldest c o (x ∷ xs) w v r =
    let extension = nil_of_length c.e x.extension o.ensemble w.0.0 in
    let services = services_oldest c.s x.services o.service w.0.1 r.0.1 in
    let more = ensembles_oldest c o xs w.1 v.1 r.1 in
    let own : x ≡ plain_ensemble (known (known_in x)) =
    λ i.
    record {
      id = x.id;
      reserved = r.0.0 i;
      version = v.0 i;
      slt = x.slt;
      gat = x.gat;
      eat = x.eat;
      channel = x.channel;
      extension = extension i;
      services = services i;
    } in
    ap₂ ◌∷◌ (own ∙ ap plain_ensemble (sym (version-known x v.0))) more

chunk_oldest : {xs : List ℕ} {k : Kind} {m : ℕ} {l : FicList} (h : Carries xs k m l) → Oldest h.chunk → VersionsZero h.chunk → h.chunk ≡ stuffed (plain k l) h.chunk.stuffing
unfolding chunk_fields chunk_head
chunk_oldest h o v =
    let c = h.chunk in
    let held = h.allowed.formed.held in
    let current = sym (current-kind c.current (omega arith)) ∙ ap current_of h.kind in
    let extension = nil_of_length c.h c.extension o.header h.allowed.formed.header in
    let ensembles =
    ensembles_oldest c o c.ensembles h.allowed.formed.loops v o.loops
    ∙ ap (λ (t : FicList). map plain_ensemble t.ensembles) h.list in
    λ i.
    record {
      major = h.major i;
      minor = o.minor i;
      h = o.header i;
      e = o.ensemble i;
      s = o.service i;
      reserved = o.reserved i;
      current = current i;
      stream = (h.list i).stream;
      extension = extension i;
      ensembles = ensembles i;
      stuffing = c.stuffing;
    }

pub oldest_plain : {xs : List ℕ} {k : Kind} {m : ℕ} {l : FicList} (h : Carries xs k m l) → Oldest h.chunk → VersionsZero h.chunk → xs ≡ wire (plain k l) ++ h.chunk.stuffing
oldest_plain {k = k} {l = l} h o v =
    let fill = h.chunk.stuffing in
    let same = chunk_oldest h o v in
    sym h.bytes
    ∙ ap wire same
    ∙ wire_stuffed (plain k l) fill (subst (λ (fs : List Field). Held fs) (ap chunk_fields same ∙ fields_stuffed (plain k l) fill) h.allowed.formed.held)

-- ---- versions: all 0 in the chunk, all known in its list

each_known : (xs : List EnsembleRow) → Each (λ x. x.version ≡ 0) xs → Each (λ e. is_known e ≡ true) (map ensemble_of xs)
each_known [] v = tt
each_known (x ∷ xs) v = (ap is_known (version-known x v.0), each_known xs v.1)

pub carried-known : {xs : List ℕ} {k : Kind} {m : ℕ} {l : FicList} (h : Carries xs k m l) → VersionsZero h.chunk → AllKnown l
carried-known h v = subst (λ (t : FicList). AllKnown t) h.list (each_known h.chunk.ensembles v)

-- what a row says inside, its version not being 0, is no part of the list
pub inside_disregarded : (x y : EnsembleRow) → (x.version ≡ 0 → ⊥) → x.id ≡ y.id → x.version ≡ y.version → ensemble_of x ≡ ensemble_of y
inside_disregarded x y other same_id same_version =
    let rest : (y.version ≡ 0) → ⊥ = λ z. other (same_version ∙ z) in
    simp (ne_eqb x.version 0 other, ne_eqb y.version 0 rest) (λ i. unknown (record { id = same_id i; version = same_version i }))

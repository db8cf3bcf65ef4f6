-- A chunk is its things, laid end to end; and the checks on any beginning of a chunk are a walk over the chunk's things. Assumes nothing.
use mathlib.Core.Path.{◌≡◌, refl, sym, ap, ap₂, ◌∙◌}
use mathlib.Core.List.{List, [], ◌∷◌, ◌++◌, map, flat_map, append_assoc}
use Prim.Native.Nat.{ℕ, suc, ◌+◌, ◌-◌, ◌*◌, ◌/◌, ◌%◌, ◌≤◌, ◌<◌}
use native.Mathlib.Nat.{div-eq_of_lt, div-eq-sub-div}
use native.Mathlib.Omega.{arith}
use borrow.Author.Tests.{lt-ltb, le-ltb, ltb-true, ltb-false}
use lib.Dec.{ltb}
use lib.ListN.{length, get_or, drop, length-drop, get_or-append}
use lib.Seq.{drop-append-le}
use Rattle.std.proofs.Common.{Result, Ok, Err}
use Rattle.octets.specs.Bits.{Field, InWidth, Held, run}
use Rattle.octets.specs.Each.{Each}
use Rattle.octets.specs.Checks.{check}
use Rattle.octets.proofs.Laws.{either, each_left, each_right, bytes_made}
use Rattle.meaning.specs.declared.Refusal.{Refusal}
use Rattle.meaning.specs.declared.Part.TheVariants.{Header, EnsembleFields, SingleService}
use Rattle.meaning.specs.declared.Refusal.TheVariants.{EndsEarly}
use Rattle.meaning.specs.Sizes.{longest_chunk, chunk_header_bytes, ensemble_bytes, service_bytes}
use Rattle.meaning.specs.Layout.{ServiceRow, service_fields, EnsembleRow, ensemble_head, ensemble_fields, Chunk, chunk_head, chunk_fields, wire, Formed}
use Rattle.meaning.specs.Ends.{Thing, thing_bytes, service_thing, ensemble_things, things}
use Rattle.meaning.specs.Reading.{checks, ensembles_in, ensembles_checks, major_in, h_in, e_in, s_in, count_in, whole_services, services_in, services_room, inside, past}
use Rattle.meaning.proofs.Checks.{ensemble_next, ensemble-short, ensemble_crowded, checks_bare, checks-cut, checks-header}
use Rattle.meaning.proofs.Rows.{service_row, service_makes, ensemble_row, ensemble_front_makes, chunk_front, chunk_front_makes, chunk_row, wire-row}
use Rattle.meaning.proofs.Complete.{Extended, service-length, Widened, services_held, front_length, services-counted, past_row, rest, major-read, h-read, e-read, s_read, front_length_read, count_read, after_header-read, ensembles_held}

-- ---- a chunk is its things, laid end to end, and its stuffing

flat_map-append : {A B : Type 0} (f : A → List B) (xs ys : List A) → flat_map f (xs ++ ys) ≡ flat_map f xs ++ flat_map f ys
unfolding flat_map
flat_map-append f [] ys = refl
flat_map-append f (x ∷ xs) ys = ap (λ (t : List _). f x ++ t) (flat_map-append f xs ys) ∙ sym (append_assoc (f x) (flat_map f xs) (flat_map f ys))

services-bytes : (vs : List ServiceRow) → Held (flat_map service_fields vs) → flat_map thing_bytes (map service_thing vs) ≡ flat_map service_row vs
unfolding flat_map
services-bytes [] h = refl
services-bytes (v ∷ vs) h =
    ap₂ ◌++◌ (bytes_made (service_makes v) (each_left InWidth (service_fields v) (flat_map service_fields vs) h))
    (services-bytes vs (each_right InWidth (service_fields v) (flat_map service_fields vs) h))

ensembles-bytes : (es : List EnsembleRow) → Held (flat_map ensemble_fields es) → flat_map thing_bytes (flat_map ensemble_things es) ≡ flat_map ensemble_row es
unfolding flat_map ensemble_things ensemble_fields ensemble_row
ensembles-bytes [] h = refl
ensembles-bytes (x ∷ es) h =
    let own = each_left InWidth (ensemble_fields x) (flat_map ensemble_fields es) h in
    let front = bytes_made (ensemble_front_makes x) (each_left InWidth (ensemble_head x) (flat_map service_fields x.services) own) in
    let services = services-bytes x.services (each_right InWidth (ensemble_head x) (flat_map service_fields x.services) own) in
    flat_map-append thing_bytes (ensemble_things x) (flat_map ensemble_things es)
    ∙ ap₂ ◌++◌ (ap₂ ◌++◌ front services) (ensembles-bytes es (each_right InWidth (ensemble_fields x) (flat_map ensemble_fields es) h))

pub wire_things : (c : Chunk) → Formed c → wire c ≡ flat_map thing_bytes (things c) ++ c.stuffing
unfolding flat_map things chunk_fields chunk_row
wire_things c t =
    let payload : List Field = flat_map ensemble_fields c.ensembles ++ run c.stuffing in
    let front = bytes_made (chunk_front_makes c) (each_left InWidth (chunk_head c) payload t.held) in
    let ensembles = ensembles-bytes c.ensembles (ensembles_held c t).1 in
    wire-row c t.held
    ∙ sym (append_assoc (chunk_front c) (flat_map ensemble_row c.ensembles) c.stuffing)
    ∙ (λ i. (sym front i ++ sym ensembles i) ++ c.stuffing)

-- ---- the walk

-- the first of the things ts, from the offset at on, that does not end by the offset n
pub walked : ℕ → List Thing → ℕ → Result Unit Refusal
walked at [] n = Ok tt
walked at (t ∷ ts) n =
    check (ltb n (at + length (thing_bytes t))) (Err (EndsEarly t.part at))
    (walked (at + length (thing_bytes t)) ts n)

pub walked_none : (at n : ℕ) → walked at [] n ≡ Ok tt
unfolding walked
walked_none at n = refl

pub walked_cut : (at : ℕ) (t : Thing) (ts : List Thing) (n : ℕ) → n < at + length (thing_bytes t) → walked at (t ∷ ts) n ≡ Err (EndsEarly t.part at)
unfolding walked
walked_cut at t ts n h = simp (lt-ltb _ _ h) refl

pub walked_whole : (at : ℕ) (t : Thing) (ts : List Thing) (n : ℕ) → at + length (thing_bytes t) ≤ n → walked at (t ∷ ts) n ≡ walked (at + length (thing_bytes t)) ts n
unfolding walked
walked_whole at t ts n h = simp (le-ltb _ _ h) refl

-- ---- services, s extension bytes each, with other things behind them

module _ (s : ℕ) (ts : List Thing) (n : ℕ) where
  abbrev width : ℕ
  width = service_bytes + s

  service_width : (v : ServiceRow) → Held (service_fields v) → Extended s v → length (thing_bytes (service_thing v)) ≡ width
  service_width v h x = ap length (bytes_made (service_makes v) h) ∙ service-length s v x

  services_whole : (at : ℕ) (vs : List ServiceRow) → Held (flat_map service_fields vs) → Each (Extended s) vs → at + length vs * width ≤ n → walked at (map service_thing vs ++ ts) n ≡ walked (at + length vs * width) ts n
  unfolding flat_map
  services_whole at [] h x r = let none : at ≡ at + 0 * width = omega arith in ap (λ (k : ℕ). walked k ts n) none
  services_whole at (v ∷ vs) h x r =
      let own = service_width v (each_left InWidth (service_fields v) (flat_map service_fields vs) h) x.0 in
      let held = each_right InWidth (service_fields v) (flat_map service_fields vs) h in
      let same : at + length (thing_bytes (service_thing v)) + length vs * width ≡ at + suc (length vs) * width = omega (arith, own) in
      walked_whole at (service_thing v) (map service_thing vs ++ ts) n (omega (arith, own))
      ∙ services_whole (at + length (thing_bytes (service_thing v))) vs held x.1 (omega (arith, same))
      ∙ ap (λ (k : ℕ). walked k ts n) same

  -- a service that fits whole, and those behind it
  one_more : (at w : ℕ) → at + w ≤ n → w ≡ width → let next = at + w in next + whole_services s (n - next) ≡ at + whole_services s (n - at)
  one_more at w h own =
      let next : ℕ = at + w in
      let left : n - at - width ≡ n - next = omega arith in
      let more : (n - at) / width ≡ (n - next) / width + 1 = div-eq-sub-div (omega arith) (omega arith) ∙ ap (λ (k : ℕ). k / width + 1) left in
      let wide : next + (n - next) / width * width ≡ at + ((n - next) / width + 1) * width = omega arith in
      wide ∙ ap (λ (k : ℕ). at + k * width) (sym more)

  services-cut : (at : ℕ) (vs : List ServiceRow) → Held (flat_map service_fields vs) → Each (Extended s) vs → at ≤ n → n < at + length vs * width → walked at (map service_thing vs ++ ts) n ≡ Err (EndsEarly SingleService (at + whole_services s (n - at)))
  unfolding flat_map
  services-cut at [] h x l r = absurd (omega arith)
  services-cut at (v ∷ vs) h x l r =
      let own = service_width v (each_left InWidth (service_fields v) (flat_map service_fields vs) h) x.0 in
      let held = each_right InWidth (service_fields v) (flat_map service_fields vs) h in
      let next : ℕ = at + length (thing_bytes (service_thing v)) in
      either (ltb n next)
      (λ q.
      let short = ltb-true n next q in
      let none : (n - at) / width ≡ 0 = div-eq_of_lt (omega (arith, own)) in
      let here : at ≡ at + 0 * width = omega arith in
      walked_cut at (service_thing v) (map service_thing vs ++ ts) n short
      ∙ ap (λ (k : ℕ). Err (EndsEarly SingleService k)) (here ∙ ap (λ (k : ℕ). at + k * width) (sym none)))
      (λ q.
      let whole = ltb-false n next q in
      walked_whole at (service_thing v) (map service_thing vs ++ ts) n whole
      ∙ services-cut next vs held x.1 whole (omega (arith, own))
      ∙ ap (λ (k : ℕ). Err (EndsEarly SingleService k)) (one_more at _ whole own))

-- ---- ensembles

abbrev head_thing : EnsembleRow → Thing
head_thing x = record { part = EnsembleFields; fields = ensemble_head x }

module _ (e s : ℕ) where
  abbrev room : EnsembleRow → ℕ
  room x = length x.services * (service_bytes + s)

  -- ys begins as the row of an ensemble x does, and has its fields
  module _ (x : EnsembleRow) (w : Widened e s x) (ys lacking more : List ℕ) (is : ys ++ lacking ≡ ensemble_row x ++ more) (h : ensemble_bytes + e ≤ length ys) where
    count_begun : services_in e ys ≡ length x.services
    count_begun =
        sym (get_or-append ys lacking 0 (3 + e) (omega arith)) ∙ ap (services_in e) is ∙ services-counted e s x w more

    room_begun : services_room e s ys ≡ room x
    room_begun = ap (λ (n : ℕ). n * (service_bytes + s)) count_begun

    past_begun : services_room e s ys ≤ length (inside e ys) → past e s ys ++ lacking ≡ more
    past_begun r =
        let inner : inside e (ys ++ lacking) ≡ inside e ys ++ lacking = drop-append-le (ensemble_bytes + e) ys lacking h in
        let same : services_room e s (ys ++ lacking) ≡ services_room e s ys =
        ap (λ (n : ℕ). n * (service_bytes + s)) (get_or-append ys lacking 0 (3 + e) (omega arith)) in
        sym (drop-append-le (services_room e s ys) (inside e ys) lacking r)
        ∙ ap₂ drop (sym same) (sym inner)
        ∙ ap (past e s) is
        ∙ past_row e s x w more

  head_width : (x : EnsembleRow) → Held (ensemble_fields x) → Widened e s x → length (thing_bytes (head_thing x)) ≡ ensemble_bytes + e
  unfolding ensemble_fields
  head_width x h w =
      ap length (bytes_made (ensemble_front_makes x) (each_left InWidth (ensemble_head x) (flat_map service_fields x.services) h))
      ∙ front_length e s x w []

  ensembles_walked : (es : List EnsembleRow) → Held (flat_map ensemble_fields es) → Each (Widened e s) es → (at : ℕ) (ys lacking rest : List ℕ) → ys ++ lacking ≡ flat_map ensemble_row es ++ rest → ensembles_checks e s (length es) at ys ≡ walked at (flat_map ensemble_things es) (at + length ys)
  unfolding flat_map ensemble_things
  ensembles_walked [] h w at ys lacking rest is = unfold ensembles_checks walked in refl
  ensembles_walked (x ∷ es) h w at ys lacking rest is =
      let more : List ℕ = flat_map ensemble_row es ++ rest in
      let begun : ys ++ lacking ≡ ensemble_row x ++ more = is ∙ append_assoc (ensemble_row x) (flat_map ensemble_row es) rest in
      let own = each_left InWidth (ensemble_fields x) (flat_map ensemble_fields es) h in
      let others = each_right InWidth (ensemble_fields x) (flat_map ensemble_fields es) h in
      let held = (services_held x own).1 in
      let ts : List Thing = flat_map ensemble_things es in
      let n : ℕ = at + length ys in
      let start : ℕ = at + length (thing_bytes (head_thing x)) in
      let wide : start ≡ at + (ensemble_bytes + e) = ap (λ (k : ℕ). at + k) (head_width x own w.0) in
      either (ltb (length ys) (ensemble_bytes + e))
      (λ q.
      let short = ltb-true _ _ q in
      ensemble-short e s (length es) at ys short ∙ sym (walked_cut at (head_thing x) (map service_thing x.services ++ ts) n (omega (arith, wide))))
      (λ q.
      let fields = ltb-false _ _ q in
      let size = room_begun x w.0 ys lacking more begun fields in
      let inner : length (inside e ys) ≡ length ys - (ensemble_bytes + e) = length-drop (ensemble_bytes + e) ys in
      let there = walked_whole at (head_thing x) (map service_thing x.services ++ ts) n (omega (arith, wide)) in
      either (ltb (length (inside e ys)) (services_room e s ys))
      (λ r.
      let crowded = ltb-true _ _ r in
      let left : n - start ≡ length (inside e ys) = omega (arith, wide, inner) in
      ensemble_crowded e s (length es) at ys fields crowded
      ∙ (λ i. Err (EndsEarly SingleService (sym wide i + whole_services s (sym left i))))
      ∙ sym (there ∙ services-cut s ts n start x.services held w.0.1 (omega (arith, wide)) (omega (arith, wide, inner, size))))
      (λ r.
      let fits = ltb-false _ _ r in
      let next : at + (ensemble_bytes + e) + services_room e s ys ≡ start + room x = omega (arith, wide, size) in
      let end : at + (ensemble_bytes + e) + services_room e s ys + length (past e s ys) ≡ n = omega (arith, inner, length-drop (services_room e s ys) (inside e ys)) in
      ensemble_next e s (length es) at ys (record { fields = fields; services = fits })
      ∙ ensembles_walked es others w.1 _ (past e s ys) lacking rest (past_begun x w.0 ys lacking more begun fields fits)
      ∙ (λ i. walked (next i) ts (end i))
      ∙ sym (there ∙ services_whole s ts n start x.services held w.0.1 (omega (arith, wide, inner, size)))))

-- ---- chunks

header_thing : Chunk → Thing
header_thing c = record { part = Header; fields = chunk_head c }

-- xs begins as a chunk c does
module _ (c : Chunk) (t : Formed c) (xs lacking : List ℕ) (is : wire c ≡ xs ++ lacking) where
  row_begun : xs ++ lacking ≡ chunk_row c
  row_begun = sym is ∙ wire-row c t.held

  byte_begun : (i : ℕ) → i < length xs → get_or xs i 0 ≡ get_or (chunk_row c) i 0
  byte_begun i h = sym (get_or-append xs lacking 0 i h) ∙ ap (λ (zs : List ℕ). get_or zs i 0) row_begun

  header_width : length (thing_bytes (header_thing c)) ≡ chunk_header_bytes + c.h
  unfolding chunk_fields header_thing
  header_width =
      ap length (bytes_made (chunk_front_makes c) (each_left InWidth (chunk_head c) (flat_map ensemble_fields c.ensembles ++ run c.stuffing) t.held))
      ∙ front_length_read c t

  -- with the header there
  module _ (h : chunk_header_bytes + c.h ≤ length xs) where
    rest_begun : drop (chunk_header_bytes + c.h) xs ++ lacking ≡ flat_map ensemble_row c.ensembles ++ c.stuffing
    unfolding rest
    rest_begun =
        sym (drop-append-le (chunk_header_bytes + c.h) xs lacking h)
        ∙ ap (drop (chunk_header_bytes + c.h)) row_begun
        ∙ ap (λ (k : ℕ). drop (chunk_header_bytes + k) (chunk_row c)) (sym (h-read c t))
        ∙ after_header-read c t

    ensembles_in_begun : ensembles_in xs ≡ walked (chunk_header_bytes + c.h) (flat_map ensemble_things c.ensembles) (length xs)
    ensembles_in_begun =
        let second = byte_begun 1 (omega arith) in
        let h-is : h_in xs ≡ c.h = ap (λ (b : ℕ). b % 8) (byte_begun 0 (omega arith)) ∙ h-read c t in
        let e-is : e_in xs ≡ c.e = ap (λ (b : ℕ). b / 32) second ∙ e-read c t in
        let s-is : s_in xs ≡ c.s = ap (λ (b : ℕ). b / 4 % 8) second ∙ s_read c t in
        let count_is : count_in xs ≡ length c.ensembles =
        ap (λ (k : ℕ). get_or xs (4 + k) 0) (h-is ∙ sym (h-read c t)) ∙ byte_begun (4 + h_in (chunk_row c)) (omega (arith, h-read c t)) ∙ count_read c t in
        let end : chunk_header_bytes + c.h + length (drop (chunk_header_bytes + c.h) xs) ≡ length xs = omega (arith, length-drop (chunk_header_bytes + c.h) xs) in
        (λ i. ensembles_checks (e-is i) (s-is i) (count_is i) (chunk_header_bytes + h-is i) (drop (chunk_header_bytes + h-is i) xs))
        ∙ ensembles_walked c.e c.s c.ensembles (ensembles_held c t).1 t.loops (chunk_header_bytes + c.h) _ lacking c.stuffing rest_begun
        ∙ ap (walked (chunk_header_bytes + c.h) (flat_map ensemble_things c.ensembles)) end

  -- the checks on xs are a walk over the things of c
  pub checks_walked : length xs ≤ longest_chunk → (2 ≤ length xs → c.major ≡ 0) → checks xs ≡ walked 0 (things c) (length xs)
  unfolding things header_thing
  checks_walked l m =
      let ts : List Thing = flat_map ensemble_things c.ensembles in
      let n : ℕ = length xs in
      let wide = header_width in
      either (ltb n 2)
      (λ q. let bare = ltb-true _ _ q in checks_bare xs bare ∙ sym (walked_cut 0 (header_thing c) ts n (omega (arith, wide))))
      (λ q.
      let two = ltb-false _ _ q in
      let first = byte_begun 0 (omega arith) in
      let zero-major : major_in xs ≡ 0 = ap (λ (b : ℕ). b / 64) first ∙ major-read c t ∙ m two in
      let h-is : h_in xs ≡ c.h = ap (λ (b : ℕ). b % 8) first ∙ h-read c t in
      either (ltb n (chunk_header_bytes + h_in xs))
      (λ r.
      let cut = ltb-true _ _ r in
      checks-cut xs l two zero-major cut ∙ sym (walked_cut 0 (header_thing c) ts n (omega (arith, wide, h-is))))
      (λ r.
      let fields = ltb-false _ _ r in
      let start : chunk_header_bytes + c.h ≡ 0 + length (thing_bytes (header_thing c)) = omega (arith, wide) in
      checks-header xs (record { longest = l; major = zero-major; fields = fields })
      ∙ ensembles_in_begun (omega (arith, h-is))
      ∙ ap (λ (k : ℕ). walked k ts n) start
      ∙ sym (walked_whole 0 (header_thing c) ts n (omega (arith, wide, h-is)))))

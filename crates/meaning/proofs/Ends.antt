-- A chunk that is refused with 9 ends early as the tables say, at the thing and the offset that are told; and every chunk that does is refused
-- so. Assumes nothing.
use mathlib.Core.Path.{◌≡◌, refl, sym, ap, ◌∙◌}
use mathlib.Core.List.{List, [], ◌∷◌, ◌++◌, flat_map}
use Prim.Native.Nat.{ℕ, zero, suc, ◌+◌, ◌-◌, ◌*◌, ◌/◌, ◌≤◌, ◌<◌}
use native.Mathlib.Nat.{div-mul-le_self}
use native.Mathlib.Omega.{arith}
use borrow.Author.Tests.{ltb-true, ltb-false, eqb-true, eqb-false}
use lib.Dec.{ltb, eqb, lit<}
use lib.ListN.{length, replicate, length-append, length-drop, length-replicate, get_or-append}
use Rattle.std.proofs.Common.{Result, Ok, Err}
use Rattle.octets.specs.Bits.{Bytes}
use Rattle.octets.proofs.Laws.{either, check_follows, bytes_drop, bytes-append, get_d_byte}
use Rattle.meaning.specs.declared.Part.{Part}
use Rattle.meaning.specs.declared.Refusal.{Refusal}
use Rattle.meaning.specs.declared.Refusal.TheVariants.{ShortBuffer, EndsEarly}
use Rattle.meaning.specs.Sizes.{longest_chunk, longest_listing, chunk_header_bytes, ensemble_bytes, service_bytes}
use Rattle.meaning.specs.Numbers.{number_of, offset_of, checked_number, read_fault}
use Rattle.meaning.specs.Ends.{Thing, thing_bytes, things, FirstCut, EndsIn}
use Rattle.meaning.specs.Reading.{checks, ensembles_in, ensembles_checks, major_in, h_in, e_in, s_in, count_in, services_room, inside, past, after_header, read_checks, read_answer}
use Rattle.meaning.proofs.Checks.{fault≢fine, room_small, ensemble_next, ensemble-short, ensemble_crowded, checks_long, checks_bare, checks-major, checks-cut, checks-header}
use Rattle.meaning.proofs.Gives.{no_offset}
use Rattle.meaning.proofs.Answers.{answer_exactly, says_refused}
use Rattle.meaning.proofs.Sound.{chunk_at, major_at, chunk_formed, chunk_bytes}
use Rattle.meaning.proofs.Things.{walked, walked_none, walked_cut, walked_whole, checks_walked}

-- ---- the walk, and the first thing that is cut

early_once : {p q : Part} {i j : ℕ} → ◌≡◌ {A = Result Unit Refusal} (Err (EndsEarly p i)) (Err (EndsEarly q j)) → (p ≡ q) × (i ≡ j)
early_once is = (cc is, cc is)

walked_first : (b : ℕ) (ts : List Thing) (n : ℕ) (p : Part) (o : ℕ) → b ≤ n → walked b ts n ≡ Err (EndsEarly p o) → (b ≤ o) × FirstCut ts (n - b) p (o - b)
unfolding flat_map
walked_first b [] n p o l is = absurd (fault≢fine (sym is ∙ walked_none b n))
walked_first b (t ∷ ts) n p o l is =
    let next : ℕ = b + length (thing_bytes t) in
    either (ltb n next)
    (λ q.
    let short = ltb-true n next q in
    let told = early_once (sym (walked_cut b t ts n short) ∙ is) in (
      omega (arith, told.1),
      record {
        before = [];
        thing = t;
        after = ts;
        order = refl;
        part = told.0;
        offset = omega (arith, told.1);
        whole = omega (arith, told.1);
        cut = omega (arith, told.1, short);
      },
    ))
    (λ q.
    let fits = ltb-false n next q in
    let more = walked_first next ts n p o fits (sym (walked_whole b t ts n fits) ∙ is) in
    let f = more.1 in (
      omega (arith, more.0),
      record {
        before = t ∷ f.before;
        thing = f.thing;
        after = f.after;
        order = ap (λ (us : List Thing). t ∷ us) f.order;
        part = f.part;
        offset = omega (arith, more.0, f.offset, length-append (thing_bytes t) (flat_map thing_bytes f.before));
        whole = omega (arith, more.0, f.whole, fits);
        cut = omega (arith, more.0, f.cut, fits);
      },
    ))

first_walked : (b m : ℕ) (before : List Thing) (thing : Thing) (after : List Thing) → let o = b + length (flat_map thing_bytes before) in o ≤ m → m < o + length (thing_bytes thing) → walked b (before ++ thing ∷ after) m ≡ Err (EndsEarly thing.part o)
unfolding flat_map
first_walked b m [] thing after l h =
    let here : b ≡ b + 0 = omega arith in
    walked_cut b thing after m (omega arith) ∙ ap (λ (k : ℕ). Err (EndsEarly thing.part k)) here
first_walked b m (t ∷ before) thing after l h =
    let next : ℕ = b + length (thing_bytes t) in
    let same : next + length (flat_map thing_bytes before) ≡ b + length (thing_bytes t ++ flat_map thing_bytes before) = omega (arith, length-append (thing_bytes t) (flat_map thing_bytes before)) in
    walked_whole b t (before ++ thing ∷ after) m (omega (arith, same))
    ∙ first_walked next m before thing after (omega (arith, same)) (omega (arith, same))
    ∙ ap (λ (k : ℕ). Err (EndsEarly thing.part k)) same

-- what ends early is refused with 9, and is told so
pub ends_told : {xs : List ℕ} {p : Part} {at : ℕ} → EndsIn xs p at → length xs ≤ longest_chunk → checks xs ≡ Err (EndsEarly p at)
ends_told {xs} {p} {at} h l =
    let f = h.first in
    let offset : 0 + length (flat_map thing_bytes f.before) ≡ at = omega (arith, f.offset) in
    checks_walked h.chunk h.formed xs h.lacking h.bytes l h.major
    ∙ ap (λ (ts : List Thing). walked 0 ts (length xs)) f.order
    ∙ first_walked 0 (length xs) f.before f.thing f.after (omega (arith, f.offset, f.whole)) (omega (arith, f.offset, f.cut))
    ∙ (λ i. Err (EndsEarly (f.part i) (offset i)))

-- ---- what follows the cut may be anything, so zeros do, if there are enough of them

room_fine : (e s n at : ℕ) (ys : List ℕ) → e < 8 → s < 8 → Bytes ys → n * 2570 ≤ length ys → ensembles_checks e s n at ys ≡ Ok tt
room_fine e s zero at ys u v b r = unfold ensembles_checks in refl
room_fine e s (suc n) at ys u v b r =
    let few : services_room e s ys < 2560 = room_small (get_d_byte ys (3 + e) b) v in
    let inner = length-drop (ensemble_bytes + e) ys in
    let bytes = bytes_drop (services_room e s ys) (inside e ys) (bytes_drop (ensemble_bytes + e) ys b) in
    ensemble_next e s n at ys (record { fields = omega arith; services = omega (arith, few, inner) })
    ∙ room_fine e s n _ (past e s ys) u v bytes (omega (arith, few, inner, length-drop (services_room e s ys) (inside e ys)))

enough : ℕ
enough = 12 + 255 * 2570

bytes-zeros : (n : ℕ) → Bytes (replicate n 0)
bytes-zeros zero = tt
bytes-zeros (suc n) = (lit< tt, bytes-zeros n)

-- 8 comes before 9
told_short : (xs : List ℕ) {p : Part} {at : ℕ} → checks xs ≡ Err (EndsEarly p at) → length xs ≤ longest_chunk
told_short xs is =
    either (ltb longest_chunk (length xs))
    (λ q. absurd (omega (arith, ap checked_number (sym (checks_long xs (ltb-true _ _ q)) ∙ is))))
    (λ q. ltb-false _ _ q)

module _ (xs : List ℕ) (b : Bytes xs) where
  lacks : List ℕ
  lacks = replicate enough 0

  filled : List ℕ
  filled = xs ++ lacks

  filled-bytes : Bytes filled
  unfolding filled lacks
  filled-bytes = bytes-append xs (replicate enough 0) b (bytes-zeros enough)

  filled_long : enough + length xs ≡ length filled
  unfolding filled lacks
  filled_long = omega (arith, length-append xs (replicate enough 0), length-replicate {A = ℕ} enough 0)

  filled-header : chunk_header_bytes + h_in filled ≤ length filled
  unfolding enough
  filled-header = omega (arith, filled_long)

  filled-passes : ensembles_in filled ≡ Ok tt
  unfolding enough
  filled-passes =
      let second = get_d_byte filled 1 filled-bytes in
      let count = get_d_byte filled (4 + h_in filled) filled-bytes in
      room_fine (e_in filled) (s_in filled) (count_in filled) _ (after_header filled) (omega (arith, second)) (omega arith)
      (bytes_drop (chunk_header_bytes + h_in filled) filled filled-bytes)
      (omega (arith, filled_long, count, length-drop (chunk_header_bytes + h_in filled) filled))

  told_major : {p : Part} {at : ℕ} → checks xs ≡ Err (EndsEarly p at) → 2 ≤ length xs → (chunk_at filled).major ≡ 0
  unfolding filled
  told_major is two =
      let same : major_in (xs ++ lacks) ≡ major_in xs = ap (λ (k : ℕ). k / 64) (get_or-append xs lacks 0 0 (omega arith)) in
      major_at filled
      ∙ same
      ∙ either (eqb (major_in xs) 0) (λ q. eqb-true _ _ q)
      (λ q. absurd (omega (arith, ap checked_number (sym (checks-major xs (told_short xs is) two (eqb-false _ _ q)) ∙ is))))

-- what is refused with 9 ends early, as it is told
pub told_ends : {xs : List ℕ} {p : Part} {at : ℕ} → Bytes xs → checks xs ≡ Err (EndsEarly p at) → EndsIn xs p at
unfolding filled
told_ends {xs} {p} {at} b is =
    let c = chunk_at (filled xs b) in
    let formed = chunk_formed (filled xs b) (filled-bytes xs b) (filled-header xs b) (filled-passes xs b) in
    let bytes = chunk_bytes (filled xs b) (filled-bytes xs b) (filled-header xs b) (filled-passes xs b) in
    let major = told_major xs b is in
    let walk = sym (checks_walked c formed xs (lacks xs b) bytes (told_short xs is) major) ∙ is in
    let length_whole : length xs - 0 ≡ length xs = omega arith in
    let at-whole : at - 0 ≡ at = omega arith in
    let first : FirstCut (things c) (length xs) p at =
    rw length_whole at (rw at-whole at (walked_first 0 (things c) (length xs) p at (omega arith) walk).1) in
    record {
      chunk = c;
      formed = formed;
      lacking = lacks xs b;
      bytes = bytes;
      major = major;
      first = first;
    }

-- so what ends early does so in one thing, at one offset
pub ends_once : {xs : List ℕ} {p q : Part} {i j : ℕ} → EndsIn xs p i → EndsIn xs q j → length xs ≤ longest_chunk → (p ≡ q) × (i ≡ j)
ends_once h k l = early_once (sym (ends_told h l) ∙ ends_told k l)

-- ---- the offset that is told is within the chunk, whatever the chunk

pub Within : ℕ → Result Unit Refusal → Type 0
Within m (Ok _) = Unit {0}
Within m (Err f) = offset_of f ≤ m

ensembles-within : (e s n at : ℕ) (ys : List ℕ) → Within (at + length ys) (ensembles_checks e s n at ys)
unfolding Within
ensembles-within e s zero at ys = unfold ensembles_checks in tt
ensembles-within e s (suc n) at ys =
    let inner = length-drop (ensemble_bytes + e) ys in
    either (ltb (length ys) (ensemble_bytes + e))
    (λ q. rw (ensemble-short e s n at ys (ltb-true _ _ q)) (omega arith))
    (λ q.
    let fields = ltb-false _ _ q in
    either (ltb (length (inside e ys)) (services_room e s ys))
    (λ r. rw (ensemble_crowded e s n at ys fields (ltb-true _ _ r)) (omega (arith, inner, div-mul-le_self (length (inside e ys)) (service_bytes + s))))
    (λ r.
    let fits = ltb-false _ _ r in
    let end : at + (ensemble_bytes + e) + services_room e s ys + length (past e s ys) ≡ at + length ys = omega (arith, inner, length-drop (services_room e s ys) (inside e ys)) in
    rw (ensemble_next e s n at ys (record { fields = fields; services = fits }))
    (rw end at (ensembles-within e s n (at + (ensemble_bytes + e) + services_room e s ys) (past e s ys)))))

pub checks-within : (xs : List ℕ) → Within (length xs) (checks xs)
unfolding Within
checks-within xs =
    either (ltb longest_chunk (length xs))
    (λ q. rw (checks_long xs (ltb-true _ _ q)) (omega arith))
    (λ q.
    let l = ltb-false _ _ q in
    either (ltb (length xs) 2)
    (λ q. rw (checks_bare xs (ltb-true _ _ q)) (omega arith))
    (λ q.
    let two = ltb-false _ _ q in
    either (eqb (major_in xs) 0)
    (λ q.
    let zero-major = eqb-true _ _ q in
    either (ltb (length xs) (chunk_header_bytes + h_in xs))
    (λ q. rw (checks-cut xs l two zero-major (ltb-true _ _ q)) (omega arith))
    (λ q.
    let fields = ltb-false _ _ q in
    let end : chunk_header_bytes + h_in xs + length (after_header xs) ≡ length xs = omega (arith, length-drop (chunk_header_bytes + h_in xs) xs) in
    rw (checks-header xs (record { longest = l; major = zero-major; fields = fields }))
    (rw end at (ensembles-within (e_in xs) (s_in xs) (count_in xs) (chunk_header_bytes + h_in xs) (after_header xs)))))
    (λ q. rw (checks-major xs l two (eqb-false _ _ q)) (omega arith))))

pub told_within : (xs : List ℕ) {f : Refusal} → checks xs ≡ Err f → offset_of f ≤ length xs
unfolding Within
told_within xs is = rw is at (checks-within xs)

-- and at most 560, since a longer chunk is refused with 8
pub told_small : (xs : List ℕ) (f : Refusal) → checks xs ≡ Err f → offset_of f ≤ longest_chunk
told_small xs f is =
    either (ltb longest_chunk (length xs))
    (λ q. omega (arith, ap fault_offset (sym (checks_long xs (ltb-true _ _ q)) ∙ is)))
    (λ q. let short = ltb-false longest_chunk (length xs) q in omega (arith, told_within xs is))
  where
    fault_offset : Result Unit Refusal → ℕ
    fault_offset (Ok _) = 0
    fault_offset (Err f) = offset_of f

-- ---- the public call

-- a refusal with 9 is the checks' on the chunk
answer_told : (xs before : List ℕ) (f : Refusal) → number_of f ≡ 9 → read_answer xs before ≡ Err f → checks xs ≡ Err f
answer_told xs before f nine is =
    let told : read_checks xs before ≡ Err f = sym (answer_exactly xs before) ∙ ap read_fault is in
    (check_follows (ltb (length before) longest_listing) {answer = Err ShortBuffer} (λ same. omega (arith, nine, ap checked_number same)) told).1

pub answer_ends : {xs : List ℕ} {p : Part} {at : ℕ} → Bytes xs → (before : List ℕ) → read_answer xs before ≡ Err (EndsEarly p at) → EndsIn xs p at
answer_ends {xs} {p} {at} b before is = told_ends b (answer_told xs before (EndsEarly p at) refl is)

pub ends_answer : {xs : List ℕ} {p : Part} {at : ℕ} → EndsIn xs p at → length xs ≤ longest_chunk → (before : List ℕ) → longest_listing ≤ length before → read_answer xs before ≡ Err (EndsEarly p at)
ends_answer {xs} h l before room = sym (says_refused xs before room (ends_told h l)).answers

pub answer-within : (xs before : List ℕ) (f : Refusal) → read_answer xs before ≡ Err f → offset_of f ≤ length xs
answer-within xs before f is =
    either (eqb (number_of f) 9)
    (λ q. told_within xs (answer_told xs before f (eqb-true (number_of f) 9 q) is))
    (λ q. omega (arith, no_offset f (eqb-false (number_of f) 9 q)))

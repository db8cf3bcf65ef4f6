-- Outer packets as records: how the code puts them, and how long they are. Assumes nothing.
use mathlib.Core.Path.{◌≡◌, refl, sym, ap, ap₂, ◌∙◌}
use mathlib.Core.List.{List, [], ◌∷◌, ◌++◌, flat_map, append_assoc, append-nil}
use Prim.Native.Nat.{ℕ, zero, suc, ◌+◌, ◌*◌, ◌/◌, ◌≤◌, ◌<◌}
use native.Mathlib.Nat.{add-zero, zero-mul, suc-mul, mul-div_cancel}
use native.Mathlib.Omega.{arith}
use lib.ListN.{length, take, drop, length-append, length-drop, take-append-drop}
use lib.Seq.{length-take-le, take_at, drop_at, drop-drop, sets, length-sets}
use Rattle.octets.specs.Each.{Each}
use Rattle.octets.proofs.Stores.{sets-append}
use Rattle.text.specs.Text.{Put}
use Rattle.packets.specs.Stored.{line}
use Rattle.wrapping.specs.Wrapping.{record_head_bytes, outer_record, outer_records, cut_into}

-- ---- an outer packet

length-outer_record : (outer : List ℕ) → length (outer_record outer) ≡ record_head_bytes + length outer
length-outer_record outer = omega arith

-- ---- the loop: what is still to be put, where it has come to, is the whole

module _ (k n : ℕ) (outers out₀ : List ℕ) (to : ℕ) where
  -- the records of those from a place on
  abbrev records_at : ℕ → ℕ → List ℕ
  records_at todo from = outer_records (cut_into todo n (drop from outers))

  pub record Puts (out : List ℕ) (todo from end : ℕ) : Type 0 where
    pub same : length out ≡ length out₀
    pub inside : from + todo * n ≤ length outers
    pub room : end + todo * (record_head_bytes + n) ≤ length out
    pub place : end + length (records_at todo from) ≡ to + length (records_at k 0)
    pub whole : sets out end (records_at todo from) ≡ sets out₀ to (records_at k 0)

  pub puts_start : k * n ≤ length outers → to + k * (record_head_bytes + n) ≤ length out₀ → Puts out₀ k 0 to
  puts_start inside room = record { same = refl; inside = omega arith; room = room; place = refl; whole = refl }

  -- there is room for one more
  pub puts_inside : (out : List ℕ) (todo from end : ℕ) → 0 < todo → Puts out todo from end → (from + n ≤ length outers) × (end + (record_head_bytes + n) ≤ length out)
  puts_inside out zero from end some p = absurd (omega arith)
  puts_inside out (suc todo) from end some p = (omega (arith, p.inside, suc-mul todo n), omega (arith, p.room, suc-mul todo (record_head_bytes + n)))

  pub puts_next : (out : List ℕ) (todo more from end : ℕ) → todo ≡ suc more → Puts out todo from end → (out' : List ℕ) → out' ≡ sets out end (outer_record (take n (drop from outers))) → Puts out' more (from + n) (end + (record_head_bytes + n))
  unfolding cut_into outer_records flat_map
  puts_next out todo more from end one p out' is =
      let q : Puts out (suc more) from end = rw one at p in
      let outer : List ℕ = take n (drop from outers) in
      let rest : List ℕ = records_at more (from + n) in
      let size : length (outer_record outer) ≡ record_head_bytes + n =
      length-outer_record outer ∙ ap (λ (m : ℕ). record_head_bytes + m) (length-take-le n (drop from outers) (omega (arith, length-drop from outers, q.inside, suc-mul more n))) in
      let same : length out' ≡ length out = ap length is ∙ length-sets out end (outer_record outer) in
      let whole : records_at (suc more) from ≡ outer_record outer ++ rest = ap (λ (l : List ℕ). outer_record outer ++ outer_records (cut_into more n l)) (drop-drop n from outers) in
      record {
        same = same ∙ q.same;
        inside = omega (arith, q.inside, suc-mul more n);
        room = omega (arith, q.room, suc-mul more (record_head_bytes + n), same);
        place = omega (arith, q.place, ap length whole, length-append (outer_record outer) rest, size);
        whole =
            ap (λ (l : List ℕ). sets l (end + (record_head_bytes + n)) rest) is
            ∙ ap (λ (m : ℕ). sets (sets out end (outer_record outer)) (end + m) rest) (sym size)
            ∙ sym (sets-append (outer_record outer) rest out end)
            ∙ ap (sets out end) (sym whole)
            ∙ q.whole;
      }

  pub puts_end : (out : List ℕ) (todo from end : ℕ) → todo ≡ 0 → Puts out todo from end → Put (outer_records (cut_into k n outers)) out₀ to out end
  unfolding cut_into outer_records flat_map
  puts_end out todo from end none p =
      let q : Puts out 0 from end = rw none at p in
      (sym (add-zero end) ∙ q.place, q.whole)

-- ---- outer packets that are all of one length

module _ (n : ℕ) where
  length-line_even : (outers : List (List ℕ)) → Each (λ o. length o ≡ n) outers → length (line outers) ≡ length outers * n
  unfolding line flat_map
  length-line_even [] e = sym (zero-mul n)
  length-line_even (o ∷ outers) e =
      omega (arith, length-append o (line outers), e.0, length-line_even outers e.1, suc-mul (length outers) n)

  pub length-records_even : (outers : List (List ℕ)) → Each (λ o. length o ≡ n) outers → length (outer_records outers) ≡ length outers * (record_head_bytes + n)
  unfolding outer_records flat_map
  length-records_even [] e = sym (zero-mul (record_head_bytes + n))
  length-records_even (o ∷ outers) e =
      omega (arith, length-append (outer_record o) (outer_records outers), length-outer_record o, e.0, length-records_even outers e.1, suc-mul (length outers) (record_head_bytes + n))

  cut_line : (outers : List (List ℕ)) (rest : List ℕ) → Each (λ o. length o ≡ n) outers → cut_into (length outers) n (line outers ++ rest) ≡ outers
  unfolding cut_into line flat_map
  cut_line [] rest e = refl
  cut_line (o ∷ outers) rest e =
      let there : (o ++ line outers) ++ rest ≡ o ++ (line outers ++ rest) = append_assoc o (line outers) rest in
      ap (λ (l : List ℕ). take n l ∷ cut_into (length outers) n (drop n l)) there
      ∙ ap₂ ◌∷◌ (take_at o (line outers ++ rest) n e.0) (ap (cut_into (length outers) n) (drop_at o (line outers ++ rest) n e.0) ∙ cut_line outers rest e.1)

  -- where they stand end to end, so many bytes tell how many there are
  module _ (outers : List (List ℕ)) (even : Each (λ o. length o ≡ n) outers) (some : 0 < n) (wrote : ℕ) (all : wrote ≡ length (line outers)) where
    pub count_even : wrote / n ≡ length outers
    count_even = ap (λ (m : ℕ). m / n) (all ∙ length-line_even outers even) ∙ mul-div_cancel (length outers) some

    pub cut_even : (scratch : List ℕ) → take wrote scratch ≡ line outers → cut_into (wrote / n) n scratch ≡ outers
    cut_even scratch there =
        ap (λ (l : List ℕ). cut_into (wrote / n) n l) (sym (take-append-drop wrote scratch) ∙ ap (λ (l : List ℕ). l ++ drop wrote scratch) there)
        ∙ ap (λ (k : ℕ). cut_into k n (line outers ++ drop wrote scratch)) count_even
        ∙ cut_line outers (drop wrote scratch) even

-- ---- at most one outer packet, and none that is empty

pub record Single (outers : List (List ℕ)) (most wrote : ℕ) (scratch : List ℕ) : Type 0 where
  pub short : wrote ≤ most
  pub none : wrote ≡ 0 → outers ≡ []
  pub only : (wrote ≡ 0 → ⊥) → cut_into 1 wrote scratch ≡ outers

pub single : (outers : List (List ℕ)) (head most wrote : ℕ) (scratch : List ℕ) → (length outers ≤ 1) × Each (λ o. (head < length o) × (length o < most)) outers → wrote ≡ length (line outers) → take wrote scratch ≡ line outers → Single outers most wrote scratch
unfolding line flat_map cut_into
single [] head most wrote scratch last all there = record { short = omega arith; none = λ e. refl; only = λ some. absurd (some all) }
single (o ∷ []) head most wrote scratch last all there =
    let long : wrote ≡ length o = all ∙ ap length (append-nil o) in
    record { short = omega arith; none = λ e. absurd (omega arith); only = λ some. ap (λ (l : List ℕ). l ∷ []) (there ∙ append-nil o) }
single (o ∷ p ∷ outers) head most wrote scratch last all there = absurd (omega arith)

-- Laws of the reader's code, in its own terms. Assumes nothing.
use mathlib.Core.Path.{◌≡◌, refl, sym, ap, ap₂, ◌∙◌}
use mathlib.Core.Bool.{Bool, true, false}
use mathlib.Core.List.{List, [], ◌++◌, flat_map, append-nil}
use Prim.Native.Nat.{ℕ, zero, suc, ◌+◌, ◌-◌, ◌%◌, ◌≤◌, ◌<◌}
use native.Mathlib.Nat.{zero-add}
use native.Mathlib.Omega.{arith}
use borrow.Rule.Slice.PartMut.{put_mid}
use borrow.Author.Tests.{eq-eqb, ne_eqb, lt-ltb, le-ltb}
use lib.ListN.{length, get_or, take, drop, length-append, take-append-drop, get_or-append}
use lib.Seq.{take_all, length-take-le, sets, sets-eq, length-sets}
use Rattle.octets.specs.Word.{word}
use Rattle.octets.proofs.Stores.{sets-append}
use Rattle.rtp.specs.Header.{sequences, is_plain}
use Rattle.packets.specs.declared.Start.{Start}
use Rattle.packets.specs.declared.Start.TheVariants.{Running, Whole, Fault}
use Rattle.packets.specs.Packets.{longest_packet, telling_bytes, total_length, start_by, start_of}
use Rattle.packets.specs.Stored.{stored_head, stored_head_bytes, stored_packet, stored}
use Rattle.packets.proofs.Laws.{early, means}
use Rattle.std.specs.Prelude.{Some, None}
use Rattle.tunnel.specs.declared.Numbers.{Numbers}
use Rattle.tunnel.specs.Outer.{stltp, longest_outer, is_outer}
use Rattle.tunnel.specs.Unwrap.{reader, part_of, gap_before, Found, one_in, part_in, thrown, runs_on, found_before, Gains}

-- ---- an outer packet of the tunnel

pub outer_long : (xs : List ℕ) → longest_outer < length xs → is_outer xs ≡ false
outer_long xs h = simp (lt-ltb longest_outer (length xs) h)

pub outer-plain : (xs : List ℕ) → length xs ≤ longest_outer → is_outer xs ≡ is_plain stltp xs
outer-plain xs h = simp (le-ltb longest_outer (length xs) h)

-- ---- the sequence number

module _ (m : Numbers) (sequence : ℕ) where
  pub gap-fresh : m.last ≡ None → 0 ≡ gap_before m sequence
  unfolding gap_before
  gap-fresh e = rw e refl

  pub gap_begun : (last : ℕ) → m.last ≡ Some last → (sequence + (sequences - (last + 1) % sequences)) % sequences ≡ gap_before m sequence
  unfolding gap_before
  gap_begun last e =
      let whole : sequence + (sequences - (last + 1) % sequences) ≡ sequence + sequences - (last + 1) % sequences = omega arith in
      rw e (ap (λ (n : ℕ). n % sequences) whole)

-- ---- the part that is held

module _ (m : Numbers) (bytes : List ℕ) where
  pub part_running : start_of (take m.held bytes) ≡ Running → part_of (reader m bytes) ≡ take m.held bytes
  part_running is = rw is refl

  pub part_whole : (n : ℕ) → start_of (take m.held bytes) ≡ Whole n → part_of (reader m bytes) ≡ []
  part_whole n is = rw is refl

  pub part_fault : start_of (take m.held bytes) ≡ Fault → part_of (reader m bytes) ≡ []
  part_fault is = rw is refl

  -- a packet that is running is not as long as the memory
  pub part_long : length bytes ≡ longest_packet → longest_packet ≤ m.held → part_of (reader m bytes) ≡ []
  part_long memory long = go (start_of (take m.held bytes)) refl
    where
      all : length (take m.held bytes) ≡ longest_packet
      all = ap length (take_all m.held bytes (omega (arith, memory))) ∙ memory

      go : (s : Start) → start_of (take m.held bytes) ≡ s → part_of (reader m bytes) ≡ []
      go Running is = absurd (omega (arith, means (take m.held bytes) is, all))
      go (Whole n) is = part_whole n is
      go Fault is = part_fault is

pub one : (n : ℕ) → (n ≡ 0 → ⊥) → 1 ≤ n
one zero z = absurd (z refl)
one (suc n) z = omega arith

-- ---- a packet in two pieces

-- the start of a list put over itself
pub sets_front : (l : List ℕ) (n : ℕ) → n ≤ length l → sets l 0 (take n l) ≡ l
sets_front l n h =
    let e : 0 + length (take n l) ≡ n = omega (arith, length-take-le n l h) in
    sets-eq (take n l) l 0 (omega (arith, length-take-le n l h)) ∙ ap (λ (k : ℕ). take n l ++ drop k l) e ∙ take-append-drop n l

module _ (part more : List ℕ) where
  byte_first : (i : ℕ) → i < length part → get_or part i 0 ≡ get_or (part ++ more) i 0
  byte_first i h = sym (get_or-append part more 0 i h)

  module _ (some : 1 ≤ length part) where
    pub joined_few : length part + length more < telling_bytes → start_by (length part + length more) (get_or part 0 0) 0 ≡ start_of (part ++ more)
    unfolding start_of
    joined_few h =
        early (length part + length more) (get_or part 0 0) 0 (total_length (part ++ more)) h
        ∙ (λ i. start_by (sym (length-append part more) i) (byte_first 0 some i) (total_length (part ++ more)))

    pub joined_told : (a b total : ℕ) → a ≡ get_or (part ++ more) 2 0 → b ≡ get_or (part ++ more) 3 0 → total ≡ word a b → start_by (length part + length more) (get_or part 0 0) total ≡ start_of (part ++ more)
    unfolding start_of
    joined_told a b total ea eb et =
        ap (start_by (length part + length more) (get_or part 0 0)) (et ∙ ap₂ word ea eb)
        ∙ (λ i. start_by (sym (length-append part more) i) (byte_first 0 some i) (total_length (part ++ more)))

  -- stored in three runs
  pub joined-stored : (out l m n : List ℕ) (to : ℕ) → l ≡ sets out to (stored_head (length part + length more)) → m ≡ sets l (to + stored_head_bytes) part → n ≡ sets m (to + stored_head_bytes + length part) more → n ≡ sets out to (stored_packet (part ++ more))
  joined-stored out l m n to el em en =
      en
      ∙ ap (λ (t : List ℕ). sets t (to + stored_head_bytes + length part) more) (em ∙ ap (λ (t : List ℕ). sets t (to + stored_head_bytes) part) el)
      ∙ sym (sets-append part more (sets out to (stored_head (length part + length more))) (to + stored_head_bytes))
      ∙ sym (sets-append (stored_head (length part + length more)) (part ++ more) out to)
      ∙ ap (λ (k : ℕ). sets out to (stored_head k ++ (part ++ more))) (sym (length-append part more))

-- the bytes that are held, in their memory, and the bytes behind them
module _ (held : ℕ) (memory : List ℕ) (all : length memory ≡ longest_packet) (least : held ≤ longest_packet) where
  pub inside : held ≤ length memory
  inside = omega (arith, all, least)

  pub held_front : length (take held memory) ≡ held
  held_front = length-take-le held memory inside

  pub held_some : (held ≡ 0 → ⊥) → 1 ≤ length (take held memory)
  held_some some = omega (arith, one held some, held_front)

  module _ (more : List ℕ) where
    pub joined_length : length (take held memory ++ more) ≡ held + length more
    joined_length = length-append (take held memory) more ∙ ap (λ (k : ℕ). k + length more) held_front

    pub room : length (take held memory ++ more) < longest_packet → held + length more ≤ length memory
    room short = omega (arith, joined_length, all, short)

-- the part goes on
pub part_behind : (part more p : List ℕ) (held : ℕ) → held ≤ length part → p ≡ sets part held more → p ≡ sets part 0 (take held part ++ more)
part_behind part more p held inside e =
    e
    ∙ ap (λ (t : List ℕ). sets t held more) (sym (sets_front part held inside))
    ∙ ap (λ (k : ℕ). sets (sets part 0 (take held part)) k more) (sym (zero-add (length (take held part)) ∙ length-take-le held part inside))
    ∙ sym (sets-append (take held part) more part 0)

-- ---- what is found before the marked start

module _ (marked : Bool) (part xs : List ℕ) where
  pub before_none : length part ≡ 0 → found_before marked part xs ≡ thrown xs
  unfolding found_before
  before_none e = simp (eq-eqb (length part) 0 e)

  module _ (some : 1 ≤ length part) where
    before_some : {s : Start} → start_of (part ++ xs) ≡ s → found_before marked part xs ≡ runs_on s marked (part ++ xs)
    unfolding found_before
    before_some is = rw (ne_eqb (length part) 0 (λ e. omega (arith, e, some)), is) refl

    module _ (total : ℕ) (is : start_of (part ++ xs) ≡ Whole total) where
      -- the marker contradicts it, or bytes without one follow it
      pub before_other : (total ≡ length (part ++ xs) → ⊥) → found_before marked part xs ≡ thrown (part ++ xs)
      before_other apart = before_some is ∙ rw (ne_eqb total (length (part ++ xs)) apart) refl

      pub before_ends : total ≡ length (part ++ xs) → found_before marked part xs ≡ one_in (part ++ xs)
      before_ends e = before_some is ∙ rw (eq-eqb total (length (part ++ xs)) e) refl

    module _ (is : start_of (part ++ xs) ≡ Running) where
      pub before_cut : marked ≡ true → found_before marked part xs ≡ thrown (part ++ xs)
      before_cut m = before_some is ∙ rw m refl

      pub before_goes_on : marked ≡ false → found_before marked part xs ≡ part_in (part ++ xs)
      before_goes_on m = before_some is ∙ rw m refl

    pub before_fault : start_of (part ++ xs) ≡ Fault → found_before marked part xs ≡ thrown (part ++ xs)
    before_fault is = before_some is

-- ---- what some bytes leave

module _ {f : Found} (part out : List ℕ) (to held lost : ℕ) (xs : List ℕ) where
  pub gains_thrown : f ≡ thrown xs → (to ≡ 0) × (held ≡ 0) × (lost ≡ length xs) → Gains f part out 0 part out to held lost
  unfolding stored flat_map
  gains_thrown is e = rw is (e.0 ∙ omega arith, refl, e.1, refl, e.2)

  pub gains_one : {out' : List ℕ} → f ≡ one_in xs → out' ≡ sets out 0 (stored_packet xs) → to ≡ stored_head_bytes + length xs → (held ≡ 0) × (lost ≡ 0) → Gains f part out 0 part out' to held lost
  unfolding stored flat_map
  gains_one is put e none =
      rw is (e ∙ omega (arith, length-append (stored_packet xs) []), put ∙ ap (sets out 0) (sym (append-nil (stored_packet xs))), none.0, refl, none.1)

  pub gains_part : {part' : List ℕ} → f ≡ part_in xs → part' ≡ sets part 0 xs → held ≡ length xs → (to ≡ 0) × (lost ≡ 0) → Gains f part out 0 part' out to held lost
  unfolding stored flat_map
  gains_part is put e none = rw is (none.0 ∙ omega arith, refl, e, put, none.1)

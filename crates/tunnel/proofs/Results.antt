-- What a call comes to: nothing changes, or the part is dropped (17), or the payload is read; how much it stores and throws away. Assumes nothing.
use mathlib.Core.Path.{◌≡◌, refl, sym, ap, ◌∙◌}
use mathlib.Core.Bool.{Bool, true, false, not, cond, ◌&&◌, true≢false}
use mathlib.Core.List.{List, [], ◌∷◌, ◌++◌, flat_map, append-nil}
use mathlib.Core.Logic.{◌⊎◌, inl, inr, ⊎_elim}
use Prim.Native.Nat.{ℕ, ◌+◌, ◌≤◌, ◌<◌}
use native.Mathlib.Nat.{zero-add}
use native.Mathlib.Omega.{arith}
use borrow.Author.Tests.{ltb-true, ltb-false, leb-false}
use lib.Dec.{eqb, ltb, leb}
use lib.ListN.{length, take, drop, length-append, length-drop, take-append-drop}
use lib.Seq.{take_at, sets, length-sets}
use Rattle.octets.specs.Checks.{check}
use Rattle.octets.specs.Each.{Each}
use Rattle.octets.proofs.Laws.{either}
use Rattle.octets.proofs.Stores.{drop-stored}
use Rattle.rtp.specs.Header.{header_bytes, sequences, sequence_in, payload_in}
use Rattle.packets.specs.declared.Start.{Start}
use Rattle.packets.specs.declared.Start.TheVariants.{Running, Whole, Fault}
use Rattle.packets.specs.Packets.{longest_packet, Carried, start_of, is_running}
use Rattle.packets.specs.Stored.{stored_head_bytes, stored_packet, stored, line}
use Rattle.packets.proofs.Laws.{means}
use Rattle.tunnel.specs.declared.Numbers.{Numbers}
use Rattle.std.specs.Prelude.{Option, Some, None, Ok, Err}
use Rattle.tunnel.specs.declared.Unwrapped.TheVariants.{Repeat}
use Rattle.tunnel.specs.declared.Refusal.TheVariants.{ShortOutput, Foreign}
use Rattle.tunnel.specs.Outer.{longest_outer, offset_in, is_outer}
use Rattle.tunnel.specs.Unwrap.{shortest_output, most_stored, Answer, Reader, part_of, Found, found_in, found_before, found_at, unwrapped_values, is_repeat, gap_behind, gap_before, marked, gap, kept, found, holding, unchanged, dropped, read, accepted, unwrapped, Result, reader, Leaves}
use Rattle.tunnel.proofs.Found.{before_cases, start-nothing, at_weight, at_carried, at_part, stored-append}
use Rattle.tunnel.proofs.Behind.{found_stored}
use Rattle.tunnel.proofs.Answers.{outer-inside, comes_short, comes_foreign, comes_repeat, comes_accepted}

-- ---- the part that a reader holds is one that is running

running_is : (s : Start) → is_running s ≡ true → s ≡ Running
running_is Running t = refl
running_is (Whole n) t = absurd (true≢false (sym t))
running_is Fault t = absurd (true≢false (sym t))

pub part_running : (r : Reader) → start_of (part_of r) ≡ Running
part_running r =
    let p : List ℕ = take r.numbers.held r.bytes in
    either (is_running (start_of p)) (λ t. rw t (running_is (start_of p) t)) (λ t. rw t start-nothing)

-- bytes put at the start of a memory that has room for them
pub take_put : (vs l : List ℕ) → length vs ≤ length l → take (length vs) (sets l 0 vs) ≡ vs
take_put vs l room =
    ap (take (length vs)) (drop-stored vs l 0 (length vs) (sym (zero-add (length vs))) room) ∙ take_at vs (drop (length vs) l) (length vs) refl

-- ---- by what a call comes to

module _ (r : Reader) (outer output : List ℕ) where
  -- an outer packet of the tunnel, no repeat, and an output that is long enough
  pub record Taken : Type 0 where
    pub long : shortest_output ≤ length output
    pub ours : is_outer outer ≡ true
    pub new : is_repeat r.numbers (sequence_in outer) ≡ false

  -- an answer that changes nothing
  abbrev pub Idle : Answer → Type 0
  Idle a = (a ≡ Err ShortOutput) ⊎ ((a ≡ Err Foreign) ⊎ (a ≡ Ok Repeat))

  -- the marked start lies in the payload
  abbrev pub Inside : Type 0
  Inside = marked r outer output ≡ true → offset_in outer < length (payload_in outer)

  module _ (P : Result → Type 0) (idle : (a : Answer) → Idle a → P (unchanged r outer output a)) (drops : Taken → P (dropped r outer output)) (reads : Taken → Inside → P (read r outer output)) where
    accepted_cases : Taken → P (accepted r outer output)
    unfolding accepted
    accepted_cases t =
        either (marked r outer output && leb (length (payload_in outer)) (offset_in outer)) (λ e. rw e (drops t))
        (λ e.
        rw e
        (reads t
        (λ m.
        let f : leb (length (payload_in outer)) (offset_in outer) ≡ false = ap (λ (b : Bool). b && leb (length (payload_in outer)) (offset_in outer)) (sym m) ∙ e in
        leb-false (length (payload_in outer)) (offset_in outer) f)))

    pub result_cases : P (unwrapped r outer output)
    result_cases =
        either (ltb (length output) shortest_output)
        (λ e. rw (comes_short r outer output (ltb-true (length output) shortest_output e)) (idle (Err ShortOutput) (inl refl)))
        (λ e.
        let long : shortest_output ≤ length output = ltb-false (length output) shortest_output e in
        either (is_outer outer)
        (λ ours.
        either (is_repeat r.numbers (sequence_in outer))
        (λ rep. rw (comes_repeat r outer output long ours rep) (idle (Ok Repeat) (inr (inr refl))))
        (λ new. rw (comes_accepted r outer output long ours new) (accepted_cases (record { long = long; ours = ours; new = new }))))
        (λ other. rw (comes_foreign r outer output long other) (idle (Err Foreign) (inr (inl refl)))))

  -- ---- a payload that is read

  abbrev start : ℕ
  start = cond (marked r outer output) (offset_in outer) (length (payload_in outer))

  module _ (t : Taken) where
    pub payload_most : header_bytes + length (payload_in outer) ≤ longest_outer
    payload_most = let i = outer-inside outer t.ours in omega (arith, i.0, i.1, length-drop header_bytes outer)

    kept-running : start_of (kept r outer output) ≡ Running
    kept-running = either (eqb (gap r outer output) 0) (λ e. rw e (part_running r)) (λ e. rw e start-nothing)

    pub kept_part : length (kept r outer output) ≤ length (part_of r)
    kept_part = either (eqb (gap r outer output) 0) (λ e. rw e (omega arith)) (λ e. rw e (omega arith))

    pub found_carried : Each Carried (found r outer output).packets
    found_carried = at_carried (marked r outer output) start (kept r outer output) (payload_in outer)

    pub found_running : start_of (found r outer output).part ≡ Running
    found_running = at_part (marked r outer output) start (kept r outer output) (payload_in outer) (λ e. rw e refl)

    -- before the marked start nothing is stored, or one packet that takes a byte of the payload
    before_most : (xs : List ℕ) → let n = length (stored (found_before (marked r outer output) (kept r outer output) xs).packets) in (n ≡ 0) ⊎ ((1 ≤ length xs) × (n ≤ stored_head_bytes + longest_packet))
    unfolding stored flat_map
    before_most xs =
        before_cases (λ f. let n = length (stored f.packets) in (n ≡ 0) ⊎ ((1 ≤ length xs) × (n ≤ stored_head_bytes + longest_packet))) (marked r outer output) part xs (inl refl) (λ m is. inl refl)
        (λ is. inr (some xs is, omega (arith, length-append (stored_packet (part ++ xs)) [], (means (part ++ xs) is).3)))
      where
        part : List ℕ
        part = kept r outer output

        some : (xs : List ℕ) → start_of (part ++ xs) ≡ Whole (length (part ++ xs)) → 1 ≤ length xs
        some [] is =
            let z : Running ≡ Whole (length (part ++ [])) = sym kept-running ∙ ap start_of (sym (append-nil part)) ∙ is in
            let apart : ◌≡◌ {A = ℕ} 0 1 = cc in
            absurd (omega (arith, apart))
        some (x ∷ xs) is = omega arith

    -- what is stored is at the most a packet of 1,500 bytes that ends with the first byte, and 53 in the other 1,487
    pub stored_found : length (stored (found r outer output).packets) ≤ most_stored
    unfolding found_at
    stored_found =
        let xs : List ℕ = take start (payload_in outer) in
        let ys : List ℕ = drop start (payload_in outer) in
        let f : Found = found_before (marked r outer output) (kept r outer output) xs in
        let sum : length (stored (found r outer output).packets) ≡ length (stored f.packets) + length (stored (found_in ys).packets) =
        ap length (stored-append f.packets (found_in ys).packets) ∙ length-append (stored f.packets) (stored (found_in ys).packets) in
        let cut : length xs + length ys ≡ length (payload_in outer) = sym (length-append xs ys) ∙ ap length (take-append-drop start (payload_in outer)) in
        ⊎_elim (λ none. omega (arith, sum, none, found_stored ys, cut, payload_most)) (λ one. omega (arith, sum, one.0, one.1, found_stored ys, cut, payload_most)) (before_most xs)

    pub found_all : length (kept r outer output) + length (payload_in outer) ≡ length (line (found r outer output).packets) + (length (found r outer output).part + (found r outer output).lost)
    found_all = sym (at_weight (marked r outer output) start (kept r outer output) (payload_in outer))

-- ---- of any call

module _ (r : Reader) (outer output : List ℕ) where
  gap_small : gap_before r.numbers (sequence_in outer) < sequences
  unfolding gap_before
  gap_small = go r.numbers.last
    where
      go : (last : Option ℕ) → gap_behind last (sequence_in outer) < sequences
      go (Some last) = omega arith
      go None = omega arith

  idle-values : (a : Answer) → Idle r outer output a → ((unwrapped_values a).stored ≡ 0) × ((unwrapped_values a).gap ≡ 0) × ((unwrapped_values a).lost ≡ 0)
  idle-values a (inl e) = rw e (refl, refl, refl)
  idle-values a (inr (inl e)) = rw e (refl, refl, refl)
  idle-values a (inr (inr e)) = rw e (refl, refl, refl)

  pub most_stored_lem : (unwrapped_values (unwrapped r outer output).answer).stored ≤ most_stored
  most_stored_lem =
      result_cases r outer output (λ u. (unwrapped_values u.answer).stored ≤ most_stored) (λ a i. omega (arith, (idle-values a i).0)) (λ t. omega arith)
      (λ t inside. stored_found r outer output t)

  pub most_left_out : (unwrapped_values (unwrapped r outer output).answer).gap < sequences
  most_left_out =
      result_cases r outer output (λ u. (unwrapped_values u.answer).gap < sequences) (λ a i. omega (arith, (idle-values a i).1)) (λ t. gap_small)
      (λ t inside. gap_small)

  pub most_lost : (unwrapped_values (unwrapped r outer output).answer).lost ≤ longest_packet + longest_outer
  most_lost =
      let held : length (part_of r) < longest_packet = means (part_of r) (part_running r) in
      result_cases r outer output (λ u. (unwrapped_values u.answer).lost ≤ longest_packet + longest_outer) (λ a i. omega (arith, (idle-values a i).2))
      (λ t. omega (arith, held, payload_most r outer output t))
      (λ t inside. omega (arith, held, payload_most r outer output t, found_all r outer output t, kept_part r outer output t))

  -- how many bytes are said to be held: as before, or fewer than a packet has
  pub held_after : ((unwrapped r outer output).reader.numbers.held ≡ r.numbers.held) ⊎ ((unwrapped r outer output).reader.numbers.held < longest_packet)
  held_after =
      result_cases r outer output (λ u. (u.reader.numbers.held ≡ r.numbers.held) ⊎ (u.reader.numbers.held < longest_packet)) (λ a i. inl refl)
      (λ t. inr (omega arith))
      (λ t inside. inr (means (found r outer output).part (found_running r outer output t)))

  -- the memory of the part keeps its length
  pub memory_kept : length r.bytes ≡ longest_packet → length (unwrapped r outer output).reader.bytes ≡ longest_packet
  memory_kept memory =
      result_cases r outer output (λ u. length u.reader.bytes ≡ longest_packet) (λ a i. memory) (λ t. memory)
      (λ t inside. length-sets r.bytes 0 (found r outer output).part ∙ memory)

  -- the part that is held afterwards
  pub part_held : length r.bytes ≡ longest_packet → Taken r outer output → part_of (holding r outer output (found r outer output).part) ≡ (found r outer output).part
  part_held memory t =
      let is : start_of (found r outer output).part ≡ Running = found_running r outer output t in
      let put : take (length (found r outer output).part) (sets r.bytes 0 (found r outer output).part) ≡ (found r outer output).part =
      take_put (found r outer output).part r.bytes (omega (arith, means (found r outer output).part is, memory)) in
      rw (put, is) refl

-- ---- with any other output that is long enough it comes to the same

module _ (r : Reader) (outer o p : List ℕ) (long-o : shortest_output ≤ length o) (long-p : shortest_output ≤ length p) where
  pub record Alike (u v : Result) : Type 0 where
    pub answer : u.answer ≡ v.answer
    pub reader : u.reader ≡ v.reader
    pub output : u.output ≡ sets o 0 (take (unwrapped_values v.answer).stored v.output)

  module _ (ours : is_outer outer ≡ true) (new : is_repeat r.numbers (sequence_in outer) ≡ false) where
    abbrev outside : Bool
    outside = marked r outer o && leb (length (payload_in outer)) (offset_in outer)

    alike_accepted : (b : Bool) → outside ≡ b → Alike (accepted r outer o) (accepted r outer p)
    unfolding accepted
    alike_accepted true e = rw e (record { answer = refl; reader = refl; output = refl })
    alike_accepted false e =
        let s : List ℕ = stored (found r outer o).packets in
        let put : take (length s) (sets p 0 s) ≡ s = take_put s p (omega (arith, stored_found r outer o (record { long = long-o; ours = ours; new = new }))) in
        rw e (record { answer = refl; reader = refl; output = ap (sets o 0) (sym put) })

  pub alike : Alike (unwrapped r outer o) (unwrapped r outer p)
  alike =
      either (is_outer outer)
      (λ ours.
      either (is_repeat r.numbers (sequence_in outer))
      (λ e. rw (comes_repeat r outer o long-o ours e, comes_repeat r outer p long-p ours e) (record { answer = refl; reader = refl; output = refl }))
      (λ new. rw (comes_accepted r outer o long-o ours new, comes_accepted r outer p long-p ours new) (alike_accepted ours new (outside ours new) refl)))
      (λ e. rw (comes_foreign r outer o long-o e, comes_foreign r outer p long-p e) (record { answer = refl; reader = refl; output = refl }))

-- ---- the numbers, each exactly when its check comes first

pub number_exactly : (r : Reader) (outer output : List ℕ) → (unwrapped_values (unwrapped r outer output).answer).number ≡ check (ltb (length output) shortest_output) 1 (check (not (is_outer outer)) 16 (check (is_repeat r.numbers (sequence_in outer)) 0 (check (marked r outer output && leb (length (payload_in outer)) (offset_in outer)) 17 0)))
unfolding unwrapped accepted
number_exactly r outer output = go (ltb (length output) shortest_output) (is_outer outer) (is_repeat r.numbers (sequence_in outer)) (marked r outer output && leb (length (payload_in outer)) (offset_in outer))
  where
    go : (a b c d : Bool) → (unwrapped_values (check a (unchanged r outer output (Err ShortOutput)) (check (not b) (unchanged r outer output (Err Foreign)) (check c (unchanged r outer output (Ok Repeat)) (check d (dropped r outer output) (read r outer output))))).answer).number ≡ check a 1 (check (not b) 16 (check c 0 (check d 17 0)))
    go true b c d = refl
    go false false c d = refl
    go false true true d = refl
    go false true false true = refl
    go false true false false = refl

-- two results can't both meet the promise
pub one_result : {u : Result} {a b : Answer} {m n : Numbers} {part part' out out' : List ℕ} → Leaves u a m part out → Leaves u b n part' out' → (a ≡ b) × (reader m part ≡ reader n part') × (out ≡ out')
one_result s t = (s.answers ∙ sym t.answers, s.holds ∙ sym t.holds, s.leaves ∙ sym t.leaves)

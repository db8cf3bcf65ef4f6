-- What stands at a place of a store, in the code's own terms; and what was stored is read back, packet by packet. Assumes nothing.
use mathlib.Core.Path.{◌≡◌, refl, sym, ap, ap₂, subst, ◌∙◌}
use mathlib.Core.Bool.{true, true≢false}
use mathlib.Core.List.{List, [], ◌∷◌, ◌++◌, flat_map}
use Prim.Native.Nat.{ℕ, zero, suc, ◌+◌, ◌-◌, ◌≤◌, ◌<◌}
use native.Mathlib.Omega.{arith}
use lib.ListN.{length, take, drop, length-append, length-drop}
use lib.Seq.{drop-drop, take_at, drop_at}
use Rattle.octets.specs.Each.{Each}
use Rattle.octets.specs.Word.{word_bytes}
use Rattle.octets.proofs.Laws.{word-high-low}
use Rattle.records.specs.declared.Form.TheVariants.{Counted}
use Rattle.records.specs.declared.Entry.{Entry}
use Rattle.records.specs.declared.Entry.TheVariants.{Unknown, Cut}
use Rattle.records.specs.declared.Entry.TheVariants.{End as EntryEnd, Whole as EntryWhole}
use Rattle.records.specs.Records.{mark_of, entry_in, is_whole, size_of}
use Rattle.records.proofs.Entries.{mark_first}
use Rattle.records.proofs.Counted.{whole_counted, counted_entry, whole_marked}
use Rattle.packets.specs.Packets.{shortest_packet, longest_packet, Carried}
use Rattle.packets.specs.Stored.{stored_head_bytes, stored_packet, stored}
use Rattle.std.specs.Prelude.{Some, None, Ok, Err}
use Rattle.store.specs.Store.{store_form, Next, next_by, next_in, packet_by, packet_in, Kept, kept_from, kept_up_to, kept_in}

-- ---- what stands at the start of a store

pub next_by_lem : (xs : List ℕ) (e : Entry) (next : Next) → e ≡ entry_in store_form xs → next ≡ next_by e → next ≡ next_in xs
unfolding next_in
next_by_lem xs e next stands is = is ∙ ap next_by stands

-- a whole record is a packet within the limits, behind its head
whole_packet : (xs : List ℕ) (size : ℕ) → EntryWhole size ≡ entry_in store_form xs → (stored_head_bytes + shortest_packet ≤ size) × (size ≤ stored_head_bytes + longest_packet) × (size ≤ length xs)
whole_packet xs size stands =
    whole_counted store_form xs size stands shortest_packet longest_packet (whole_marked (mark_of "IP") (Counted shortest_packet longest_packet) xs size stands)

pub head-inside : (xs : List ℕ) (e : Entry) → e ≡ entry_in store_form xs → is_whole e ≡ true → stored_head_bytes ≤ size_of e
head-inside xs (EntryWhole size) stands w = omega (arith, (whole_packet xs size stands).0)
head-inside xs EntryEnd stands w = absurd (true≢false (sym w))
head-inside xs Unknown stands w = absurd (true≢false (sym w))
head-inside xs Cut stands w = absurd (true≢false (sym w))

-- ---- a packet that stands there is within the limits, and inside the store

abbrev Means : List ℕ → Next → Type 0
Means xs (Ok (Some n)) = (shortest_packet ≤ n) × (n ≤ longest_packet) × (stored_head_bytes + n ≤ length xs)
Means xs (Ok None) = Unit {0}
Means xs (Err b) = Unit {0}

by_means : (xs : List ℕ) (e : Entry) → e ≡ entry_in store_form xs → Means xs (next_by e)
by_means xs (EntryWhole size) stands =
    let w = whole_packet xs size stands in
    (omega (arith, w.0), omega (arith, w.1), omega (arith, w.0, w.2))
by_means xs EntryEnd stands = tt
by_means xs Unknown stands = tt
by_means xs Cut stands = tt

pub packet_means : (xs : List ℕ) (n : ℕ) → next_in xs ≡ Ok (Some n) → (shortest_packet ≤ n) × (n ≤ longest_packet) × (stored_head_bytes + n ≤ length xs)
unfolding next_in
packet_means xs n is = subst (Means xs) is (by_means xs (entry_in store_form xs) refl)

-- ---- the packet at a place of a store, as the code takes it

module _ (store : List ℕ) (at n : ℕ) (stands : Ok (Some n) ≡ next_in (drop at store)) where
  pub packet_room : at + stored_head_bytes + n ≤ length store
  packet_room = omega (arith, (packet_means (drop at store) n (sym stands)).2, length-drop at store)

  pub packet_there : take (at + stored_head_bytes + n - (at + stored_head_bytes)) (drop (at + stored_head_bytes) store) ≡ packet_in (drop at store)
  packet_there =
      let count : at + stored_head_bytes + n - (at + stored_head_bytes) ≡ n = omega arith in
      ap₂ take count (sym (drop-drop stored_head_bytes at store)) ∙ ap (λ (e : Next). packet_by e (drop at store)) stands

-- ---- the packets of a store, one after the other; any number above the length gives the same

from_same : (e : Next) (f g : List ℕ → Kept) (xs : List ℕ) → ((n : ℕ) → e ≡ Ok (Some n) → f (drop (stored_head_bytes + n) xs) ≡ g (drop (stored_head_bytes + n) xs)) → kept_from e f xs ≡ kept_from e g xs
from_same (Ok (Some n)) f g xs h = ap (λ (k : Kept). kept_from (Ok (Some n)) (λ (ys : List ℕ). k) xs) (h n refl)
from_same (Ok None) f g xs h = refl
from_same (Err b) f g xs h = refl

left_shorter : (xs : List ℕ) (n k : ℕ) → next_in xs ≡ Ok (Some n) → length xs < suc k → length (drop (stored_head_bytes + n) xs) < k
left_shorter xs n k is h = omega (arith, (packet_means xs n is).2, length-drop (stored_head_bytes + n) xs)

pub kept_any : (n m : ℕ) (xs : List ℕ) → length xs < n → length xs < m → kept_up_to n xs ≡ kept_up_to m xs
unfolding kept_up_to
kept_any zero m xs h g = absurd (omega arith)
kept_any (suc n) zero xs h g = absurd (omega arith)
kept_any (suc n) (suc m) xs h g =
    from_same (next_in xs) (kept_up_to n) (kept_up_to m) xs
    (λ k is. kept_any n m (drop (stored_head_bytes + k) xs) (left_shorter xs k n is h) (left_shorter xs k m is g))

pub kept_next : (xs : List ℕ) → kept_in xs ≡ kept_from (next_in xs) kept_in xs
unfolding kept_in kept_up_to
kept_next xs =
    from_same (next_in xs) (kept_up_to (length xs)) kept_in xs
    (λ k is. kept_any (length xs) (suc (length (drop (stored_head_bytes + k) xs))) (drop (stored_head_bytes + k) xs) (left_shorter xs k (length xs) is (omega arith)) (omega arith))

-- ---- what was stored is read back

pub next_stored : (p rest : List ℕ) → Carried p → next_in (stored_packet p ++ rest) ≡ Ok (Some (length p))
unfolding next_in
next_stored p rest c =
    ap next_by
    (counted_entry store_form (stored_packet p ++ rest) shortest_packet longest_packet (length p) (ap store_form (mark_first _ _ (word_bytes (length p) ++ p ++ rest))) (word-high-low (length p)) c.least c.most (omega (arith, length-append p rest)))
    ∙ ap (λ (n : ℕ). Ok (Some n)) (omega arith)

pub stored-kept : (ps : List (List ℕ)) → Each Carried ps → kept_in (stored ps) ≡ record { packets = ps; end = Ok None }
unfolding stored flat_map next_in entry_in
stored-kept [] h = kept_next []
stored-kept (p ∷ ps) h =
    let rest : List ℕ = stored ps in
    let later = ap kept_in (drop_at (stored_packet p) rest (stored_head_bytes + length p) (omega arith)) ∙ stored-kept ps h.1 in
    kept_next (stored_packet p ++ rest)
    ∙ ap (λ (e : Next). kept_from e kept_in (stored_packet p ++ rest)) (next_stored p rest h.0)
    ∙ (λ i. record { packets = take_at p rest (length p) refl i ∷ (later i).packets; end = (later i).end })

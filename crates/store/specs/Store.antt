-- The reader of stored packets: at the start of a store stands its end, a packet of so many bytes, or what can't be read.
use Rattle.std.specs.Prelude.{ℕ, zero, suc, ◌+◌, ◌-◌, cond, List, [], ◌∷◌, eqb, length, take, drop, Option, Some, None, Result, Ok, Err}
use Rattle.records.specs.declared.Entry.{Entry}
use Rattle.records.specs.declared.Entry.TheVariants.{Unknown, Cut}
use Rattle.records.specs.declared.Entry.TheVariants.{End as EntryEnd, Whole as EntryWhole}
use Rattle.records.specs.declared.Form.TheVariants.{Foreign, Counted}
use Rattle.records.specs.Records.{mark_of, Forms, entry_in}
use Rattle.store.specs.declared.Broken.{Broken}
use Rattle.packets.specs.Packets.{shortest_packet, longest_packet}
use Rattle.packets.specs.Stored.{stored_head_bytes}

-- ---- the next packet; 15 is for an unknown mark, a cut record or a length outside the limits

abbrev pub store_form : Forms
store_form mark = cond (eqb mark (mark_of "IP")) (Counted shortest_packet longest_packet) Foreign

-- the end of the store, a packet of so many bytes, or what can't be read
abbrev pub Next : Type 0
Next = Result (Option ℕ) Broken

abbrev pub broken : Next
broken = Err (record {})

abbrev pub next_by : Entry → Next
next_by EntryEnd = Ok None
next_by (EntryWhole n) = Ok (Some (n - stored_head_bytes))
next_by Unknown = broken
next_by Cut = broken

unfoldable pub next_in : List ℕ → Next
next_in store = next_by (entry_in store_form store)

abbrev pub next_number : Next → ℕ
next_number (Ok n) = 0
next_number (Err b) = 15

-- the packet itself; none where there is none
abbrev pub packet_by : Next → List ℕ → List ℕ
packet_by (Ok (Some n)) store = take n (drop stored_head_bytes store)
packet_by (Ok None) store = []
packet_by (Err b) store = []

abbrev pub packet_in : List ℕ → List ℕ
packet_in store = packet_by (next_in store) store

-- where the packet begins, by what stands at a place of a store; none is at the start of the store
abbrev pub packet_place : Next → ℕ → ℕ
packet_place (Ok (Some n)) at = at + stored_head_bytes
packet_place (Ok None) at = 0
packet_place (Err b) at = 0

-- ---- the packets of a store, up to its end or what can't be read

pub record Kept : Type 0 where
  pub packets : List (List ℕ)
  pub end : Next

abbrev pub kept_from : Next → (List ℕ → Kept) → List ℕ → Kept
kept_from (Ok (Some n)) more store =
    let k = more (drop (stored_head_bytes + n) store) in record { packets = packet_by (Ok (Some n)) store ∷ k.packets; end = k.end }
kept_from (Ok None) more store = record { packets = []; end = Ok None }
kept_from (Err b) more store = record { packets = []; end = Err b }

-- at the most n packets; n may be any number above the length of the store
unfoldable pub kept_up_to : ℕ → List ℕ → Kept
kept_up_to zero store = record { packets = []; end = Ok None }
kept_up_to (suc n) store = kept_from (next_in store) (kept_up_to n) store

unfoldable pub kept_in : List ℕ → Kept
kept_in store = kept_up_to (suc (length store)) store

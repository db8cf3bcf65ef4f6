-- Laws of the program `wrap`, record by record. Assumes nothing.
use mathlib.Core.Path.{◌≡◌, refl, sym, ap, ap₂, subst, ◌∙◌}
use mathlib.Core.Bool.{true, false}
use mathlib.Core.List.{List, flat_map}
use Rattle.std.proofs.Common.{Result}
use Prim.Native.Nat.{ℕ, ◌+◌, ◌*◌, ◌/◌, ◌≤◌}
use native.Mathlib.Nat.{add-zero, mul-le-mul_left, div-mul-le_self}
use native.Mathlib.Omega.{arith}
use borrow.Author.Tests.{eqb-false, eq-eqb, ne_eqb}
use lib.Dec.{eqb, lit≤}
use lib.ListN.{length, take, drop, length-take}
use lib.Seq.{get_or-take}
use Rattle.octets.proofs.Laws.{either}
use Rattle.octets.specs.Each.{Each}
use Rattle.text.specs.Text.{text, Put}
use Rattle.text.proofs.Laws.{put_same}
use Rattle.rtp.specs.Header.{header_bytes}
use Rattle.packets.specs.Packets.{shortest_packet, longest_packet}
use Rattle.packets.specs.Stored.{line}
use Rattle.records.specs.declared.Form.{Form}
use Rattle.records.specs.declared.Form.TheVariants.{Foreign, Counted}
use Rattle.programs.specs.Programs.{Holds, Takes}
use Rattle.programs.proofs.Filling.{takes_both}
use Rattle.records.specs.Records.{length_bytes, mark_of, Record, body_in}
use Rattle.records.proofs.Channels.{Room}
use Rattle.reports.specs.Reports.{following, said, report_line, longest_report}
use Rattle.reports.proofs.Laws.{length-report}
use Rattle.wrapper.specs.declared.Numbers.{Numbers}
use Rattle.wrapper.specs.declared.Values.{Values}
use Rattle.wrapper.specs.declared.Refusal.{Refusal}
use Rattle.wrapper.proofs.Laws.{number_most}
use Rattle.wrapper.specs.Wrap.{most_size, Writer, writer, wrapped_values, Outcome, wrapped, WrapSays, closed, CloseSays}
use Rattle.round_trip.specs.Calls.{EndToEnd}
use Rattle.round_trip.proofs.Results.{write_end_to_end, write-outers_full, close_end_to_end, close-outers-short}
use Rattle.wrapping.specs.Wrapping.{stamp_bytes, wrap_form, State, state, record_head_bytes, outer_records, cut_into, is_stamp, stamp_in, longest_output, long_output, call, closing, next_state, wrap_channels, FedTo}
use Rattle.wrapping.proofs.Outers.{length-records_even, count_even, cut_even, Single, single}
use Rattle.wrapping.proofs.Calls.{output_long, Alike, write-records, write-size, write_alike, close_alike}

-- ---- what a mark tells

pub form_other : (mark : ℕ) → (mark ≡ mark_of "TI" → ⊥) → (mark ≡ mark_of "IP" → ⊥) → Foreign ≡ wrap_form mark
form_other mark stamp packet = simp (ne_eqb mark (mark_of "TI") stamp, ne_eqb mark (mark_of "IP") packet)

-- ---- a timestamp

stamp_taken : (n : ℕ) (xs : List ℕ) → stamp_bytes ≤ n → stamp_in (take n xs) ≡ stamp_in xs
stamp_taken n xs h =
    simp (get_or-take n xs 0 0 (omega arith), get_or-take n xs 1 0 (omega arith), get_or-take n xs 2 0 (omega arith), get_or-take n xs 3 0 (omega arith))

-- ---- a packet, and the close, with a scratch that is long enough

-- what stands end to end at the start of an output is no longer than that
wrote_inside : (output : List ℕ) (u : Outcome) → EndToEnd output u → (wrapped_values u.answer).wrote ≤ length u.output
wrote_inside output u e = omega (arith, e.0, ap length e.1, length-take (wrapped_values u.answer).wrote u.output)

module _ (m : Numbers) (bytes scratch : List ℕ) (most : m.size ≤ most_size) (long : longest_output ≤ length scratch) where
  abbrev w : Writer
  w = writer m bytes

  abbrev each : ℕ
  each = header_bytes + m.size

  module _ (packet : List ℕ) (stamp count : ℕ) (a : Result ℕ Refusal) (m' : Numbers) (bytes' scratch' : List ℕ) (says : WrapSays m bytes packet stamp scratch a m' bytes' scratch') (v : Values) (is : v ≡ wrapped_values a) where
    abbrev s : State
    s = state m bytes stamp count

    abbrev u : Outcome
    u = wrapped w scratch packet stamp

    like : Alike u (call s packet)
    like = write_alike w packet stamp scratch long_output long output_long

    told : EndToEnd scratch u
    told = write_end_to_end w scratch packet stamp

    even : Each (λ o. length o ≡ each) u.outers
    even = write-outers_full w scratch packet stamp

    same : v ≡ wrapped_values u.answer
    same = is ∙ ap wrapped_values says.answers

    wrote : v.wrote ≡ length (line u.outers)
    wrote = ap (λ (x : Values). x.wrote) same ∙ told.0

    count_is : v.wrote / each ≡ length u.outers
    count_is = count_even each u.outers even (omega arith) v.wrote wrote

    cut_is : cut_into (v.wrote / each) each scratch' ≡ (call s packet).outers
    cut_is =
        cut_even each u.outers even (omega arith) v.wrote wrote scratch' (ap₂ take (ap (λ (x : Values). x.wrote) same) says.leaves ∙ told.1)
        ∙ like.outers

    -- room for records of at most that length
    pub feed_room : (n : ℕ) → n ≤ header_bytes + m.size → (out : List ℕ) (to : ℕ) → to + longest_output ≤ length out → (n ≤ 65535) × (v.wrote / (header_bytes + m.size) * n ≤ length scratch') × (to + v.wrote / (header_bytes + m.size) * (record_head_bytes + n) ≤ length out)
    feed_room n few out to room =
        let k : ℕ = v.wrote / each in
        let records : k * (record_head_bytes + each) ≡ length (outer_records u.outers) =
        ap (λ (k : ℕ). k * (record_head_bytes + each)) count_is ∙ sym (length-records_even each u.outers even) in
        let inside : v.wrote ≤ length scratch' = omega (arith, ap (λ (x : Values). x.wrote) same, ap length says.leaves, wrote_inside scratch u told) in
        let less : k * n ≤ k * each = mul-le-mul_left k few in
        (omega arith, omega (arith, div-mul-le_self v.wrote each), omega (arith, records, write-records w packet stamp scratch))

    pub feed_says : (out : List ℕ) (to : ℕ) (out' : List ℕ) (to' : ℕ) → Put (outer_records (cut_into (v.wrote / (header_bytes + m.size)) (header_bytes + m.size) scratch')) out to out' to' → (n : ℕ) → n ≡ following count → (report : List ℕ) (line : ℕ) (report' : List ℕ) (line' : ℕ) → Put (report_line (text "IP") n (said v.number false 0 0)) report line report' line' → FedTo (state m bytes stamp count) packet out to report line (state m' bytes' stamp n) out' to' report' line'
    feed_says out to out' to' stored n next report line report' line' put =
        record {
          left = ap₂ (λ (x : Writer) (k : ℕ). record { writer = x; stamp = stamp; count = k }) (says.holds ∙ like.writer) next;
          stores = put_same out to (ap outer_records cut_is) stored;
          tells = put_same report line (ap₂ (λ (k : ℕ) (x : Values). report_line (text "IP") k (said x.number false 0 0)) next (same ∙ ap wrapped_values like.answer)) put;
        }

  module _ (a : Result ℕ Refusal) (m' : Numbers) (scratch' : List ℕ) (says : CloseSays m bytes scratch a m' scratch') (v : Values) (is : v ≡ wrapped_values a) where
    abbrev last : Outcome
    last = closed w scratch

    last_like : Alike last (closing w)
    last_like = close_alike w scratch long_output long output_long

    last_told : EndToEnd scratch last
    last_told = close_end_to_end w scratch

    last_wrote : v.wrote ≡ (wrapped_values last.answer).wrote
    last_wrote = ap (λ (x : Values). x.wrote) (is ∙ ap wrapped_values says.answers)

    one : Single last.outers each v.wrote scratch'
    one =
        single last.outers header_bytes each v.wrote scratch' (close-outers-short w scratch) (last_wrote ∙ last_told.0)
        (ap₂ take last_wrote says.leaves ∙ last_told.1)

    pub close_none : v.wrote ≡ 0 → (out : List ℕ) → Put (outer_records (closing (writer m bytes)).outers) out 0 out 0
    unfolding outer_records flat_map
    close_none none out = put_same out 0 (ap outer_records (sym (one.none none) ∙ last_like.outers)) (omega arith, refl)

    pub close_room : (out : List ℕ) → longest_output ≤ length out → (v.wrote ≤ 65535) × (1 * v.wrote ≤ length scratch') × (0 + 1 * (record_head_bytes + v.wrote) ≤ length out)
    close_room out room =
        (omega (arith, one.short), omega (arith, last_wrote, ap length says.leaves, wrote_inside scratch last last_told), omega (arith, one.short))

    pub close_says : (v.wrote ≡ 0 → ⊥) → (out out' : List ℕ) (r : ℕ) → Put (outer_records (cut_into 1 v.wrote scratch')) out 0 out' r → Put (outer_records (closing (writer m bytes)).outers) out 0 out' r
    close_says some out out' r = put_same out 0 (ap outer_records (one.only some ∙ last_like.outers))

-- ---- many records

pub both_fit : Room wrap_channels
both_fit s r =
    let packet : List ℕ = body_in r in
    let u : Outcome = call s packet in
    let said-short : length (report_line (text "IP") (following s.count) (said (wrapped_values u.answer).number false 0 0)) ≤ longest_report =
    length-report (text "IP") (following s.count) (wrapped_values u.answer).number false 0 0 (lit≤ tt) (omega arith) (omega (arith, number_most u.answer)) (omega arith) (omega arith) in
    either (is_stamp r) (λ t. rw t (omega arith))
    (λ t. rw t (omega (arith, said-short, write-records s.writer packet s.stamp long_output)))

-- the size stays
pub next_size : (n : ℕ) (s : State) (r : Record) → s.writer.numbers.size ≡ n → (next_state s r).writer.numbers.size ≡ n
next_size n s r e = either (is_stamp r) (λ t. rw t e) (λ t. rw t (write-size s.writer (body_in r) s.stamp long_output ∙ e))

-- ---- a record of the file

-- a packet stands behind its length
pub packet_long : (mark : ℕ) (content : List ℕ) → (mark ≡ mark_of "TI" → ⊥) → Holds (wrap_form mark) content → length_bytes ≤ length content
packet_long mark content other holds =
    either (eqb mark (mark_of "IP"))
    (λ t.
    let h : Holds (Counted shortest_packet longest_packet) content = rw (ne_eqb mark (mark_of "TI") other, t) at holds in
    omega (arith, h.0))
    (λ t. absurd (subst (λ (f : Form). Holds f content) (sym (form_other mark other (eqb-false mark (mark_of "IP") t))) holds))

module _ (s : State) (mark : ℕ) (content out : List ℕ) (to : ℕ) (report : List ℕ) (told : ℕ) (room : told + longest_output ≤ length report) where
  abbrev r : Record
  r = record { mark = mark; content = content }

  pub stamp_takes : mark ≡ mark_of "TI" → (stamp : ℕ) → stamp ≡ stamp_in content → (count : ℕ) → count ≡ following s.count → Takes wrap_channels s (record { mark = mark; content = content }) out to report told (state s.writer.numbers s.writer.bytes stamp count) out to report told
  stamp_takes marked stamp is count next =
      let stamped : is_stamp r ≡ true = eq-eqb mark (mark_of "TI") marked in
      takes_both wrap_channels (rw stamped (λ i. state s.writer.numbers s.writer.bytes (is i) (next i))) (rw stamped (sym (add-zero to), refl)) (rw stamped (sym (add-zero told), refl)) (both_fit s r) room

  pub packet_takes : (mark ≡ mark_of "TI" → ⊥) → (packet : List ℕ) → packet ≡ drop length_bytes content → {t : State} {out' : List ℕ} {to' : ℕ} {report' : List ℕ} {told' : ℕ} → FedTo s packet out to report told t out' to' report' told' → Takes wrap_channels s (record { mark = mark; content = content }) out to report told t out' to' report' told'
  packet_takes other packet is {t} {out'} {to'} {report'} {told'} fed =
      let unstamped : is_stamp r ≡ false = ne_eqb mark (mark_of "TI") other in
      let f : FedTo s (drop length_bytes content) out to report told t out' to' report' told' = subst (λ (p : List ℕ). FedTo s p out to report told t out' to' report' told') is fed in
      takes_both wrap_channels (rw unstamped f.left) (rw unstamped f.stores) (rw unstamped f.tells) (both_fit s r) room

-- Laws of the program `unwrap`, record by record. Assumes nothing.
use mathlib.Core.Path.{◌≡◌, sym, ap, ap₂, subst, ◌∙◌}
use mathlib.Core.List.{List, [], ◌++◌, append_assoc, append-nil}
use Prim.Native.Nat.{ℕ, ◌+◌, ◌-◌, ◌≤◌}
use native.Mathlib.Nat.{zero-add}
use native.Mathlib.Omega.{arith}
use lib.Dec.{lit≤}
use borrow.Rule.Slice.PartMut.{put_mid}
use lib.ListN.{length, take, drop, length-drop, length-replicate, drop_of_length-le}
use lib.Seq.{take_all, length-take-le, drop-drop, sets, sets-eq, length-sets}
use Rattle.text.specs.Text.{text, Put}
use Rattle.text.proofs.Laws.{put_same}
use Rattle.records.specs.Records.{body_in}
use Rattle.records.proofs.Channels.{Room}
use Rattle.programs.specs.Programs.{Takes}
use Rattle.programs.proofs.Filling.{takes_both}
use Rattle.reports.specs.Reports.{following, said, report_line, longest_report}
use Rattle.reports.proofs.Laws.{length-report}
use Rattle.tunnel.specs.declared.Numbers.{Numbers}
use Rattle.tunnel.specs.declared.Values.{Values}
use Rattle.std.specs.Prelude.{Ok, Err}
use Rattle.tunnel.specs.declared.Unwrapped.TheVariants.{Stored, Repeat}
use Rattle.tunnel.specs.declared.Refusal.TheVariants.{ShortOutput, Foreign, BadOffset}
use Rattle.tunnel.specs.Unwrap.{shortest_output, most_stored, Answer, Reader, reader, unwrapped_values, unwrapped, UnwrapSays}
use Rattle.tunnel.proofs.Results.{Alike, alike, most_stored_lem, most_left_out, most_lost}
use Rattle.unwrapping.specs.Unwrapping.{State, state, long_output, call, packets_text, sayings, report_text, unwrap_channels, FedTo}

-- ---- a call on zeros, and on the rest of an output

-- all of a list behind a place, put back with other values
pub put_back : (vs l : List ℕ) (to : ℕ) → to + length vs ≤ length l → put_mid to (length l - to) l (sets (take (length l - to) (drop to l)) 0 vs) ≡ sets l to vs
put_back vs l to room =
    let rest : List ℕ = drop to l in
    let whole : take (length l - to) rest ≡ rest = take_all (length l - to) rest (omega (arith, length-drop to l)) in
    let none : drop (length l - to) rest ≡ [] = drop_of_length-le rest {i = length l - to} (omega (arith, length-drop to l)) in
    ap₂ (λ (t u : List ℕ). take to l ++ (sets t 0 vs ++ u)) whole none
    ∙ ap (λ (t : List ℕ). take to l ++ t) (append-nil (sets rest 0 vs) ∙ sets-eq vs rest 0 (omega (arith, length-drop to l)) ∙ ap (λ (k : ℕ). vs ++ drop k rest) (zero-add (length vs)))
    ∙ ap (λ (t : List ℕ). take to l ++ (vs ++ t)) (drop-drop (length vs) to l)
    ∙ sym (append_assoc (take to l) vs (drop (to + length vs) l))
    ∙ sym (sets-eq vs l to room)

output_is : length long_output ≡ shortest_output
unfolding long_output
output_is = length-replicate {A = ℕ} shortest_output 0

output_long : shortest_output ≤ length long_output
output_long = omega (arith, output_is)

module _ (s : State) (outer : List ℕ) where
  -- what is stored has the length that the answer says
  output-length : length (call s outer).output ≡ shortest_output
  output-length =
      ap length (alike s.reader outer long_output long_output output_long output_long).output
      ∙ length-sets long_output 0 (packets_text s outer)
      ∙ output_is

  packets-length : length (packets_text s outer) ≡ (unwrapped_values (call s outer).answer).stored
  packets-length = length-take-le (unwrapped_values (call s outer).answer).stored (call s outer).output (omega (arith, most_stored_lem s.reader outer long_output, output-length))

  packets-short : length (packets_text s outer) ≤ most_stored
  packets-short = omega (arith, packets-length, most_stored_lem s.reader outer long_output)

-- ---- an outer packet

module _ (m : Numbers) (part outer out : List ℕ) (to : ℕ) (room : to + shortest_output ≤ length out) (count : ℕ) where
  abbrev s : State
  s = state m part count

  abbrev rest : List ℕ
  rest = take (length out - to) (drop to out)

  rest_long : shortest_output ≤ length rest
  rest_long = omega (arith, length-take-le (length out - to) (drop to out) (omega (arith, length-drop to out)), length-drop to out)

  like : Alike (reader m part) outer rest long_output rest_long output_long (unwrapped (reader m part) outer rest) (call s outer)
  like = alike (reader m part) outer rest long_output rest_long output_long

  pub stored_room : (a : Answer) (m' : Numbers) (part' rest' : List ℕ) → UnwrapSays m part outer (take (length out - to) (drop to out)) a m' part' rest' → (v : Values) → v ≡ unwrapped_values a → to + v.stored ≤ length out
  stored_room a m' part' rest' says v is =
      omega (arith, ap (λ (w : Values). w.stored) (is ∙ ap unwrapped_values says.answers), most_stored_lem (reader m part) outer rest, room)

  pub feed_says : (a : Answer) (m' : Numbers) (part' rest' : List ℕ) → UnwrapSays m part outer (take (length out - to) (drop to out)) a m' part' rest' → (v : Values) → v ≡ unwrapped_values a → (n : ℕ) → n ≡ following count → (report report' : List ℕ) (told line : ℕ) → Put (report_line (text "OP") n (said v.number v.repeat v.gap v.lost)) report told report' line → FedTo (state m part count) outer out to report told (state m' part' n) (put_mid to (length out - to) out rest') (to + v.stored) report' line
  feed_says a m' part' rest' says v is n next report report' told line put =
      let same : v ≡ unwrapped_values (call s outer).answer = is ∙ ap unwrapped_values (says.answers ∙ like.answer) in
      record {
        left = ap₂ (λ (r : Reader) (k : ℕ). record { reader = r; count = k }) (says.holds ∙ like.reader) next;
        stores = (
          ap (λ (w : Values). to + w.stored) same ∙ ap (λ (k : ℕ). to + k) (sym (packets-length s outer)),
          ap (put_mid to (length out - to) out) (says.leaves ∙ like.output) ∙ put_back (packets_text s outer) out to (omega (arith, packets-short s outer, room)),
        );
        tells = put_same report told (ap₂ (λ (k : ℕ) (w : Values). report_line (text "OP") k (sayings w)) next same) put;
      }

-- ---- the room that both texts of a record take

report-short : (s : State) (outer : List ℕ) → length (report_text s outer) ≤ longest_report
report-short s outer =
    let v : Values = unwrapped_values (call s outer).answer in
    length-report (text "OP") (following s.count) v.number v.repeat v.gap v.lost (lit≤ tt) (omega arith) (omega (arith, number_small (call s outer).answer))
    (omega (arith, most_left_out s.reader outer long_output))
    (omega (arith, most_lost s.reader outer long_output))
  where
    number_small : (a : Answer) → (unwrapped_values a).number ≤ 17
    number_small (Ok (Stored n gap lost)) = lit≤ tt
    number_small (Ok Repeat) = lit≤ tt
    number_small (Err ShortOutput) = lit≤ tt
    number_small (Err Foreign) = lit≤ tt
    number_small (Err (BadOffset gap lost)) = lit≤ tt

pub unwrap_room : Room unwrap_channels
unwrap_room s r = omega (arith, packets-short s (body_in r), report-short s (body_in r))

-- ---- a record: an outer packet, given to the reader

module _ (m : Numbers) (part content out : List ℕ) (to : ℕ) (room : to + shortest_output ≤ length out) (count mark : ℕ) where
  pub packet_takes : (outer : List ℕ) → outer ≡ drop 2 content → (a : Answer) (m' : Numbers) (part' rest' : List ℕ) → UnwrapSays m part outer (take (length out - to) (drop to out)) a m' part' rest' → (v : Values) → v ≡ unwrapped_values a → (n : ℕ) → n ≡ following count → (report : List ℕ) (told : ℕ) → told + shortest_output ≤ length report → {report' : List ℕ} {line : ℕ} → Put (report_line (text "OP") n (said v.number v.repeat v.gap v.lost)) report told report' line → Takes unwrap_channels (state m part count) (record { mark = mark; content = content }) out to report told (state m' part' n) (put_mid to (length out - to) out rest') (to + v.stored) report' line
  packet_takes outer behind a m' part' rest' says v is n next report told tellable {report' = report'} {line = line} put =
      let fed = feed_says m part outer out to room count a m' part' rest' says v is n next report report' told line put in
      let f = subst (λ (o : List ℕ). FedTo (state m part count) o out to report told (state m' part' n) (put_mid to (length out - to) out rest') (to + v.stored) report' line) behind fed in
      takes_both unwrap_channels f.left f.stores f.tells (unwrap_room (state m part count) (record { mark = mark; content = content })) tellable

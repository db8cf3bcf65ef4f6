-- A desk that keeps the first piece of a chunk and only claims the later ones does not meet demand 3: two pieces tell. Assumes nothing.
use mathlib.Core.Path.{◌≡◌, refl, ap}
use mathlib.Core.List.{List, [], ◌∷◌, ◌++◌, flat_map, map}
use Prim.Native.Nat.{ℕ, zero, suc, ◌+◌, ◌*◌, ◌≤◌, ◌<◌}
use native.Mathlib.Omega.{arith}
use lib.Dec.{T}
use lib.ListN.{length, get_or, drop, replicate}
use lib.Count.{ones, ones_in}
use Rattle.octets.specs.Bits.{bits, laid, number, octets, bytes_of}
use Rattle.octets.specs.Each.{Each}
use Rattle.octets.specs.Checks.{among}
use Rattle.meaning.specs.declared.Kind.TheVariants.{This}
use Rattle.meaning.specs.Sizes.{ts_bytes, en_bytes, sv_bytes, longest_listing}
use Rattle.meaning.specs.Lists.{Service, known, FicList}
use Rattle.meaning.specs.Layout.{service_fields, ensemble_head, ensemble_fields, chunk_head, chunk_fields, wire, Carries}
use Rattle.meaning.specs.Listing.{listing, ensemble_listing}
use Rattle.meaning.specs.Plain.{plain}
use Rattle.meaning.specs.Reading.{checks, ensembles_checks, list_in, ensembles_at, services_at}
use Rattle.octets.proofs.Laws.{bytes-bytes_of}
use Rattle.meaning.proofs.Sound.{accepted-carried}
use Rattle.segments.specs.Segment.{head_fields, segment, segment_checks}
use Rattle.segments.specs.Cut.{segment_count, piece_of}
use Rattle.writer.specs.Writing.{plainly}
use Rattle.writer.proofs.Sent.{plainly_suits}
use Rattle.slots.specs.Slots.{zeros, slot_fits, clashing}
use Rattle.slots.specs.Gathering.{gathered, completed}
use Rattle.desk.specs.Desks.{fresh, well_formed, taken_by, segment_after}
use Rattle.desk.specs.Calls.{state, Ran, ran_by}
use Rattle.gatherings.specs.Once.{Delivery, piece, call_for, MayCome, numbers_of, ListsAll}
use Rattle.gatherings.specs.KeepsFirst.{keeps_first}
use Rattle.gatherings.proofs.Starts.{fresh_start}

-- one ensemble with nine services: 36 bytes, so the last byte of the last service is alone in the second piece
service : Service
service = record { id = 0x0A01; multi = 0; status = 3; sp = 0 }

list : FicList
list =
    record {
      stream = 0x0123;
      ensembles = known (record { id = 5; slt = 1; gat = 0; eat = 0; channel = 3; services = replicate 9 service }) ∷ [];
    }

chunk : List ℕ
chunk = wire (plain This list)

abbrev fill : List ℕ
fill = (plainly (length chunk)).fill

deliveries : List Delivery
deliveries = piece 0 1 1 longest_listing longest_listing ∷ piece 1 1 1 longest_listing longest_listing ∷ []

memory : List ℕ
memory = zeros longest_listing

run : Ran
run = ran_by keeps_first (state fresh memory memory) (map (call_for chunk fill) deliveries)

-- where the last service's status is in the listing; it is 0 there, and 3 in the list
abbrev place : ℕ
place = ts_bytes + en_bytes + 8 * sv_bytes + 6

status-lost : get_or run.left.first place 0 ≡ 0
unfolding run memory deliveries chunk list service ran_by keeps_first piece_of segment head_fields wire chunk_fields chunk_head ensemble_fields ensemble_head service_fields bytes_of octets number laid bits flat_map segment_after taken_by well_formed slot_fits clashing gathered completed segment_checks checks ensembles_checks list_in ensembles_at services_at listing ensemble_listing ones ones_in
status-lost = refl

status-sent : (rest : List ℕ) → get_or (listing list ++ rest) place 0 ≡ 3
unfolding list service listing ensemble_listing flat_map
status-sent rest = refl

carried : Carries chunk This 0 list
unfolding chunk list service wire chunk_fields chunk_head ensemble_fields ensemble_head service_fields bytes_of octets number laid bits flat_map checks ensembles_checks list_in ensembles_at services_at
carried = accepted-carried (bytes-bytes_of (chunk_fields (plain This list))) (record { passes = refl; kind = refl; minor = refl; list = refl })

long : longest_listing ≤ length memory
unfolding memory
long = omega arith

every : (i : ℕ) → i < segment_count (length chunk) → T (among (numbers_of deliveries) i)
unfolding deliveries chunk list service wire chunk_fields chunk_head ensemble_fields ensemble_head service_fields bytes_of octets number laid bits flat_map
every zero l = tt
every (suc zero) l = tt
every (suc (suc i)) l = absurd (omega arith)

allowed : Each (MayCome (segment_count (length chunk)) This) deliveries
unfolding deliveries chunk list service wire chunk_fields chunk_head ensemble_fields ensemble_head service_fields bytes_of octets number laid bits flat_map
allowed = omega arith

pub first_not_enough : ListsAll keeps_first → ⊥
unfolding run
first_not_enough all =
    let c = all chunk This 0 list carried fill (plainly_suits chunk).bytes (plainly_suits chunk).whole deliveries allowed every fresh fresh_start memory memory long long in
    let same : get_or run.left.first place 0 ≡ get_or (listing list ++ drop (length (listing list)) memory) place 0 = ap (λ (xs : List ℕ). get_or xs place 0) c.own in
    omega (arith, status-lost, status-sent (drop (length (listing list)) memory))

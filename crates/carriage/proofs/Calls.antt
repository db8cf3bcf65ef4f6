-- One call, with an outer packet of the tunnel that is no repeat and an output that is long enough: the packets that are found come out, and the part that is
-- found is held. Assumes nothing.
use mathlib.Core.Path.{◌≡◌, refl, ap, ◌∙◌}
use mathlib.Core.Bool.{Bool, true, false, ◌&&◌}
use mathlib.Core.List.{List}
use Prim.Native.Nat.{ℕ, ◌≤◌, ◌<◌}
use native.Mathlib.Omega.{arith}
use borrow.Author.Tests.{le-ltb, lt-leb}
use lib.Dec.{leb}
use lib.ListN.{length}
use lib.Seq.{length-sets}
use Rattle.std.specs.Prelude.{Some}
use Rattle.octets.proofs.Laws.{either}
use Rattle.rtp.specs.Header.{sequence_in, payload_in}
use Rattle.packets.specs.Packets.{longest_packet}
use Rattle.packets.specs.Stored.{stored}
use Rattle.store.specs.Store.{Kept, kept_in}
use Rattle.store.proofs.Laws.{stored-kept}
use Rattle.tunnel.specs.Outer.{offset_in, is_outer}
use Rattle.tunnel.specs.Unwrap.{shortest_output, Reader, part_of, is_repeat, Found, marked, found, read, accepted, unwrapped, Result}
use Rattle.tunnel.proofs.Results.{Taken, take_put, found_carried, stored_found, part_held}
use Rattle.carriage.specs.Fed.{Read, came_out}

-- ---- a call

-- what it leaves
pub record Called (outer : List ℕ) (f : Found) (u : Result) : Type 0 where
  pub reads : Read u
  pub out : came_out u ≡ f.packets
  pub memory : length u.reader.bytes ≡ longest_packet
  pub part : part_of u.reader ≡ f.part
  pub last : u.reader.numbers.last ≡ Some (sequence_in outer)

module _ (r : Reader) (outer output : List ℕ) (memory : length r.bytes ≡ longest_packet) (long : shortest_output ≤ length output) (is : is_outer outer ≡ true) (new : is_repeat r.numbers (sequence_in outer) ≡ false) (inside : marked r outer output ≡ true → offset_in outer < length (payload_in outer)) where
  abbrev first : Bool
  first = marked r outer output

  abbrev payload : List ℕ
  payload = payload_in outer

  abbrev f : Found
  f = found r outer output

  unwrapped-read : unwrapped r outer output ≡ read r outer output
  unfolding unwrapped accepted
  unwrapped-read =
      let right : (first && leb (length payload) (offset_in outer)) ≡ false =
      either first (λ t. rw t (lt-leb (length payload) (offset_in outer) (inside t))) (λ t. rw t refl) in
      rw (le-ltb (length output) shortest_output long, is, new, right) refl

  taken : Taken r outer output
  taken = record { long = long; ours = is; new = new }

  called-read : Called outer f (read r outer output)
  called-read =
      record {
        reads = record { number = refl; new = refl };
        out =
            ap (λ (t : List ℕ). (kept_in t).packets) (take_put (stored f.packets) output (omega (arith, stored_found r outer output taken)))
            ∙ ap (λ (k : Kept). k.packets) (stored-kept f.packets (found_carried r outer output taken));
        memory = length-sets r.bytes 0 f.part ∙ memory;
        part = part_held r outer output memory taken;
        last = refl;
      }

  pub called : Called outer (found r outer output) (unwrapped r outer output)
  called = rw unwrapped-read called-read

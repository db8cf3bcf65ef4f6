-- Document 01, "Sample bytes", those marked P: one table, and one statement that the definitions give what it says. Then the longest listing,
-- which a chunk of 183 services reaches. Assumes nothing.
use mathlib.Core.Path.{◌≡◌, refl}
use mathlib.Core.List.{List, [], ◌∷◌, map, flat_map}
use Prim.Native.Nat.{ℕ}
use lib.ListN.{length, take, replicate}
use Rattle.meaning.specs.declared.Refusal.{Refusal}
use Rattle.meaning.specs.declared.Kind.{Kind}
use Rattle.meaning.specs.declared.Kind.TheVariants.{This}
use Rattle.meaning.specs.declared.Part.TheVariants.{SingleService}
use Rattle.meaning.specs.declared.Listed.{Listed}
use Rattle.meaning.specs.Sizes.{longest_listing}
use Rattle.meaning.specs.Numbers.{read_values}
use native.Mathlib.Omega.{arith}
use Rattle.std.proofs.Common.{Result, Ok, Err}
use Rattle.octets.specs.Bits.{bits, laid, number, octets, bytes_of}
use Rattle.meaning.specs.Layout.{Chunk, service_fields, ensemble_head, ensemble_fields, chunk_head, chunk_fields, wire, Carries}
use Rattle.meaning.specs.Lists.{known, unknown, FicList}
use Rattle.meaning.specs.Listing.{ensemble_listing, listing}
use Rattle.meaning.specs.Reading.{checks, ensembles_checks, services_at, ensembles_at, list_in, read_answer, read_buffer}
use Rattle.meaning.specs.Ends.{EndsIn}
use Rattle.meaning.proofs.Sound.{accepted-carried}
use Rattle.meaning.proofs.Ends.{told_ends}

-- a sample: the chunk, the number that is answered and the offset with it, the kind where there is one, the minor edition, and the listing
record Sample : Type 0 where
  chunk : List ℕ
  number : ℕ
  at : ℕ
  kind : List Kind
  minor : ℕ
  listed : List ℕ

kind_of_answer : Result Listed Refusal → List Kind
kind_of_answer (Ok l) = l.kind ∷ []
kind_of_answer (Err f) = []

-- what the definitions give for a chunk, with a buffer that is long enough
given : List ℕ → Sample
given xs =
    let buffer : List ℕ = replicate longest_listing 0 in
    let answer = read_answer xs buffer in
    record {
      chunk = xs;
      number = (read_values answer).number;
      at = (read_values answer).at;
      kind = kind_of_answer answer;
      minor = (read_values answer).minor;
      listed = take (read_values answer).length (read_buffer xs buffer);
    }

accepted : ℕ → List ℕ → List ℕ → Sample
accepted m l xs = record { chunk = xs; number = 0; at = 0; kind = This ∷ []; minor = m; listed = l }

refused : ℕ → ℕ → List ℕ → Sample
refused n at xs = record { chunk = xs; number = n; at = at; kind = []; minor = 0; listed = [] }

first_listing : List ℕ
first_listing = 0x54 ∷ 0x53 ∷ 0x01 ∷ 0x23 ∷ 0x01 ∷ 0x45 ∷ 0x4E ∷ 0x05 ∷ 0x04 ∷ 0x03 ∷ 0x01 ∷ 0x53 ∷ 0x56 ∷ 0x05 ∷ 0x0A ∷ 0x01 ∷ 0x00 ∷ 0x03 ∷ 0x00 ∷ []

pub unknown_listing : List ℕ
unknown_listing = 0x54 ∷ 0x53 ∷ 0x01 ∷ 0x23 ∷ 0x01 ∷ 0x45 ∷ 0x55 ∷ 0x05 ∷ 0x01 ∷ []

pub first_chunk : List ℕ
first_chunk = 0x00 ∷ 0x03 ∷ 0x01 ∷ 0x23 ∷ 0x01 ∷ 0x05 ∷ 0xE0 ∷ 0x83 ∷ 0x01 ∷ 0x0A ∷ 0x01 ∷ 0xE6 ∷ []

second_chunk : List ℕ
second_chunk = 0x09 ∷ 0x43 ∷ 0x01 ∷ 0x23 ∷ 0xAA ∷ 0x01 ∷ 0x05 ∷ 0xE0 ∷ 0x83 ∷ 0xBB ∷ 0xCC ∷ 0x01 ∷ 0x0A ∷ 0x01 ∷ 0xE6 ∷ []

-- its ensemble is of version 1
pub unknown_chunk : List ℕ
unknown_chunk = 0x00 ∷ 0x03 ∷ 0x01 ∷ 0x23 ∷ 0x01 ∷ 0x05 ∷ 0xE1 ∷ 0x83 ∷ 0x01 ∷ 0x0A ∷ 0x01 ∷ 0xE6 ∷ []

-- the first without its last byte
pub cut_chunk : List ℕ
cut_chunk = 0x00 ∷ 0x03 ∷ 0x01 ∷ 0x23 ∷ 0x01 ∷ 0x05 ∷ 0xE0 ∷ 0x83 ∷ 0x01 ∷ 0x0A ∷ 0x01 ∷ []

samples : List Sample
samples =
    accepted 0 first_listing first_chunk
    ∷ accepted 1 first_listing second_chunk
    ∷ accepted 0 (0x54 ∷ 0x53 ∷ 0x01 ∷ 0x23 ∷ 0x00 ∷ []) (0x00 ∷ 0x03 ∷ 0x01 ∷ 0x23 ∷ 0x00 ∷ [])
    ∷ refused 9 0 (0x00 ∷ 0x03 ∷ 0x01 ∷ 0x23 ∷ [])
    ∷ refused 9 0 []
    ∷ refused 9 0 (0x40 ∷ [])
    ∷ refused 5 0 (0x40 ∷ 0x03 ∷ [])
    ∷ refused 9 5 (0x00 ∷ 0x03 ∷ 0x01 ∷ 0x23 ∷ 0x01 ∷ [])
    ∷ accepted 0 unknown_listing unknown_chunk
    ∷ refused 9 9 cut_chunk
    ∷ []

samples_hold : map (λ r. given r.chunk) samples ≡ samples
unfolding samples accepted refused first_listing unknown_listing first_chunk second_chunk unknown_chunk cut_chunk given kind_of_answer read_answer read_buffer checks ensembles_checks services_at ensembles_at list_in listing ensemble_listing flat_map
samples_hold = refl

-- the last of them ends in its service, at 9, in the words of the tables too
pub cut_ends : EndsIn cut_chunk SingleService 9
unfolding cut_chunk checks ensembles_checks
cut_ends = told_ends (omega arith) refl

-- the two chunks with an ensemble, from the tables: the same fields in two dresses
sent_as : ℕ → List ℕ → List ℕ → Chunk
sent_as minor h e =
    record {
      major = 0;
      minor = minor;
      h = length h;
      e = length e;
      s = 0;
      reserved = 1;
      current = 1;
      stream = 0x0123;
      extension = h;
      ensembles =
          record {
            id = 5;
            reserved = 7;
            version = 0;
            slt = 1;
            gat = 0;
            eat = 0;
            channel = 3;
            extension = e;
            services = record { id = 0x0A01; reserved = 7; multi = 0; status = 3; sp = 0; extension = [] } ∷ [];
          }
          ∷ [];
      stuffing = [];
    }

layouts_hold : (wire (sent_as 0 [] []) ≡ first_chunk) × (wire (sent_as 1 (0xAA ∷ []) (0xBB ∷ 0xCC ∷ [])) ≡ second_chunk)
unfolding sent_as first_chunk second_chunk wire chunk_fields chunk_head ensemble_fields ensemble_head service_fields bytes_of octets number laid bits flat_map
layouts_hold = (refl, refl)

-- the first of them carries its list, and so does that with an unknown ensemble
pub first_list : FicList
first_list =
    record {
      stream = 0x0123;
      ensembles =
          known
          (record { id = 5; slt = 1; gat = 0; eat = 0; channel = 3; services = record { id = 0x0A01; multi = 0; status = 3; sp = 0 } ∷ [] })
          ∷ [];
    }

pub first_carried : Carries first_chunk This 0 first_list
unfolding first_chunk first_list checks ensembles_checks services_at ensembles_at list_in
first_carried = accepted-carried (omega arith) (record { passes = refl; kind = refl; minor = refl; list = refl })

pub unknown_list : FicList
unknown_list = record { stream = 0x0123; ensembles = unknown (record { id = 5; version = 1 }) ∷ [] }

pub unknown-carried : Carries unknown_chunk This 0 unknown_list × (listing unknown_list ≡ unknown_listing)
unfolding unknown_chunk unknown_list unknown_listing checks ensembles_checks ensembles_at list_in listing ensemble_listing flat_map
unknown-carried = (accepted-carried (omega arith) (record { passes = refl; kind = refl; minor = refl; list = refl }), refl)

-- one ensemble with 183 services, 558 bytes
longest_one : List ℕ
longest_one = 0x00 ∷ 0x03 ∷ 0x01 ∷ 0x23 ∷ 1 ∷ 0x05 ∷ 0xE0 ∷ 0x83 ∷ 183 ∷ replicate 549 0

pub longest_reached : (xs : List ℕ) × (checks xs ≡ Ok tt) × (length (listing (list_in xs)) ≡ longest_listing)
unfolding longest_one checks ensembles_checks services_at ensembles_at list_in listing ensemble_listing flat_map
longest_reached = (longest_one, refl, refl)

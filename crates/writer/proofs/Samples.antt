-- Document 01, "Sample bytes", those about the writer: one table, and one statement that the definitions give what it says. Assumes nothing.
use mathlib.Core.Path.{◌≡◌, refl}
use mathlib.Core.List.{List, [], ◌∷◌, ◌++◌, map, flat_map}
use Prim.Native.Nat.{ℕ, zero, suc}
use lib.ListN.{take, replicate}
use Rattle.octets.specs.Bits.{bits, laid, number, octets, bytes_of}
use Rattle.meaning.specs.declared.Kind.TheVariants.{This}
use Rattle.meaning.specs.Layout.{service_fields, ensemble_head, ensemble_fields, chunk_head, chunk_fields, wire}
use Rattle.meaning.specs.Said.{sv_fits, services_fit, services_said, en_fits, ensembles_fit, ensembles_said, listing_fits, list_said}
use Rattle.meaning.specs.Lists.{services_of}
use Rattle.segments.specs.Segment.{head_fields, segment}
use Rattle.segments.specs.Cut.{piece_of, up_from}
use Rattle.writer.specs.Writing.{written_values, plain_segments, write_answer, write_output}

-- ---- listings

-- so many services of an ensemble
services : ℕ → ℕ → List ℕ
services id zero = []
services id (suc n) = 0x53 ∷ 0x56 ∷ id ∷ 0x0A ∷ 0x01 ∷ 0 ∷ 3 ∷ 0 ∷ services id n

ensemble : ℕ → List ℕ
ensemble n = 0x45 ∷ 0x4E ∷ 5 ∷ 4 ∷ 3 ∷ n ∷ services 5 n

-- an ensemble with a service of another one
other : List ℕ
other = 0x45 ∷ 0x4E ∷ 5 ∷ 4 ∷ 3 ∷ 1 ∷ services 6 1

-- a stream whose ensembles have so many services
stream : ℕ → List ℕ → List ℕ
stream n counts = 0x54 ∷ 0x53 ∷ 0x01 ∷ 0x23 ∷ n ∷ flat_map ensemble counts

-- an unknown ensemble
unknown : List ℕ
unknown = 0x45 ∷ 0x55 ∷ 6 ∷ 1 ∷ []

-- ---- what is answered: the listing, its number, how many segments

record Sample : Type 0 where
  listing : List ℕ
  number : ℕ
  count : ℕ

output : List ℕ
output = replicate 592 0

given : List ℕ → Sample
given xs = let answer = write_answer xs This output in record { listing = xs; number = (written_values answer).number; count = (written_values answer).count }

sample : List ℕ → ℕ → ℕ → Sample
sample xs n m = record { listing = xs; number = n; count = m }

samples : List Sample
samples =
    sample (stream 1 (1 ∷ [])) 0 1
    ∷ sample (stream 1 (183 ∷ [])) 0 16
    ∷ sample (stream 1 (184 ∷ [])) 14 0
    ∷ sample (stream 3 (60 ∷ 60 ∷ 61 ∷ [])) 0 16
    ∷ sample (stream 3 (60 ∷ 61 ∷ 61 ∷ [])) 14 0
    ∷ sample (stream 2 (1 ∷ [])) 13 0
    ∷ sample (stream 0 (1 ∷ [])) 13 0
    ∷ sample (stream 1 (184 ∷ []) ++ (0 ∷ [])) 13 0
    ∷ sample (stream 1 [] ++ unknown) 13 0
    ∷ sample (stream 1 [] ++ other) 13 0
    ∷ sample (stream 2 (1 ∷ []) ++ unknown) 13 0
    ∷ []

samples_hold : map (λ s. given s.listing) samples ≡ samples
unfolding samples given sample output unknown other stream ensemble services write_answer plain_segments wire chunk_fields chunk_head ensemble_fields ensemble_head service_fields bytes_of octets number laid bits flat_map listing_fits ensembles_fit en_fits services_fit sv_fits list_said ensembles_said services_said services_of up_from
samples_hold = refl

-- the first of them: one segment, then the output as it was
first_written : take 38 (write_output (stream 1 (1 ∷ [])) This output) ≡ (0x32 ∷ 0x00 ∷ 0x00 ∷ 0x03 ∷ 0x01 ∷ 0x23 ∷ 0x01 ∷ 0x05 ∷ 0xE0 ∷ 0x83 ∷ 0x01 ∷ 0x0A ∷ 0x01 ∷ 0xE6 ∷ []) ++ replicate 23 0xFF ++ (0 ∷ [])
unfolding output stream ensemble services write_answer write_output plain_segments wire chunk_fields chunk_head ensemble_fields ensemble_head service_fields bytes_of octets number laid bits flat_map listing_fits ensembles_fit en_fits services_fit sv_fits list_said ensembles_said services_said services_of piece_of segment head_fields up_from
first_written = refl

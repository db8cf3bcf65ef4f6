-- Document 01's reader: the fields by their places in a chunk, the checks in order, the list that is read, and what the public call answers
-- and leaves in the lent buffer.
use Rattle.std.specs.Prelude.{ℕ, zero, suc, ◌+◌, ◌*◌, ◌/◌, ◌%◌, ◌≡◌, not, cond, List, [], ◌∷◌, ◌++◌, ltb, eqb, length, get_or, drop, Result, Ok, Err}
use Rattle.octets.specs.Word.{word}
use Rattle.octets.specs.Checks.{check}
use Rattle.meaning.specs.declared.Refusal.{Refusal}
use Rattle.meaning.specs.declared.Kind.{Kind}
use Rattle.meaning.specs.declared.Part.TheVariants.{Header, EnsembleFields, SingleService}
use Rattle.meaning.specs.declared.Refusal.TheVariants.{ShortBuffer, OtherMajor, TooLong, EndsEarly}
use Rattle.meaning.specs.declared.Listed.{Listed}
use Rattle.meaning.specs.Sizes.{longest_chunk, chunk_header_bytes, ensemble_bytes, service_bytes, longest_listing}
use Rattle.meaning.specs.Lists.{Service, Known, Unknown, Ensemble, known, unknown, FicList, kind_of}
use Rattle.meaning.specs.Listing.{listing}

-- ---- the fields: of a chunk xs, of an ensemble at the start of ys, of a service at the start of zs

abbrev pub major_in : List ℕ → ℕ
major_in xs = get_or xs 0 0 / 64

abbrev pub minor_in : List ℕ → ℕ
minor_in xs = get_or xs 0 0 / 8 % 8

abbrev pub h_in : List ℕ → ℕ
h_in xs = get_or xs 0 0 % 8

abbrev pub e_in : List ℕ → ℕ
e_in xs = get_or xs 1 0 / 32

abbrev pub s_in : List ℕ → ℕ
s_in xs = get_or xs 1 0 / 4 % 8

abbrev pub kind_in : List ℕ → Kind
kind_in xs = kind_of (get_or xs 1 0 % 2)

abbrev pub stream_in : List ℕ → ℕ
stream_in xs = word (get_or xs 2 0) (get_or xs 3 0)

-- num_ensembles, after the header's extension bytes
abbrev pub count_in : List ℕ → ℕ
count_in xs = get_or xs (4 + h_in xs) 0

abbrev pub version_in : List ℕ → ℕ
version_in ys = get_or ys 1 0 % 32

-- num_MH_services, after the ensemble's e extension bytes
abbrev pub services_in : ℕ → List ℕ → ℕ
services_in e ys = get_or ys (3 + e) 0

-- the bytes of an ensemble's services, s extension bytes each
abbrev pub services_room : ℕ → ℕ → List ℕ → ℕ
services_room e s ys = services_in e ys * (service_bytes + s)

-- what follows the header, what follows the fields of an ensemble, and what follows its services
abbrev pub after_header : List ℕ → List ℕ
after_header xs = drop (chunk_header_bytes + h_in xs) xs

abbrev pub inside : ℕ → List ℕ → List ℕ
inside e ys = drop (ensemble_bytes + e) ys

abbrev pub past : ℕ → ℕ → List ℕ → List ℕ
past e s ys = drop (services_room e s ys) (inside e ys)

-- ---- the checks; number 9 tells what the first thing is that does not fit whole, and its offset in the chunk

-- of room bytes, those that whole services take, s extension bytes each
abbrev pub whole_services : ℕ → ℕ → ℕ
whole_services s room = room / (service_bytes + s) * (service_bytes + s)

-- n ensembles at the start of ys, which is the chunk from the offset at on
unfoldable pub ensembles_checks : ℕ → ℕ → ℕ → ℕ → List ℕ → Result Unit Refusal
ensembles_checks e s zero at ys = Ok tt
ensembles_checks e s (suc n) at ys =
    let services = at + (ensemble_bytes + e) in
    check (ltb (length ys) (ensemble_bytes + e)) (Err (EndsEarly EnsembleFields at))  -- 9
    (check (ltb (length (inside e ys)) (services_room e s ys)) (Err (EndsEarly SingleService (services + whole_services s (length (inside e ys)))))  -- 9
    (ensembles_checks e s n (services + services_room e s ys) (past e s ys)))

abbrev pub ensembles_in : List ℕ → Result Unit Refusal
ensembles_in xs = ensembles_checks (e_in xs) (s_in xs) (count_in xs) (chunk_header_bytes + h_in xs) (after_header xs)

unfoldable pub checks : List ℕ → Result Unit Refusal
checks xs =
    check (ltb longest_chunk (length xs)) (Err TooLong)  -- 8
    (check (ltb (length xs) 2) (Err (EndsEarly Header 0))  -- 9
    (check (not (eqb (major_in xs) 0)) (Err OtherMajor)  -- 5
    (check (ltb (length xs) (chunk_header_bytes + h_in xs)) (Err (EndsEarly Header 0))  -- 9
    (ensembles_in xs))))

-- ---- the list

abbrev pub service_at : List ℕ → Service
service_at zs =
    record { id = word (get_or zs 0 0) (get_or zs 1 0); multi = get_or zs 2 0 / 8 % 4; status = get_or zs 2 0 / 2 % 4; sp = get_or zs 2 0 % 2 }

-- n services at the start of zs
unfoldable pub services_at : ℕ → ℕ → List ℕ → List Service
services_at s zero zs = []
services_at s (suc n) zs = service_at zs ∷ services_at s n (drop (service_bytes + s) zs)

-- an ensemble of version 0
abbrev pub known_at : ℕ → ℕ → List ℕ → Known
known_at e s ys =
    record {
      id = get_or ys 0 0;
      slt = get_or ys 2 0 / 128;
      gat = get_or ys 2 0 / 64 % 2;
      eat = get_or ys 2 0 / 32 % 2;
      channel = get_or ys 2 0 % 32;
      services = services_at s (services_in e ys) (inside e ys);
    }

-- of any other version: what is inside it is passed over
abbrev pub unknown_at : List ℕ → Unknown
unknown_at ys = record { id = get_or ys 0 0; version = version_in ys }

abbrev pub ensemble_at : ℕ → ℕ → List ℕ → Ensemble
ensemble_at e s ys = cond (eqb (version_in ys) 0) (known (known_at e s ys)) (unknown (unknown_at ys))

-- n ensembles at the start of ys
unfoldable pub ensembles_at : ℕ → ℕ → ℕ → List ℕ → List Ensemble
ensembles_at e s zero ys = []
ensembles_at e s (suc n) ys = ensemble_at e s ys ∷ ensembles_at e s n (past e s ys)

unfoldable pub list_in : List ℕ → FicList
list_in xs =
    record { stream = stream_in xs; ensembles = ensembles_at (e_in xs) (s_in xs) (count_in xs) (after_header xs) }

-- the chunk xs passes the checks, and is read as the list l for the frame k in the minor edition m
pub record Accepts (xs : List ℕ) (k : Kind) (m : ℕ) (l : FicList) : Type 0 where
  pub passes : checks xs ≡ Ok tt
  pub kind : kind_in xs ≡ k
  pub minor : minor_in xs ≡ m
  pub list : list_in xs ≡ l

-- ---- the public call, on a chunk xs and a lent buffer

abbrev pub read_checks : List ℕ → List ℕ → Result Unit Refusal
read_checks xs buffer =
    check (ltb (length buffer) longest_listing) (Err ShortBuffer)  -- 1
    (checks xs)

abbrev pub listed : Kind → ℕ → ℕ → Listed
listed k m n = record { kind = k; minor = m; length = n }

abbrev pub read_for : Result Unit Refusal → List ℕ → Result Listed Refusal
read_for (Ok _) xs = Ok (listed (kind_in xs) (minor_in xs) (length (listing (list_in xs))))
read_for (Err f) xs = Err f

unfoldable pub read_answer : List ℕ → List ℕ → Result Listed Refusal
read_answer xs buffer = read_for (read_checks xs buffer) xs

-- the listing at the start, bytes past it as they were; a refusal leaves all as it was
abbrev pub buffer_left : Result Listed Refusal → List ℕ → List ℕ → List ℕ
buffer_left (Ok l) xs buffer = listing (list_in xs) ++ drop l.length buffer
buffer_left (Err f) xs buffer = buffer

unfoldable pub read_buffer : List ℕ → List ℕ → List ℕ
read_buffer xs buffer = buffer_left (read_answer xs buffer) xs buffer

-- what the reader promises: of the chunk xs and the buffer before, its answer, and the buffer after
pub record ReadSays (xs before : List ℕ) (answer : Result Listed Refusal) (after : List ℕ) : Type 0 where
  pub answers : answer ≡ read_answer xs before
  pub leaves : after ≡ read_buffer xs before

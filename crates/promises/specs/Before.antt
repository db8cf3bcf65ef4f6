-- The checks on a chunk by number alone, as they were when number 9 told no offset.
use Rattle.std.specs.Prelude.{ℕ, zero, suc, ◌+◌, not, List, ltb, eqb, length}
use Rattle.octets.specs.Checks.{check}
use Rattle.meaning.specs.Sizes.{longest_chunk, chunk_header_bytes, ensemble_bytes}
use Rattle.meaning.specs.Reading.{major_in, h_in, e_in, s_in, count_in, services_room, after_header, inside, past}

unfoldable pub ensembles_number : ℕ → ℕ → ℕ → List ℕ → ℕ
ensembles_number e s zero ys = 0
ensembles_number e s (suc n) ys =
    check (ltb (length ys) (ensemble_bytes + e)) 9
    (check (ltb (length (inside e ys)) (services_room e s ys)) 9
    (ensembles_number e s n (past e s ys)))

unfoldable pub chunk_number : List ℕ → ℕ
chunk_number xs =
    check (ltb longest_chunk (length xs)) 8
    (check (ltb (length xs) 2) 9
    (check (not (eqb (major_in xs) 0)) 5
    (check (ltb (length xs) (chunk_header_bytes + h_in xs)) 9
    (ensembles_number (e_in xs) (s_in xs) (count_in xs) (after_header xs)))))

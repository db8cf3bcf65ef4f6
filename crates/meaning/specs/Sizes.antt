-- Every size of document 01 that the chunk and its listing have, by one name. The code has the same names.
use Rattle.std.specs.Prelude.{ℕ, ◌*◌}

-- the longest chunk: 16 segments of 35 bytes
abbrev pub longest_chunk : ℕ
longest_chunk = 16 * 35

-- the bytes of a chunk's header, of an ensemble and of a service, extension bytes and what the loops hold aside
abbrev pub chunk_header_bytes : ℕ
chunk_header_bytes = 5

abbrev pub ensemble_bytes : ℕ
ensemble_bytes = 4

abbrev pub service_bytes : ℕ
service_bytes = 3

-- the bytes of a listing's records
abbrev pub ts_bytes : ℕ
ts_bytes = 5

abbrev pub en_bytes : ℕ
en_bytes = 6

abbrev pub eu_bytes : ℕ
eu_bytes = 4

abbrev pub sv_bytes : ℕ
sv_bytes = 8

-- the greatest flags, channel version, multi, status and SP of a listing
abbrev pub most_flags : ℕ
most_flags = 7

abbrev pub most_channel : ℕ
most_channel = 31

abbrev pub most_multi : ℕ
most_multi = 3

abbrev pub most_status : ℕ
most_status = 3

abbrev pub most_sp : ℕ
most_sp = 1

-- the longest listing of a chunk
abbrev pub longest_listing : ℕ
longest_listing = 1475

-- A/153 Part 3:2013, Table 7.4, and document 02: the guide's numbers, each by one name.
use Rattle.std.specs.Prelude.{ℕ, ◌+◌}

-- table_id
abbrev pub guide_table : ℕ
guide_table = 0xDC

-- the bytes up to the count of providers, with it
abbrev pub head_bytes : ℕ
head_bytes = 9

-- the bytes that section_length does not count: those up to it, with it
abbrev pub uncounted_bytes : ℕ
uncounted_bytes = 3

-- the greatest section_length, and so the longest section
abbrev pub most_length : ℕ
most_length = 4093

abbrev pub longest_section : ℕ
longest_section = most_length + uncounted_bytes

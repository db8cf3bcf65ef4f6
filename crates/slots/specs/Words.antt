-- Eight bytes as one number: how the code compares places. No promise speaks of it.
use Rattle.std.specs.Prelude.{ℕ, ◌+◌, ◌*◌, List, get_or}

abbrev pub eight : List ℕ → ℕ → ℕ
eight xs at =
    get_or xs at 0
    + get_or xs (at + 1) 0 * 0x100
    + get_or xs (at + 2) 0 * 0x10000
    + get_or xs (at + 3) 0 * 0x1000000
    + get_or xs (at + 4) 0 * 0x100000000
    + get_or xs (at + 5) 0 * 0x10000000000
    + get_or xs (at + 6) 0 * 0x1000000000000
    + get_or xs (at + 7) 0 * 0x100000000000000

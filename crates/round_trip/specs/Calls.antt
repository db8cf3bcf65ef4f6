-- What is said of one call of the tunnel's writer, on any state, with any lent output.
use Rattle.std.specs.Prelude.{ℕ, ◌+◌, ◌≤◌, ◌<◌, ◌≡◌, List, [], length, take, drop}
use Rattle.octets.specs.Each.{Each}
use Rattle.rtp.specs.Header.{header_bytes}
use Rattle.packets.specs.Stored.{line}
use Rattle.wrapper.specs.Wrap.{Writer, wrapped_values, Outcome}

-- nothing changes, and nothing is written
abbrev pub Same : Writer → List ℕ → Outcome → Type 0
Same w output u = (u.writer ≡ w) × (u.output ≡ output) × (u.outers ≡ []) × ((wrapped_values u.answer).wrote ≡ 0)

-- the outer packets stand end to end at the start of the output, as many bytes as the answer says, and nothing behind them changes
abbrev pub EndToEnd : List ℕ → Outcome → Type 0
EndToEnd output u =
    let n = (wrapped_values u.answer).wrote in
    (n ≡ length (line u.outers)) × (take n u.output ≡ line u.outers) × (drop n u.output ≡ drop n output)

-- outer packets with payloads of the size
abbrev pub Full : ℕ → List (List ℕ) → Type 0
Full size outers = Each (λ o. length o ≡ header_bytes + size) outers

-- one outer packet at the most, with a payload that is shorter and not empty
abbrev pub Last : ℕ → List (List ℕ) → Type 0
Last size outers = (length outers ≤ 1) × Each (λ o. (header_bytes < length o) × (length o < header_bytes + size)) outers

-- Inner packets: IPv4 by the first half byte, as long as the total length says, within the limits.
use Rattle.std.specs.Prelude.{ℕ, ◌/◌, ◌≤◌, ◌≡◌, Bool, true, false, not, cond, ◌&&◌, List, ltb, leb, eqb, length, get_or}
use Rattle.octets.specs.Word.{word}
use Rattle.octets.specs.Checks.{check}
use Rattle.packets.specs.declared.Start.{Start}
use Rattle.packets.specs.declared.Start.TheVariants.{Running, Whole, Fault}

-- ---- the limits of a packet's length

abbrev pub shortest_packet : ℕ
shortest_packet = 28

abbrev pub longest_packet : ℕ
longest_packet = 1500

abbrev pub within_limits : ℕ → Bool
within_limits n = leb shortest_packet n && leb n longest_packet

-- ---- the fields that are looked at

-- IPv4 says 4 in the first half byte
abbrev pub version_of : ℕ → ℕ
version_of first = first / 16

abbrev pub ip_version : ℕ
ip_version = 4

-- the total length stands in the bytes 2 and 3, so that four bytes tell it
abbrev pub total_length : List ℕ → ℕ
total_length xs = word (get_or xs 2 0) (get_or xs 3 0)

abbrev pub telling_bytes : ℕ
telling_bytes = 4

-- a packet that may be carried
pub record Carried (xs : List ℕ) : Type 0 where
  pub version : version_of (get_or xs 0 0) ≡ ip_version
  pub own : total_length xs ≡ length xs
  pub least : shortest_packet ≤ length xs
  pub most : length xs ≤ longest_packet

-- the same as one test; fewer than four bytes tell no such length
unfoldable pub is_carried : List ℕ → Bool
is_carried xs =
    eqb (version_of (get_or xs 0 0)) ip_version
    && (within_limits (total_length xs)
    && eqb (total_length xs) (length xs))

-- ---- what some bytes are, as the start of a packet: one that is running, so far right; a whole one of so many bytes, others behind it; or none

-- of n bytes, by the first of them and the total length
abbrev pub start_by : ℕ → ℕ → ℕ → Start
start_by n first total =
    cond (eqb n 0) Running
    (check (not (eqb (version_of first) ip_version)) Fault
    (cond (ltb n telling_bytes) Running
    (check (not (within_limits total)) Fault
    (cond (ltb n total) Running
    (Whole total)))))

unfoldable pub start_of : List ℕ → Start
start_of xs = start_by (length xs) (get_or xs 0 0) (total_length xs)

abbrev pub is_running : Start → Bool
is_running Running = true
is_running (Whole n) = false
is_running Fault = false

-- Laws of what is put to an output. Assumes nothing.
use mathlib.Core.Path.{◌≡◌, refl, ap, ap₂, sym, subst, ◌∙◌}
use mathlib.Core.List.{List, [], ◌++◌}
use Prim.Native.Nat.{ℕ, ◌+◌, ◌≤◌}
use native.Mathlib.Omega.{arith}
use lib.ListN.{length, length-append}
use lib.Seq.{sets, length-sets}
use Rattle.octets.proofs.Stores.{sets-append}
use Rattle.text.specs.declared.Output.{Output}
use Rattle.text.specs.Output.{HasRoom, Adds}
use Rattle.text.specs.Text.{Put}

-- one behind the other
pub adds_both : {vs ws : List ℕ} {o p q : Output} → Adds vs o p → Adds ws p q → Adds (vs ++ ws) o q
adds_both {vs = vs} {ws = ws} {o = o} a b =
    record {
      memory = b.memory ∙ a.memory;
      bytes = b.bytes ∙ ap₂ (λ (m : List ℕ) (k : ℕ). sets m k ws) a.bytes a.at ∙ sym (sets-append vs ws o.bytes.now o.at);
      at = omega (arith, length-append vs ws);
    }

-- the memory keeps its length
pub adds_length : {vs : List ℕ} {o p : Output} → Adds vs o p → length p.bytes.now ≡ length o.bytes.now
adds_length {vs = vs} {o = o} a = ap length a.bytes ∙ length-sets o.bytes.now o.at vs

-- the room that is left
pub room_left : {vs : List ℕ} {o p : Output} → Adds vs o p → (m n : ℕ) → length vs + n ≤ m → HasRoom m o → HasRoom n p
room_left a m n few room = omega (arith, a.at, adds_length a)

-- other words for the same bytes
pub adds_same : {vs ws : List ℕ} {o p : Output} → vs ≡ ws → Adds vs o p → Adds ws o p
adds_same {o = o} {p = p} e a = subst (λ (vs : List ℕ). Adds vs o p) e a

-- what stands at a place is what an output was given there
pub put-adds : {vs l m : List ℕ} {to end : ℕ} (o p : Output) → Put vs l to m end → p.bytes.ghost_name ≡ o.bytes.ghost_name → o.bytes.now ≡ l → o.at ≡ to → p.bytes.now ≡ m → p.at ≡ end → Adds vs o p
put-adds o p put same from at to end = record { memory = same; bytes = cc; at = cc }

-- room for all is room for the rest
pub room_behind : {vs : List ℕ} (ws : List ℕ) {o p : Output} → Adds vs o p → HasRoom (length (vs ++ ws)) o → HasRoom (length ws) p
room_behind {vs = vs} ws a room = omega (arith, a.at, adds_length a, length-append vs ws)

-- nothing is put
pub adds_none : (o : Output) → Adds [] o o
adds_none o = record { memory = refl; bytes = refl; at = omega arith }

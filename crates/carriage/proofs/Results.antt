-- What any call leaves, whatever came: whole packets, nothing lost in silence, nothing changed by a repeat, 1 and 16. Assumes nothing.
use mathlib.Core.Path.{◌≡◌, refl, sym, ap, subst, ◌∙◌}
use mathlib.Core.Bool.{Bool, true, false, true≢false}
use mathlib.Core.List.{List, [], flat_map}
use mathlib.Core.Logic.{◌⊎◌, inl, inr}
use Prim.Native.Nat.{ℕ}
use native.Mathlib.Omega.{arith}
use lib.ListN.{length, take}
use Rattle.octets.specs.Each.{Each}
use Rattle.packets.specs.Packets.{longest_packet, Carried}
use Rattle.packets.specs.Stored.{stored, line}
use Rattle.store.specs.Store.{Kept, kept_in}
use Rattle.store.proofs.Laws.{stored-kept}
use Rattle.tunnel.specs.Unwrap.{Answer, Reader, part_of, unwrapped_values, found, unchanged, dropped, read, unwrapped, Result}
use Rattle.tunnel.proofs.Found.{start-nothing}
use Rattle.tunnel.proofs.Results as results
use Rattle.carriage.specs.Fed.{came_out, Whole, Idle, Balanced}

module _ (r : Reader) (outer output : List ℕ) where
  -- ---- what stands in the output

  whole_some : (u : Result) (ps : List (List ℕ)) → Each Carried ps → take (unwrapped_values u.answer).stored u.output ≡ stored ps → (came_out u ≡ ps) × Whole u
  whole_some u ps c e =
      let came : came_out u ≡ ps = ap (λ (t : List ℕ). (kept_in t).packets) e ∙ ap (λ (k : Kept). k.packets) (stored-kept ps c) in
      (came, record { carried = subst (Each Carried) (sym came) c; are = e ∙ ap stored (sym came) })

  -- nothing is stored
  none_stored : (u : Result) → (unwrapped_values u.answer).stored ≡ 0 → (came_out u ≡ []) × Whole u
  unfolding stored flat_map
  none_stored u e = whole_some u [] tt (ap (λ (n : ℕ). take n u.output) e)

  idle-stored : (a : Answer) → results.Idle r outer output a → (unwrapped_values a).stored ≡ 0
  idle-stored a (inl e) = rw e refl
  idle-stored a (inr (inl e)) = rw e refl
  idle-stored a (inr (inr e)) = rw e refl

  read-stored : results.Taken r outer output → (came_out (read r outer output) ≡ (found r outer output).packets) × Whole (read r outer output)
  read-stored t =
      whole_some (read r outer output) (found r outer output).packets (results.found_carried r outer output t)
      (results.take_put (stored (found r outer output).packets) output (omega (arith, results.stored_found r outer output t, t.long)))

  pub always_whole : Whole (unwrapped r outer output)
  always_whole =
      results.result_cases r outer output Whole (λ a i. (none_stored (unchanged r outer output a) (idle-stored a i)).1)
      (λ t. (none_stored (dropped r outer output) refl).1)
      (λ t inside. (read-stored t).1)

  -- ---- nothing is lost in silence

  line_none : length (line []) ≡ 0
  unfolding line flat_map
  line_none = refl

  idle-idle : (a : Answer) → results.Idle r outer output a → Idle (unchanged r outer output a)
  idle-idle a (inl e) = rw e (inr (inl refl))
  idle-idle a (inr (inl e)) = rw e (inr (inr refl))
  idle-idle a (inr (inr e)) = rw e (inl refl)

  pub balanced : length r.bytes ≡ longest_packet → Balanced r outer (unwrapped r outer output) ⊎ Idle (unwrapped r outer output)
  balanced memory =
      results.result_cases r outer output (λ u. Balanced r outer u ⊎ Idle u) (λ a i. inr (idle-idle a i))
      (λ t. inl (drops t))
      (λ t inside. inl (reads t))
    where
      drops : results.Taken r outer output → Balanced r outer (dropped r outer output)
      drops t =
          let none : part_of (dropped r outer output).reader ≡ [] = rw start-nothing refl in
          omega (arith, ap (λ (ps : List (List ℕ)). length (line ps)) (none_stored (dropped r outer output) refl).0, ap length none, line_none)

      reads : results.Taken r outer output → Balanced r outer (read r outer output)
      reads t =
          omega (arith, ap (λ (ps : List (List ℕ)). length (line ps)) (read-stored t).0, ap length (results.part_held r outer output memory t), results.kept_part r outer output t, results.found_all r outer output t)

  -- ---- a repeat, 1 and 16 change nothing

  not_idle : (repeat : Bool) (number : ℕ) → repeat ≡ false → (number ≡ 1 → ⊥) → (number ≡ 16 → ⊥) → (repeat ≡ true) ⊎ ((number ≡ 1) ⊎ (number ≡ 16)) → ⊥
  not_idle repeat number new one sixteen (inl e) = true≢false (sym e ∙ new)
  not_idle repeat number new one sixteen (inr (inl e)) = one e
  not_idle repeat number new one sixteen (inr (inr e)) = sixteen e

  pub unchanged-idle : Idle (unwrapped r outer output) → ((unwrapped r outer output).reader ≡ r) × ((unwrapped r outer output).output ≡ output)
  unchanged-idle =
      results.result_cases r outer output (λ u. Idle u → (u.reader ≡ r) × (u.output ≡ output)) (λ a i h. (refl, refl))
      (λ t h. absurd (not_idle false 17 refl (λ e. omega (arith, e)) (λ e. omega (arith, e)) h))
      (λ t inside h. absurd (not_idle false 0 refl (λ e. omega (arith, e)) (λ e. omega (arith, e)) h))

-- The buffers by their roles. Assumes nothing.
use mathlib.Core.Path.{◌≡◌, refl}
use mathlib.Core.Bool.{Bool, true, false, cond}
use Rattle.meaning.specs.declared.Kind.{Kind}
use Rattle.meaning.specs.declared.Kind.TheVariants.{This, Next}
use Rattle.notes.specs.Notes.{other_kind, first_serves, lent_for}

-- the first buffer serves a kind and the second the other kind, or the other way round
pub roles : (P : Bool → Bool → Type 0) → P true false → P false true → (k : Kind) (t : Bool) → P (first_serves k t) (first_serves (other_kind k) t)
roles P straight crossed This true = crossed
roles P straight crossed This false = straight
roles P straight crossed Next true = straight
roles P straight crossed Next false = crossed

-- with b in the place of a kind's buffer, that kind's is b and the other kind's is as it was
pub put_roles : {A : Type 0} (k : Kind) (t : Bool) (first second b : A) → let mine = first_serves k t in let x = cond mine b first in let y = cond mine second b in (lent_for k t x y ≡ b) × (lent_for (other_kind k) t x y ≡ lent_for (other_kind k) t first second)
put_roles k t first second b =
    roles (λ m o. (cond m (cond m b first) (cond m second b) ≡ b) × (cond o (cond m b first) (cond m second b) ≡ cond o first second)) (refl, refl) (refl, refl) k t

-- what is equal of both kinds' buffers is equal of both buffers
pub both_roles : {A B : Type 0} (f : A → B) (k : Kind) (t : Bool) (x y first second : A) → f (lent_for k t x y) ≡ f (lent_for k t first second) → f (lent_for (other_kind k) t x y) ≡ f (lent_for (other_kind k) t first second) → (f x ≡ f first) × (f y ≡ f second)
both_roles f k t x y first second =
    roles (λ m o. f (cond m x y) ≡ f (cond m first second) → f (cond o x y) ≡ f (cond o first second) → (f x ≡ f first) × (f y ≡ f second)) (λ p q. (p, q)) (λ p q. (q, p)) k t

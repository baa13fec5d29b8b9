-- A test that decides a statement: joined by `or` and `and`. Main theorem: `reach_decides`.
use mathlib.Core.Bool.{Bool, true, false, ◌&&◌, ◌||◌}
use mathlib.Core.Logic.{◌⊎◌, inl, inr}
use mathlib.Core.Path.{◌≡◌, refl}
use Prim.Native.Nat.{ℕ, ◌≤◌, ◌<◌}
use native.Mathlib.Omega.{arith}
use lib.Dec.{leb, ltb}
use borrow.Author.Tests.{leb-true, leb-false, ltb-true, ltb-false}
use Rattle.cause.specs.Looked.{Reaches}

abbrev Decides : Bool → Type 0 → Type 0
Decides t P = (t ≡ true → P) × (t ≡ false → P → ⊥)

differ : {A : Type 0} → true ≡ false → A
differ e = let z : ◌≡◌ {A = ℕ} 0 1 = cc in absurd (omega arith)

undiffer : {A : Type 0} → false ≡ true → A
undiffer e = let z : ◌≡◌ {A = ℕ} 0 1 = cc in absurd (omega arith)

both-not : {P Q : Type 0} → (P → ⊥) → (Q → ⊥) → P ⊎ Q → ⊥
both-not f g (inl p) = f p
both-not f g (inr q) = g q

or : (s t : Bool) {P Q : Type 0} → Decides s P → Decides t Q → Decides (s || t) (P ⊎ Q)
or true t p q = (λ e. inl (p.0 refl), λ e. differ e)
or false true p q = (λ e. inr (q.0 refl), λ e. differ e)
or false false p q = (λ e. undiffer e, λ e. both-not (p.1 refl) (q.1 refl))

and : (s t : Bool) {P Q : Type 0} → Decides s P → Decides t Q → Decides (s && t) (P × Q)
and true true p q = (λ e. (p.0 refl, q.0 refl), λ e. differ e)
and true false p q = (λ e. undiffer e, λ e h. q.1 refl h.1)
and false t p q = (λ e. undiffer e, λ e h. p.1 refl h.0)

lt : (a b : ℕ) → Decides (ltb a b) (a < b)
lt a b = (ltb-true a b, λ e h. let k = ltb-false a b e in absurd (omega arith))

le : (a b : ℕ) → Decides (leb a b) (a ≤ b)
le a b = (leb-true a b, λ e h. let k = leb-false a b e in absurd (omega arith))

pub reach_decides : (a b low high : ℕ) → Decides ((ltb a high || ltb b high) && (leb low a || leb low b)) (Reaches a b low high)
reach_decides a b low high =
    and (ltb a high || ltb b high) (leb low a || leb low b)
    (or (ltb a high) (ltb b high) (lt a high) (lt b high))
    (or (leb low a) (leb low b) (le low a) (le low b))

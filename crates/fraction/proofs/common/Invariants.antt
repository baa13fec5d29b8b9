-- `common` meets its contract: the common divisors of x and y are those of a and b at every turn, and y falls.
use mathlib.Core.Logic.{◌↔◌}
use Prim.Native.Nat.{ℕ, ◌∣◌}
use Rattle.fraction.proofs.common.Given as goal

abbrev pub invariant-loop-y : goal.invariant-loop-y
invariant-loop-y l = (k : ℕ) → ((k ∣ l.x) × (k ∣ l.y)) ↔ ((k ∣ l.a) × (k ∣ l.b))

abbrev pub decreases-loop-y : goal.decreases-loop-y
decreases-loop-y l = l.y

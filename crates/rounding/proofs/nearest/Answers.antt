-- `nearest` meets its contract: twice the rest is below den, above it, or den itself.
use mathlib.Core.Path.{◌≡◌, subst}
use Prim.Native.Nat.{ℕ}
use native.Mathlib.Omega.{arith}
use Rattle.fraction.specs.Whole.{Whole}
use Rattle.rounding.specs.Nearest.{Nearest}
use Rattle.rounding.proofs.OneNearest.{divided, at_half}
use Rattle.rounding.proofs.nearest.Goals as goal

-- what is returned, by its value
is : {n : Whole} {d q r : ℕ} → q ≡ r → Nearest n d q → Nearest n d r
is {n} {d} e f = subst (Nearest n d) e f

pub returns : goal.returns
returns c = is (omega arith) (at_half (divided _ _ c.requires.2) (omega (arith, c.if-twice-den.false, c.if-den-twice.false)))

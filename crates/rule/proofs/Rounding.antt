-- The 64ths of an end point (SHEETS 5.4): `rounded_of_lem`, what is computed is the nearest; `rounded_inside`, a point of the sheet stays on it.
use Prim.Native.Nat.{ℕ, ◌*◌, ◌-◌, ◌≤◌, ◌<◌}
use native.Mathlib.Omega.{arith}
use Rattle.fraction.specs.Whole.{Whole, nat, ◌⊑◌, ◌·◌}
use Rattle.rounding.specs.Nearest.{Nearest}
use Rattle.rounding.proofs.OneNearest.{nearest_order, nearest_same, nearest_whole, nearest_of_lem}
use Rattle.rule.specs.Rows.{far_border}
use Rattle.rule.specs.Causes.{rounded_of}

pub rounded_of_lem : (P : Whole) (d : ℕ) → 0 < d → P.down ≤ P.up → Nearest (P · 64) d (rounded_of P d)
unfolding rounded_of
rounded_of_lem P d h k = nearest_same (record { eq = omega arith }) (nearest_of_lem (P.up * 64 - P.down * 64) d h)

-- rounding keeps the order, and the border is a whole number
pub rounded_inside : (P : Whole) {d q : ℕ} → 0 < d → P ⊑ nat (4095 * d) → Nearest (P · 64) d q → q ≤ far_border
rounded_inside P h k f = nearest_order h (record { le = omega (arith, k.le) }) f (nearest_whole far_border h)

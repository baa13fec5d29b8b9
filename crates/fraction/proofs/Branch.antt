-- What a branch on two signed numbers tells: at a need `search (branch, needs)`. `c.if1.taken` is `lt_z x y ≡ true` or `le_z x y ≡ true`, `c.if1.left` the same with `false`, x and y read back from their bits.
use mathlib.Core.Path.{◌≡◌, sym, subst}
use mathlib.Core.Bool.{Bool, true, false, not}
use lib.Dec.{T}
use lib.IntN.{ℤ}
use lib.Signed.{lt_z, le_z, ◌≤ℤ◌, ◌<ℤ◌, le_z_yes, lt_z_yes, lt_z_no, ≤ℤ_refl}
use mir.Syntax.{Width}
use mir.Val.{SFits, to_z, of_z}
use mir.Facts.{to_z-of_z}
use Rattle.fraction.proofs.Diff.{ints}

pub lt_true : (x y : ℤ) → lt_z x y ≡ true → x <ℤ y
lt_true x y e = lt_z_yes (subst T (sym e) tt)

pub lt_false : (x y : ℤ) → lt_z x y ≡ false → y ≤ℤ x
lt_false x y e = lt_z_no (subst (λ (b : Bool). T (not b)) (sym e) tt)

pub le_true : (x y : ℤ) → le_z x y ≡ true → x ≤ℤ y
le_true x y e = le_z_yes (subst T (sym e) tt)

pub lt_le : (x y : ℤ) → x <ℤ y → x ≤ℤ y
lt_le x y = omega ints

-- the same through the bits, for `search`
module _ (w : Width) (x y : ℤ) (f : SFits w x) (g : SFits w y) where
  pub below_bits : lt_z (to_z w (of_z w x)) (to_z w (of_z w y)) ≡ true → x <ℤ y
  below_bits e = lt_true x y (rw (to_z-of_z f, to_z-of_z g) at e)

  pub below_le_bits : lt_z (to_z w (of_z w x)) (to_z w (of_z w y)) ≡ true → x ≤ℤ y
  below_le_bits e = lt_le x y (below_bits e)

  pub above_bits : lt_z (to_z w (of_z w x)) (to_z w (of_z w y)) ≡ false → y ≤ℤ x
  above_bits e = lt_false x y (rw (to_z-of_z f, to_z-of_z g) at e)

pub ruleset branch = (≤ℤ_refl, below_bits, above_bits, below_le_bits)

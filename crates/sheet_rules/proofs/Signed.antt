-- Tests on signed numbers, as the code makes them on the bits. Main theorem: `same_bits`.
use mathlib.Core.Path.{◌≡◌, refl, sym, ◌∙◌, ap}
use mathlib.Core.Bool.{Bool, true, false, ◌||◌}
use Prim.Native.Nat.{ℕ, suc, ◌^◌, ◌<◌}
use lib.Pow.{pow_pos}
use native.Mathlib.Omega.{arith}
use borrow.Author.Tests.{eqb-true, eqb-false, ne_eqb}
use lib.Dec.{eqb, ltb, leb-suc-suc}
use lib.IntN.{ℤ, pos, negsuc, nat_abs, ◌-ℤ◌, +ℤ_idr}
use lib.Signed.{mag, lt_z}
use mir.Facts.{to_z-of_z}
use mir.Syntax.{Width}
use mir.Val.{SFits, to_z, of_z, hbits}
use Rattle.fraction.proofs.Integers.{from_zero, to-zero}
use Rattle.sheet.specs.Table.{is_zero}

-- what a call gave, passed on to another
pub passed : (w : Width) (r : ℤ) {z : ℤ} → mag r < 2 ^ hbits w → r ≡ z → to_z w (of_z w r) ≡ z
passed w r f e = to_z-of_z (record { sfits = f }) ∙ e

zero-size : (z : ℤ) → nat_abs z ≡ 0 → z ≡ pos 0
zero-size (pos n) e = ap pos e
zero-size (negsuc n) e = absurd (omega arith)

module _ (w : Width) (x y : ℤ) (f : SFits w x) (g : SFits w y) where
  -- two numbers have the same bits where their difference is 0
  pub same_bits : eqb (of_z w x) (of_z w y) ≡ is_zero (x -ℤ y)
  same_bits = go (eqb (of_z w x) (of_z w y)) refl
    where
      go : (b : Bool) → eqb (of_z w x) (of_z w y) ≡ b → b ≡ is_zero (x -ℤ y)
      go true e = rw (to-zero x y (sym (to_z-of_z f) ∙ ap (to_z w) (eqb-true _ _ e) ∙ to_z-of_z g))
      go false e = sym (ne_eqb (nat_abs (x -ℤ y)) 0 (λ h. eqb-false _ _ e (ap (of_z w) (from_zero x y (zero-size _ h)))))

pub zero_bits : (w : Width) (z : ℤ) → SFits w z → eqb (of_z w z) 0 ≡ is_zero z
zero_bits w z f = same_bits w z (pos 0) f (record { sfits = pow_pos (hbits w) }) ∙ ap is_zero (+ℤ_idr z)

or_false : (b : Bool) → (b || false) ≡ b
or_false true = refl
or_false false = refl

-- beyond −k − 1 or beyond k + 1
pub beyond : (k : ℕ) (z : ℤ) → (lt_z z (negsuc k) || lt_z (pos (suc k)) z) ≡ ltb (suc k) (nat_abs z)
beyond k (pos n) = refl
beyond k (negsuc n) = rw (or_false (ltb k n)) (sym (leb-suc-suc (suc k) n))

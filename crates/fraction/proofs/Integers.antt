-- Laws of the integers: cancellation (`cancel`, `cancel_pos`, `cancel_le`) and linear combination. Main theorem: `combine₂`; its last argument is an identity, `simp expand (simp atoms (omega ints))` of Ring.
use mathlib.Core.Path.{◌≡◌, refl, ◌∙◌}
use Prim.Native.Nat.{ℕ, zero, suc, ◌+◌, ◌*◌, ◌<◌, ◌≤◌}
use native.Mathlib.Nat.{eq_of_mul-eq-mul_left, mul-le-mul_left, le_of_mul-le-mul_left}
use native.Mathlib.Omega.{arith}
use lib.IntN.{ℤ, pos, negsuc, ◌+ℤ◌, ◌-ℤ◌, ◌*ℤ◌, *ℤ-zero}
use lib.Signed.{◌≤ℤ◌}
use Rattle.fraction.proofs.Diff.{plus, minus, split, ring, ints, eq_diff, le_diff}

module _ (x y : ℤ) where
  pub from_zero : x -ℤ y ≡ pos 0 → x ≡ y
  from_zero e = rw (split x, split y) (let h = simp ring at (rw (split x, split y) at e) in omega ints)

  pub to-zero : x ≡ y → x -ℤ y ≡ pos 0
  to-zero e = rw (split x, split y) (let h = rw (split x, split y) at e in simp ring (omega ints))

  pub cancel_pos : (k : ℕ) → 0 < k → pos k *ℤ x ≡ pos k *ℤ y → x ≡ y
  cancel_pos k p e = rw (split x, split y)
      (let h = eq_diff _ _ _ _ (simp ring at (rw (split x, split y) at e)) in
      let g : k * (plus x + minus y) ≡ k * (plus y + minus x) = omega arith in
      let l = eq_of_mul-eq-mul_left k p _ _ g in omega ints)

  pub mul_le : (k : ℕ) → x ≤ℤ y → (pos k *ℤ x) ≤ℤ (pos k *ℤ y)
  mul_le k e = rw (split x, split y)
      (let h = mul-le-mul_left k (le_diff _ _ _ _ (rw (split x, split y) at e)) in simp ring (omega ints))

  pub cancel_le : (k : ℕ) → 0 < k → (pos k *ℤ x) ≤ℤ (pos k *ℤ y) → x ≤ℤ y
  cancel_le k p e = rw (split x, split y)
      (let h = le_diff _ _ _ _ (simp ring at (rw (split x, split y) at e)) in
      let g : k * (plus x + minus y) ≤ k * (plus y + minus x) = omega arith in
      let l = le_of_mul-le-mul_left g p in omega ints)

  pub cancel : (z : ℤ) → (z ≡ pos 0 → ⊥) → z *ℤ x ≡ z *ℤ y → x ≡ y
  cancel (pos zero) f e = absurd (f refl)
  cancel (pos (suc k)) f e = cancel_pos (suc k) (omega arith) e
  cancel (negsuc k) f e = cancel_pos (suc k) (omega arith)
      (rw (split x, split y) (let h = simp ring at (rw (split x, split y) at e) in simp ring (omega ints)))

-- the goal is a combination of two equations, which is an identity
pub combine₂ : (l r k₁ l₁ r₁ k₂ l₂ r₂ : ℤ) → l₁ ≡ r₁ → l₂ ≡ r₂ → l -ℤ r ≡ k₁ *ℤ (l₁ -ℤ r₁) +ℤ k₂ *ℤ (l₂ -ℤ r₂) → l ≡ r
combine₂ l r k₁ l₁ r₁ k₂ l₂ r₂ e f g =
    from_zero l r (g ∙ rw (to-zero l₁ r₁ e, to-zero l₂ r₂ f, *ℤ-zero k₁, *ℤ-zero k₂))

-- of three equations
pub combine₃ : (l r k₁ l₁ r₁ k₂ l₂ r₂ k₃ l₃ r₃ : ℤ) → l₁ ≡ r₁ → l₂ ≡ r₂ → l₃ ≡ r₃ → l -ℤ r ≡ k₁ *ℤ (l₁ -ℤ r₁) +ℤ k₂ *ℤ (l₂ -ℤ r₂) +ℤ k₃ *ℤ (l₃ -ℤ r₃) → l ≡ r
combine₃ l r k₁ l₁ r₁ k₂ l₂ r₂ k₃ l₃ r₃ e f h g =
    from_zero l r (g ∙ rw (to-zero l₁ r₁ e, to-zero l₂ r₂ f, to-zero l₃ r₃ h, *ℤ-zero k₁, *ℤ-zero k₂, *ℤ-zero k₃))

-- Two moving points that coincide. Main theorems: `meet_time`, with D and N the two determinants the time is N / D; `meet_x` and `meet_y`, its converse.
use mathlib.Core.Path.{◌≡◌}
use Prim.Native.Nat.{ℕ, ◌*◌, ◌<◌}
use lib.IntN.{ℤ, pos, neg_ℤ, ◌+ℤ◌, ◌-ℤ◌, ◌*ℤ◌}
use Rattle.fraction.proofs.Diff.{ints}
use Rattle.fraction.proofs.Ring.{expand, atoms}
use Rattle.fraction.proofs.Integers.{combine₂, cancel_pos, cancel}

abbrev pub det : ℤ → ℤ → ℤ → ℤ → ℤ
det u₁ v₁ u₂ v₂ = u₁ *ℤ v₂ -ℤ v₁ *ℤ u₂

-- in one coordinate, at the times a / b and c / d: x₁ + (a / b) u₁ = x₂ + (c / d) u₂, multiplied by b d
abbrev pub Meet : ℕ → ℕ → ℕ → ℕ → ℤ → ℤ → ℤ → ℤ → Type 0
Meet a b c d x₁ u₁ x₂ u₂ =
    pos (b * d) *ℤ x₁ +ℤ pos (d * a) *ℤ u₁ ≡ pos (b * d) *ℤ x₂ +ℤ pos (b * c) *ℤ u₂

module _ (a b c d : ℕ) (x₁ y₁ u₁ v₁ x₂ y₂ u₂ v₂ : ℤ) where
  -- v₂ times the first equation less u₂ times the second
  pub meet_time :
      0 < d → Meet a b c d x₁ u₁ x₂ u₂ → Meet a b c d y₁ v₁ y₂ v₂
      → pos a *ℤ det u₁ v₁ u₂ v₂ ≡ pos b *ℤ det (x₂ -ℤ x₁) (y₂ -ℤ y₁) u₂ v₂
  meet_time p hx hy =
      cancel_pos _ _ d p (combine₂ _ _ v₂ _ _ (neg_ℤ u₂) _ _ hx hy (simp expand (simp atoms (omega ints))))

  module _
      (f : det u₁ v₁ u₂ v₂ ≡ pos 0 → ⊥)
      (h : pos a *ℤ det u₁ v₁ u₂ v₂ ≡ pos b *ℤ det (x₂ -ℤ x₁) (y₂ -ℤ y₁) u₂ v₂)
      (k : pos c *ℤ det u₁ v₁ u₂ v₂ ≡ pos d *ℤ det (x₂ -ℤ x₁) (y₂ -ℤ y₁) u₁ v₁) where
    pub meet_x : Meet a b c d x₁ u₁ x₂ u₂
    meet_x =
        cancel _ _ (det u₁ v₁ u₂ v₂) f
        (combine₂ _ _ (pos d *ℤ u₁) _ _ (neg_ℤ (pos b *ℤ u₂)) _ _ h k (simp expand (simp atoms (omega ints))))

    pub meet_y : Meet a b c d y₁ v₁ y₂ v₂
    meet_y =
        cancel _ _ (det u₁ v₁ u₂ v₂) f
        (combine₂ _ _ (pos d *ℤ v₁) _ _ (neg_ℤ (pos b *ℤ v₂)) _ _ h k (simp expand (simp atoms (omega ints))))

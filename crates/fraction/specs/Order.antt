-- Which of two times comes first, decided: what a definition by cases on two times asks (SHEETS 1.3).
use Rattle.std.specs.Prelude.{◌⊎◌, ◌*◌, ◌≤◌}
use Rattle.std.proofs.Common.{inl, inr, arith}
use Rattle.std.proofs.Math.Decide.{dec_le}
use Rattle.fraction.specs.Time.{Time, ◌≤ᵗ◌, ◌<ᵗ◌, ◌≈ᵗ◌}

unfoldable pub ≤ᵗ_or_<ᵗ : (a b : Time) → (a ≤ᵗ b) ⊎ (b <ᵗ a)
≤ᵗ_or_<ᵗ a b = go (dec_le (a.num * b.den) (b.num * a.den))
  where
    go : Dec (a.num * b.den ≤ b.num * a.den) → (a ≤ᵗ b) ⊎ (b <ᵗ a)
    go (yes h) = inl (record { le = h })
    go (no h) = inr (record { lt = omega arith })

pub ≈ᵗ_of : {a b : Time} → a ≤ᵗ b → b ≤ᵗ a → a ≈ᵗ b
≈ᵗ_of h k = record { eq = omega arith }

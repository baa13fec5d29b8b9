-- A tip that is on a wall in a part of the sheet is on a wall that is near it. Main theorem: `near_on`, by the age t.
use mathlib.Core.Logic.{◌⊎◌, inl, inr}
use Prim.Native.Nat.{ℕ, ◌+◌, ◌*◌, ◌≤◌, ◌<◌}
use native.Mathlib.Decide.{dec_lt, dec_le}
use native.Mathlib.Nat.{mul-le-mul_left, mul-le-mul_right, mul-lt-mul_of_pos_right}
use native.Mathlib.Omega.{arith}
use Rattle.fraction.specs.Time.{Time}
use Rattle.fraction.specs.Whole.{Whole, nat, ◌≈◌, ◌⊑◌, ◌⊏◌, ◌·◌}
use Rattle.rule.specs.Motion.{Xᵃ, Yᵃ, OnWallᵃ}
use Rattle.sheet.specs.declared.Track.{Track}
use Rattle.sheet.specs.declared.Wall.{Wall}
use Rattle.cause.specs.declared.Region.{Region}
use Rattle.cause.specs.Looked.{Reaches, Near}

-- one coordinate, times the denominator d: the point (f × a + n × b) / (n + f) lies between a and b
module _ (P : Whole) (a b d n f : ℕ) (running : 0 < d) (some : 0 < n + f) (on : P · (n + f) ≈ nat (f * a + n * b) · d) where
  beyond : (high : ℕ) → P ⊏ nat (high * d) → high ≤ a → high ≤ b → ⊥
  beyond high h p q =
      let y = mul-le-mul_left (f * d) p in
      let z = mul-le-mul_left (n * d) q in
      let x = mul-lt-mul_of_pos_right {k = n + f} h.lt some in
      omega (arith, on.eq)

  below : (low : ℕ) → nat (low * d) ⊑ P → a < low → b < low → ⊥
  below low h p q =
      let y = mul-le-mul_left (f * d) p in
      let z = mul-le-mul_left (n * d) q in
      let x = mul-le-mul_right (n + f) h.le in
      let w = mul-lt-mul_of_pos_right {k = n + f} running some in
      omega (arith, on.eq)

  reach : (low high : ℕ) → nat (low * d) ⊑ P → P ⊏ nat (high * d) → Reaches a b low high
  reach low high g h = (go (dec_lt a high) (dec_lt b high), go' (dec_le low a) (dec_le low b))
    where
      go : Dec (a < high) → Dec (b < high) → (a < high) ⊎ (b < high)
      go (yes p) q = inl p
      go (no p) (yes q) = inr q
      go (no p) (no q) = absurd (beyond high h (omega arith) (omega arith))

      go' : Dec (low ≤ a) → Dec (low ≤ b) → (low ≤ a) ⊎ (low ≤ b)
      go' (yes p) q = inl p
      go' (no p) (yes q) = inr q
      go' (no p) (no q) = absurd (below low g (omega arith) (omega arith))

pub near_on : (p : Region) {a : Track} {t : Time} {w : Wall} → OnWallᵃ a t w → nat (p.left * t.den) ⊑ Xᵃ a t → Xᵃ a t ⊏ nat (p.right * t.den) → nat (p.low * t.den) ⊑ Yᵃ a t → Yᵃ a t ⊏ nat (p.high * t.den) → Near p w
near_on p {a} {t} {w} o left right low high =
    record {
      across = reach (Xᵃ a t) w.ax w.bx t.den o.near o.far t.den_pos o.some o.on_x p.left p.right left right;
      along = reach (Yᵃ a t) w.ay w.by t.den o.near o.far t.den_pos o.some o.on_y p.low p.high low high;
    }

-- Where a tip is beside a line, as one looks along it (SHEETS 4.14).
use Rattle.std.specs.Prelude.{ℕ, ◌*◌, ℤ}
use Rattle.fraction.specs.Time.{Time}
use Rattle.fraction.specs.Whole.{Whole, nat, int, ◌≈◌, ◌⊏◌, ◌⊖◌, ◌⊗◌}
use Rattle.sheet.specs.declared.Track.{Track}
use Rattle.sheet.specs.declared.Wall.{Wall}
use Rattle.sheet.specs.Table.{gap}
use Rattle.rule.specs.declared.Side.{Side}
use Rattle.rule.specs.declared.Side.TheVariants.{NoSide, Left, Right, Along}
use Rattle.rule.specs.Motion.{Xᵃ, Yᵃ, age}

-- a line through the point (x, y) that goes by (wx, wy) (SHEETS 4.14)
pub record Line : Type 0 where
  pub x : ℕ
  pub y : ℕ
  pub wx : ℤ
  pub wy : ℤ

-- the line of a track by its speed, and of a wall from its first end to its second (SHEETS 4.14)
abbrev pub track_line : Track → Line
track_line b = record { x = b.x; y = b.y; wx = b.vx; wy = b.vy }

abbrev pub wall_line : Wall → Line
wall_line w = record { x = w.ax; y = w.ay; wx = gap w.ax w.bx; wy = gap w.ay w.by }

-- w × (where tip a is at age p − the line's point), times p's denominator: above 0 to the left of the line, below 0 to the right (SHEETS 4.14)
unfoldable pub offsetᵃ : Line → Track → Time → Whole
offsetᵃ l a p = int l.wx ⊗ (Yᵃ a p ⊖ nat (l.y * p.den)) ⊖ int l.wy ⊗ (Xᵃ a p ⊖ nat (l.x * p.den))

-- the same at time t (SHEETS 4.1)
abbrev pub offset : Line → Track → Time → Whole
offset l a t = offsetᵃ l a (age a t)

-- on which side of the line that is: strictly to the left, strictly to the right, or on it (SHEETS 4.14)
abbrev pub On : Side → Whole → Type 0
On Left z = nat 0 ⊏ z
On Right z = z ⊏ nat 0
On Along z = z ≈ nat 0
On NoSide z = ⊥

-- From which side a tip comes to the line that ends it (SHEETS 4.14).
use Rattle.std.specs.Prelude.{cond, ℕ, zero, suc, eqb, ℤ, pos, negsuc}
use Rattle.sheet.specs.declared.Track.{Track}
use Rattle.sheet.specs.declared.Wall.{Wall}
use Rattle.sheet.specs.Table.{cross, gap}
use Rattle.rule.specs.declared.Side.{Side}
use Rattle.rule.specs.declared.Side.TheVariants.{NoSide, Left, Right, Along}

-- by the sign of w × v, where the line goes by w and the tip by v (SHEETS 4.14)
unfoldable pub side_of : ℤ → Side
side_of (negsuc n) = Left
side_of (pos zero) = Along
side_of (pos (suc n)) = Right

-- tip a comes to the trace of b, whose line goes by the speed of b (SHEETS 4.14)
abbrev pub track_side : Track → Track → Side
track_side a b = side_of (cross b.vx b.vy a.vx a.vy)

-- tip a comes to the wall w, whose line goes from its first end to its second as they are given (SHEETS 4.14)
abbrev pub wall_side : Track → Wall → Side
wall_side a w = side_of (cross (gap w.ax w.bx) (gap w.ay w.by) a.vx a.vy)

-- the number of a side (SHEETS 4.14)
unfoldable pub side_number : Side → ℕ
side_number NoSide = 0
side_number Left = 1
side_number Right = 2
side_number Along = 3

-- the side of a number (SHEETS 4.14): none also where it is no side's, which whoever reads a row asks first (SHEETS 5.8)
unfoldable pub side_from : ℕ → Side
side_from n = cond (eqb n 1) Left (cond (eqb n 2) Right (cond (eqb n 3) Along NoSide))

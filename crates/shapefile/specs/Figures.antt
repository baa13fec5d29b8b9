-- Ends and traces in whole 64ths: their points, and the contents of their records (SHEETS 12.4 to 12.6).
use Rattle.std.specs.Prelude.{Bool, ◌&&◌, cond, List, [], ◌∷◌, ◌++◌, ℕ, eqb}
use Rattle.doubles.specs.Doubles.{double_bits}
use Rattle.shapefile.specs.Extent.{Point, Extent, extent}
use Rattle.shapefile.specs.Layout.{box_bytes, null_content, point_content, line_content}

-- an end at (x, y); a trace from (x, y) to (u, v)
pub data Figure : Type 0 where
  end : (x y : ℕ) → Figure
  trace : (x y u v : ℕ) → Figure

-- a trace whose two points are one (SHEETS 12.5)
abbrev pub nowhere : ℕ → ℕ → ℕ → ℕ → Bool
nowhere x y u v = eqb x u && eqb y v

-- a null shape has none (SHEETS 12.6)
unfoldable pub points : Figure → List Point
points (end x y) = record { x = x; y = y } ∷ []
points (trace x y u v) = cond (nowhere x y u v) [] (record { x = x; y = y } ∷ record { x = u; y = v } ∷ [])

unfoldable pub points_of : List Figure → List Point
points_of [] = []
points_of (f ∷ l) = points f ++ points_of l

-- each side of the box is exactly its 64ths / 64 (SHEETS 12.8)
unfoldable pub extent_bytes : Extent → List ℕ
extent_bytes e = box_bytes (double_bits e.left) (double_bits e.low) (double_bits e.right) (double_bits e.high)

-- so is each coordinate; a trace has its own box (SHEETS 12.4 to 12.6)
unfoldable pub content : Figure → List ℕ
content (end x y) = point_content (double_bits x) (double_bits y)
content (trace x y u v) =
    cond (nowhere x y u v) null_content (line_content (extent_bytes (extent (points (trace x y u v)))) (double_bits x) (double_bits y) (double_bits u) (double_bits v))

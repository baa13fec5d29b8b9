-- Shapes and boxes as the code has them, of doubles. Nobody need believe this file: `content_is` and `widen_is` in proofs/ tie it to the layout in 64ths.
use Rattle.std.specs.Prelude.{Bool, not, ◌&&◌, cond, List, ℕ, ◌<◌, ◌^◌, T, Float}
use Rattle.std.specs.Float.{binary64}
use Rattle.std.specs.Float.Ieee.{to_bits, is_nan, lt, eq}
use Rattle.doubles.specs.Doubles.{sixtyfourths}
use Rattle.shape_records.specs.declared.Shape.{Shape}
use Rattle.shape_records.specs.declared.Shape.TheVariants.{End, Trace}
use Rattle.shape_records.specs.declared.Bounds.{Bounds}
use Rattle.shape_records.specs.declared.Point.{Point}
use Rattle.shapefile.specs.Extent.{Extent}
use Rattle.shapefile.specs.Figures.{Figure, end, trace}
use Rattle.shapefile.specs.Layout.{box_bytes, null_content, point_content, line_content}

-- ---- whole 64ths as doubles

abbrev pub point_of : ℕ → ℕ → Point
point_of x y = record { x = sixtyfourths x; y = sixtyfourths y }

unfoldable pub in_doubles : Figure → Shape
in_doubles (end x y) = End (sixtyfourths x) (sixtyfourths y)
in_doubles (trace x y u v) = Trace (sixtyfourths x) (sixtyfourths y) (sixtyfourths u) (sixtyfourths v)

unfoldable pub bounds_of : Extent → Bounds
bounds_of e =
    record {
      left = sixtyfourths e.left;
      low = sixtyfourths e.low;
      right = sixtyfourths e.right;
      high = sixtyfourths e.high;
    }

-- numbers of 32 bits, which doubles hold exactly
abbrev pub Narrow : ℕ → Type 0
Narrow n = n < 2 ^ 32

pub record NarrowExtent (e : Extent) : Type 0 where
  pub left : Narrow e.left
  pub low : Narrow e.low
  pub right : Narrow e.right
  pub high : Narrow e.high

unfoldable pub NarrowFigure : Figure → Type 0
NarrowFigure (end x y) = Narrow x × Narrow y
NarrowFigure (trace x y u v) = (Narrow x × Narrow y) × (Narrow u × Narrow v)

-- ---- what the code does with doubles

abbrev pub number : Float → Type 0
number x = T (not (is_nan x))

abbrev pub bits : Float → ℕ
bits x = to_bits binary64 x

unfoldable pub lesser : Float → Float → Float
lesser a b = cond (lt b a) b a

unfoldable pub greater : Float → Float → Float
greater a b = cond (lt a b) b a

-- the point of two doubles of a case
abbrev pub point : Float → Float → Point
point x y = record { x = x; y = y }

unfoldable pub around : Bounds → Point → Bounds
around b p =
    record {
      left = lesser b.left p.x;
      low = lesser b.low p.y;
      right = greater b.right p.x;
      high = greater b.high p.y;
    }

abbrev pub still : Point → Point → Bool
still p q = eq p.x q.x && eq p.y q.y

unfoldable pub widen : Bounds → Shape → Bounds
widen b (End x y) = around b (point x y)
widen b (Trace x y u v) = cond (still (point x y) (point u v)) b (around (around b (point x y)) (point u v))

unfoldable pub bounds_bytes : Bounds → List ℕ
bounds_bytes b = box_bytes (bits b.left) (bits b.low) (bits b.right) (bits b.high)

-- the box of two points
unfoldable pub spanned : Point → Point → Bounds
spanned p q = around (record { left = p.x; low = p.y; right = p.x; high = p.y }) q

unfoldable pub content_of : Shape → List ℕ
content_of (End x y) = point_content (bits x) (bits y)
content_of (Trace x y u v) = cond (still (point x y) (point u v)) null_content (line_content (bounds_bytes (spanned (point x y) (point u v))) (bits x) (bits y) (bits u) (bits v))

-- no part is a NaN
pub record PointSound (p : Point) : Type 0 where
  pub x : number p.x
  pub y : number p.y

pub record BoundsSound (b : Bounds) : Type 0 where
  pub left : number b.left
  pub low : number b.low
  pub right : number b.right
  pub high : number b.high

unfoldable pub Sound : Shape → Type 0
Sound (End x y) = PointSound (point x y)
Sound (Trace x y u v) = PointSound (point x y) × PointSound (point u v)

-- Contents of doubles are contents of 64ths: `content_is`, `bounds_is`; and no part of them is a NaN: `figure_sound`, `extent_sound`.
use Prim.Native.Nat.{ℕ}
use mathlib.Core.Path.{◌≡◌, refl, ap, ◌∙◌}
use mathlib.Core.Bool.{Bool, true, false, cond}
use mathlib.Core.List.{[], ◌∷◌}
use lib.Ieee.{Float, lt}
use lib.ListN.{length}
use Rattle.doubles.specs.Doubles.{sixtyfourths, double_bits}
use Rattle.doubles.proofs.Exactly.{no_nan}
use Rattle.doubles.proofs.Pattern as pattern
use Rattle.shape_records.specs.declared.Bounds.{Bounds}
use Rattle.shape_records.specs.declared.Point.{Point}
use Rattle.shape_records.specs.declared.Shape.TheVariants.{End, Trace}
use Rattle.shapefile.specs.Extent.{Extent, extent}
use Rattle.shapefile.specs.Layout.{null_content, line_content}
use Rattle.shapefile.specs.Figures.{Figure, end, trace, nowhere, points, extent_bytes, content}
use Rattle.shape_records.specs.Shapes.{point_of, in_doubles, bounds_of, number, bits, lesser, greater, point, around, still, spanned, bounds_bytes, content_of, PointSound, BoundsSound, Sound, Narrow, NarrowExtent, NarrowFigure}
use Rattle.shape_records.proofs.Boxes.{within, still_is, spanned_is, spanned_exact}
use Rattle.shapefile.proofs.Lengths.{box_length, point_content_length, line_content_length}

pub bounds_is : (e : Extent) → NarrowExtent e → bounds_bytes (bounds_of e) ≡ extent_bytes e
unfolding bounds_bytes bounds_of extent_bytes
bounds_is e h = rw (pattern.bits e.left (within e.left h.left), pattern.bits e.low (within e.low h.low), pattern.bits e.right (within e.right h.right), pattern.bits e.high (within e.high h.high)) refl

pub extent_sound : (e : Extent) → NarrowExtent e → BoundsSound (bounds_of e)
unfolding bounds_of
extent_sound e h = record { left = no_nan e.left (within e.left h.left); low = no_nan e.low (within e.low h.low); right = no_nan e.right (within e.right h.right); high = no_nan e.high (within e.high h.high) }

point_sound : (x y : ℕ) → Narrow x → Narrow y → PointSound (point_of x y)
point_sound x y p q = record { x = no_nan x (within x p); y = no_nan y (within y q) }

pub figure_sound : (f : Figure) → NarrowFigure f → Sound (in_doubles f)
unfolding in_doubles Sound NarrowFigure
figure_sound (end x y) h = point_sound x y h.0 h.1
figure_sound (trace x y u v) h = (point_sound x y h.0.0 h.0.1, point_sound u v h.1.0 h.1.1)

-- of two numbers either is one
lesser_sound : (a b : Float) → number a → number b → number (lesser a b)
unfolding lesser
lesser_sound a b h g = go (lt b a)
  where
    go : (t : Bool) → number (cond t b a)
    go true = g
    go false = h

greater_sound : (a b : Float) → number a → number b → number (greater a b)
unfolding greater
greater_sound a b h g = go (lt a b)
  where
    go : (t : Bool) → number (cond t b a)
    go true = g
    go false = h

pub spanned_sound : (p q : Point) → PointSound p → PointSound q → BoundsSound (spanned p q)
unfolding spanned around
spanned_sound p q h g = record { left = lesser_sound p.x q.x h.x g.x; low = lesser_sound p.y q.y h.y g.y; right = greater_sound p.x q.x h.x g.x; high = greater_sound p.y q.y h.y g.y }

-- ---- contents

two-points : (x y u v : ℕ) → nowhere x y u v ≡ false → points (trace x y u v) ≡ record { x = x; y = y } ∷ record { x = u; y = v } ∷ []
unfolding points
two-points x y u v e = rw e refl

pub content_is : (f : Figure) → NarrowFigure f → content_of (in_doubles f) ≡ content f
unfolding content_of in_doubles content NarrowFigure
content_is (end x y) h = rw (pattern.bits x (within x h.0), pattern.bits y (within y h.1)) refl
content_is (trace x y u v) h =
    rw (still_is x y u v h.0.0 h.0.1 h.1.0 h.1.1) (go (nowhere x y u v) refl)
  where
    go : (t : Bool) → nowhere x y u v ≡ t
        → cond t null_content (line_content (bounds_bytes (spanned (point_of x y) (point_of u v))) (bits (sixtyfourths x)) (bits (sixtyfourths y)) (bits (sixtyfourths u)) (bits (sixtyfourths v)))
        ≡ cond t null_content (line_content (extent_bytes (extent (points (trace x y u v)))) (double_bits x) (double_bits y) (double_bits u) (double_bits v))
    go true e = refl
    go false e =
        rw (two-points x y u v e, pattern.bits x (within x h.0.0), pattern.bits y (within y h.0.1), pattern.bits u (within u h.1.0), pattern.bits v (within v h.1.1))
        (ap (λ b. line_content b (double_bits x) (double_bits y) (double_bits u) (double_bits v)) (ap bounds_bytes (spanned_is x y u v h.0.0 h.0.1 h.1.0 h.1.1) ∙ bounds_is (extent (record { x = x; y = y } ∷ record { x = u; y = v } ∷ [])) (spanned_exact x y u v h.0.0 h.0.1 h.1.0 h.1.1)))

-- ---- the lengths of contents

pub bounds_length : (b : Bounds) → length (bounds_bytes b) ≡ 32
unfolding bounds_bytes
bounds_length b = box_length (bits b.left) (bits b.low) (bits b.right) (bits b.high)

pub end_length : (x y : Float) → length (content_of (End x y)) ≡ 20
unfolding content_of
end_length x y = point_content_length (bits x) (bits y)

-- of a trace that goes nowhere, and of any other
pub still-content : (x y u v : Float) → still (point x y) (point u v) ≡ true → content_of (Trace x y u v) ≡ null_content
unfolding content_of
still-content x y u v e = rw e refl

pub line_content_lem : (x y u v : Float) → still (point x y) (point u v) ≡ false → content_of (Trace x y u v) ≡ line_content (bounds_bytes (spanned (point x y) (point u v))) (bits x) (bits y) (bits u) (bits v)
unfolding content_of
line_content_lem x y u v e = rw e refl

pub line_length : (x y u v : Float) → length (line_content (bounds_bytes (spanned (point x y) (point u v))) (bits x) (bits y) (bits u) (bits v)) ≡ 80
line_length x y u v = line_content_length (bounds_bytes (spanned (point x y) (point u v))) (bits x) (bits y) (bits u) (bits v) (bounds_length (spanned (point x y) (point u v)))

-- Boxes of doubles are boxes of 64ths: `widen_is`, `spanned_is`.
use Prim.Native.Nat.{ℕ, ◌^◌, ◌<◌, min, max}
use mathlib.Core.Path.{◌≡◌, refl, ap}
use mathlib.Core.Bool.{Bool, true, false, cond}
use mathlib.Core.List.{[], ◌∷◌}
use native.Mathlib.Omega.{arith}
use borrow.Author.Tests.{ltb-true, ltb-false}
use lib.Dec.{ltb}
use Rattle.doubles.specs.Doubles.{sixtyfourths}
use Rattle.doubles.proofs.Compared.{lt_is, eq_is}
use Rattle.shapefile.specs.Extent.{Extent, wider, widest, extent}
use Rattle.shapefile.specs.Figures.{Figure, end, trace, nowhere, points}
use Rattle.shape_records.specs.Shapes.{point_of, in_doubles, bounds_of, lesser, greater, around, still, widen, spanned, Narrow, NarrowExtent, NarrowFigure}

-- far within the 2 ^ 53 up to which doubles hold every 64th
pub within : (n : ℕ) → Narrow n → n < 2 ^ 53
within n h = omega arith

module _ (a b : ℕ) (p : Narrow a) (q : Narrow b) where
  lesser_is : lesser (sixtyfourths a) (sixtyfourths b) ≡ sixtyfourths (min a b)
  unfolding lesser
  lesser_is = rw (lt_is b a (within b q) (within a p)) (go (ltb b a) refl)
    where
      go : (t : Bool) → ltb b a ≡ t → cond t (sixtyfourths b) (sixtyfourths a) ≡ sixtyfourths (min a b)
      go true e = let h = ltb-true b a e in let k : b ≡ min a b = omega arith in ap sixtyfourths k
      go false e = let h = ltb-false b a e in let k : a ≡ min a b = omega arith in ap sixtyfourths k

  greater_is : greater (sixtyfourths a) (sixtyfourths b) ≡ sixtyfourths (max a b)
  unfolding greater
  greater_is = rw (lt_is a b (within a p) (within b q)) (go (ltb a b) refl)
    where
      go : (t : Bool) → ltb a b ≡ t → cond t (sixtyfourths b) (sixtyfourths a) ≡ sixtyfourths (max a b)
      go true e = let h = ltb-true a b e in let k : b ≡ max a b = omega arith in ap sixtyfourths k
      go false e = let h = ltb-false a b e in let k : a ≡ max a b = omega arith in ap sixtyfourths k

module _ (e : Extent) (h : NarrowExtent e) (x y : ℕ) (p : Narrow x) (q : Narrow y) where
  pub wider_exact : NarrowExtent (wider e (record { x = x; y = y }))
  wider_exact = record { left = omega arith; low = omega arith; right = omega arith; high = omega arith }

  pub around_is : around (bounds_of e) (point_of x y) ≡ bounds_of (wider e (record { x = x; y = y }))
  unfolding around bounds_of
  around_is =
      rw (lesser_is e.left x h.left p, lesser_is e.low y h.low q, greater_is e.right x h.right p, greater_is e.high y h.high q) refl

module _ (x y u v : ℕ) (p : Narrow x) (q : Narrow y) (r : Narrow u) (s : Narrow v) where
  pub still_is : still (point_of x y) (point_of u v) ≡ nowhere x y u v
  still_is = rw (eq_is x u (within x p) (within u r), eq_is y v (within y q) (within v s)) refl

  pub spanned_is : spanned (point_of x y) (point_of u v) ≡ bounds_of (extent (record { x = x; y = y } ∷ record { x = u; y = v } ∷ []))
  unfolding spanned extent
  spanned_is = (unfold bounds_of in around_is (record { left = x; low = y; right = x; high = y }) (record { left = p; low = q; right = p; high = q }) u v r s)

  pub spanned_exact : NarrowExtent (extent (record { x = x; y = y } ∷ record { x = u; y = v } ∷ []))
  unfolding extent
  spanned_exact = wider_exact (record { left = x; low = y; right = x; high = y }) (record { left = p; low = q; right = p; high = q }) u v r s

pub widest_exact : (e : Extent) (f : Figure) → NarrowExtent e → NarrowFigure f → NarrowExtent (widest e (points f))
unfolding widest points NarrowFigure
widest_exact e (end x y) h g = wider_exact e h x y g.0 g.1
widest_exact e (trace x y u v) h g = go (nowhere x y u v)
  where
    go : (t : Bool) → NarrowExtent (widest e (cond t [] (record { x = x; y = y } ∷ record { x = u; y = v } ∷ [])))
    go true = h
    go false = wider_exact (wider e (record { x = x; y = y })) (wider_exact e h x y g.0.0 g.0.1) u v g.1.0 g.1.1

pub widen_is : (e : Extent) (f : Figure) → NarrowExtent e → NarrowFigure f → widen (bounds_of e) (in_doubles f) ≡ bounds_of (widest e (points f))
unfolding widen widest points NarrowFigure in_doubles
widen_is e (end x y) h g = around_is e h x y g.0 g.1
widen_is e (trace x y u v) h g = rw (still_is x y u v g.0.0 g.0.1 g.1.0 g.1.1) (go (nowhere x y u v))
  where
    go : (t : Bool) → cond t (bounds_of e) (around (around (bounds_of e) (point_of x y)) (point_of u v))
        ≡ bounds_of (widest e (cond t [] (record { x = x; y = y } ∷ record { x = u; y = v } ∷ [])))
    go true = refl
    go false =
        rw (around_is e h x y g.0.0 g.0.1)
        (around_is (wider e (record { x = x; y = y })) (wider_exact e h x y g.0.0 g.0.1) u v g.1.0 g.1.1)

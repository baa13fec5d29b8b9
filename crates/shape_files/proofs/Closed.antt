-- The box that starts inverted and is closed at the end is the extent: `closed_is`. Its parts are narrow: `extent_narrow`.
use Prim.Native.Nat.{◌≤◌, min, max}
use mathlib.Core.Path.{◌≡◌, refl}
use mathlib.Core.Bool.{Bool, true, false, cond}
use mathlib.Core.List.{List, [], ◌∷◌, ◌++◌}
use native.Mathlib.Omega.{arith}
use borrow.Author.Tests.{le-ltb}
use lib.Dec.{lit<}
use Rattle.doubles.proofs.Compared.{lt_is}
use Rattle.shapefile.specs.Extent.{Point, Extent, wider, widest, extent}
use Rattle.shapefile.specs.Figures.{Figure, end, trace, nowhere, points}
use Rattle.shape_records.specs.Shapes.{bounds_of, Narrow, NarrowExtent, NarrowFigure}
use Rattle.shape_records.proofs.Boxes.{within}
use Rattle.shape_files.specs.Boxing.{inverted, zeros, closed}

-- ---- points of 32 bits

pub data Narrows : List Point → Type 0 where
  none : Narrows []
  more : {p : Point} {l : List Point} → Narrow p.x → Narrow p.y → Narrows l → Narrows (p ∷ l)

pub narrows_append : (l : List Point) {m : List Point} → Narrows l → Narrows m → Narrows (l ++ m)
narrows_append [] none g = g
narrows_append (p ∷ l) (more a b h) g = more a b (narrows_append l h g)

pub narrow_points : (f : Figure) → NarrowFigure f → Narrows (points f)
unfolding points NarrowFigure
narrow_points (end x y) h = more h.0 h.1 none
narrow_points (trace x y u v) h = go (nowhere x y u v)
  where
    go : (t : Bool) → Narrows (cond t [] (record { x = x; y = y } ∷ record { x = u; y = v } ∷ []))
    go true = none
    go false = more h.0.0 h.0.1 (more h.1.0 h.1.1 none)

pub widest_narrow : (e : Extent) (l : List Point) → NarrowExtent e → Narrows l → NarrowExtent (widest e l)
unfolding widest
widest_narrow e [] h none = h
widest_narrow e (p ∷ l) h (more a b g) = widest_narrow (wider e p) l (record { left = omega arith; low = omega arith; right = omega arith; high = omega arith }) g

pub extent_narrow : (l : List Point) → Narrows l → NarrowExtent (extent l)
unfolding extent
extent_narrow [] none = record { left = lit< tt; low = lit< tt; right = lit< tt; high = lit< tt }
extent_narrow (p ∷ l) (more a b g) = widest_narrow (record { left = p.x; low = p.y; right = p.x; high = p.y }) l (record { left = a; low = b; right = a; high = b }) g

pub widest-append : (e : Extent) (l m : List Point) → widest e (l ++ m) ≡ widest (widest e l) m
unfolding widest
widest-append e [] m = refl
widest-append e (p ∷ l) m = widest-append (wider e p) l m

-- ---- the inverted box

-- a point's own box
abbrev single : Point → Extent
single p = record { left = p.x; low = p.y; right = p.x; high = p.y }

first : (p : Point) → Narrow p.x → Narrow p.y → wider inverted p ≡ single p
first p a b =
    let l : min 4294967295 p.x ≡ p.x = omega arith in
    let m : min 4294967295 p.y ≡ p.y = omega arith in
    let r : max 0 p.x ≡ p.x = omega arith in
    let s : max 0 p.y ≡ p.y = omega arith in
    cc

upright : (e : Extent) (l : List Point) → e.left ≤ e.right → (widest e l).left ≤ (widest e l).right
unfolding widest
upright e [] h = h
upright e (p ∷ l) h = upright (wider e p) l (omega arith)

-- closed where it is upright, and where it is inverted
open_box : (e : Extent) → NarrowExtent e → e.left ≤ e.right → closed (bounds_of e) ≡ bounds_of e
unfolding closed
open_box e h g = (unfold bounds_of in rw (lt_is e.right e.left (within e.right h.right) (within e.left h.left), le-ltb e.right e.left g) refl)

empty_box : closed (bounds_of inverted) ≡ bounds_of zeros
unfolding closed
empty_box = (unfold bounds_of in rw (lt_is 0 4294967295 (lit< tt) (lit< tt)) refl)

pub closed_is : (l : List Point) → Narrows l → closed (bounds_of (widest inverted l)) ≡ bounds_of (extent l)
unfolding widest extent
closed_is [] none = empty_box
closed_is (p ∷ l) (more a b g) =
    rw (first p a b)
    (open_box (widest (single p) l) (widest_narrow (single p) l (record { left = a; low = b; right = a; high = b }) g) (upright (single p) l (omega arith)))

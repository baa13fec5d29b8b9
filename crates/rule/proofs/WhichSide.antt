-- What the side of a row means on the map (SHEETS 4.14). Main theorems: `track-side` and `wall-side`, until a tip comes to the line that ends it, it is on that side of the line which its row names;
-- `side-turned`, `meeting_sides` and `along_parallel`.
use mathlib.Core.Path.{◌≡◌, refl, sym, ap, ◌∙◌}
use mathlib.Core.Logic.{◌↔◌}
use Prim.Native.Nat.{ℕ, zero, suc, ◌+◌, ◌*◌, ◌-◌, ◌<◌}
use native.Mathlib.Nat.{eq_of_mul-eq-mul_left, lt_of_mul-lt-mul_left}
use native.Mathlib.Omega.{arith}
use lib.IntN.{ℤ, pos, negsuc, neg_ℤ, ◌+ℤ◌, ◌-ℤ◌, ◌*ℤ◌}
use Rattle.fraction.specs.Time.{Time, ◌≤ᵗ◌, ◌<ᵗ◌}
use Rattle.fraction.specs.Whole.{Whole, nat, int, ◌≈◌, ◌⊏◌, ◌⊕◌, ◌⊖◌, ◌⊗◌, ◌·◌}
use Rattle.fraction.proofs.Diff.{diff, ring, ints, eq_diff}
use Rattle.fraction.proofs.Integers.{combine₂}
use Rattle.fraction.proofs.Ring.{expand, atoms}
use Rattle.fraction.proofs.Shift.{minus_lt}
use Rattle.sheet.specs.declared.Track.{Track}
use Rattle.sheet.specs.declared.Wall.{Wall}
use Rattle.sheet.specs.Table.{cross, gap}
use Rattle.rule.specs.declared.Side.{Side}
use Rattle.rule.specs.declared.Side.TheVariants.{NoSide, Left, Right, Along}
use Rattle.rule.specs.Motion.{at, Yᵃ, Sameᵃ, opening, age, Same, OnWall}
use Rattle.rule.specs.Side.{side_of, track_side, wall_side, side_number}
use Rattle.rule.specs.Contact.{D, N}
use Rattle.rule.specs.WallTime.{along, turned}
use Rattle.rule.specs.Beside.{Line, track_line, wall_line, offsetᵃ, offset, On}
use Rattle.rule.proofs.Cramer.{same_first}
use Rattle.rule.proofs.OneLine.{flip_D}
use Rattle.rule.proofs.Walls.{on_trace}

-- ---- the line the other way round

unfoldable pub across : Side → Side
across NoSide = NoSide
across Left = Right
across Right = Left
across Along = Along

side_negated : (z : ℤ) → side_of (neg_ℤ z) ≡ across (side_of z)
unfolding side_of across
side_negated (pos zero) = refl
side_negated (pos (suc n)) = refl
side_negated (negsuc n) = refl

cross-turned : (p q x y u v : ℤ) → cross (p -ℤ q) (x -ℤ y) u v ≡ neg_ℤ (cross (q -ℤ p) (y -ℤ x) u v)
cross-turned p q x y u v = simp expand (simp atoms (omega ints))

cross_swapped : (p q u v : ℤ) → cross p q u v ≡ neg_ℤ (cross u v p q)
cross_swapped p q u v = simp expand (simp atoms (omega ints))

-- a wall given from its other end has its sides exchanged
pub side-turned : (a : Track) (w : Wall) → wall_side a (turned w) ≡ across (wall_side a w)
side-turned a w = ap side_of (cross-turned (pos w.ax) (pos w.bx) (pos w.ay) (pos w.by) a.vx a.vy) ∙ side_negated _

-- two tips come to each other from opposite sides
pub meeting_sides : (a b : Track) → track_side b a ≡ across (track_side a b)
meeting_sides a b = ap side_of (cross_swapped a.vx a.vy b.vx b.vy) ∙ side_negated _

along-zero : (z : ℤ) → side_of z ≡ Along → z ≡ pos 0
unfolding side_of side_number
along-zero (pos zero) e = refl
along-zero (pos (suc n)) e = let h = ap side_number e in absurd (omega arith)
along-zero (negsuc n) e = let h = ap side_number e in absurd (omega arith)

-- a tip comes along a track's line exactly where the two are parallel
pub along_parallel : (a b : Track) → (track_side a b ≡ Along) ↔ (D a b ≡ pos 0)
unfolding D side_of
along_parallel a b = (λ e. flip_D b a (along-zero (D b a) e), λ e. ap side_of (flip_D a b e))

-- ---- left is left

-- left of a line that goes east is north of it
pub left_is_north : (x y : ℕ) (a : Track) (p : Time) → On Left (offsetᵃ (record { x = x; y = y; wx = pos 1; wy = pos 0 }) a p) ↔ (nat (y * p.den) ⊏ Yᵃ a p)
unfolding offsetᵃ
left_is_north x y a p = (λ h. record { lt = omega (arith, h.lt) }, λ h. record { lt = omega (arith, h.lt) })

-- ---- the offset at age n / d is d × first + n × turn

value : Whole → ℤ
value z = diff z.up z.down

value_zero : (z : Whole) → z ≈ nat 0 → value z ≡ pos 0
unfolding value
value_zero z h = let e = h.eq in simp ring (omega ints)

zero_value : (z : Whole) → value z ≡ pos 0 → z ≈ nat 0
unfolding value
zero_value z e = let h = eq_diff _ _ _ _ (simp ring at e) in record { eq = omega arith }

value_at : (x c : ℕ) (v : ℤ) (n d : ℕ) → value (nat (x * d) ⊕ int v · n ⊖ nat (c * d)) ≡ pos d *ℤ gap c x +ℤ pos n *ℤ v
unfolding value
value_at x c (pos v) n d = simp ring (omega ints)
value_at x c (negsuc v) n d = simp ring (omega ints)

value_cross : (wx wy : ℤ) (X Y : Whole) → value (int wx ⊗ Y ⊖ int wy ⊗ X) ≡ cross wx wy (value X) (value Y)
unfolding value
value_cross (pos wx) (pos wy) X Y = simp ring (omega ints)
value_cross (pos wx) (negsuc wy) X Y = simp ring (omega ints)
value_cross (negsuc wx) (pos wy) X Y = simp ring (omega ints)
value_cross (negsuc wx) (negsuc wy) X Y = simp ring (omega ints)

cross-sum : (wx wy x y vx vy d n : ℤ) → cross wx wy (d *ℤ x +ℤ n *ℤ vx) (d *ℤ y +ℤ n *ℤ vy) ≡ d *ℤ cross wx wy x y +ℤ n *ℤ cross wx wy vx vy
cross-sum wx wy x y vx vy d n = simp expand (simp atoms (omega ints))

module _ (l : Line) (a : Track) where
  first : ℤ
  first = cross l.wx l.wy (gap l.x a.x) (gap l.y a.y)

  turn : ℤ
  turn = cross l.wx l.wy a.vx a.vy

  offset_is : (p : Time) → value (offsetᵃ l a p) ≡ pos p.den *ℤ first +ℤ pos p.num *ℤ turn
  unfolding offsetᵃ at first turn
  offset_is p =
      value_cross l.wx l.wy _ _
      ∙ (λ i. cross l.wx l.wy (value_at a.x l.x a.vx p.num p.den i) (value_at a.y l.y a.vy p.num p.den i))
      ∙ cross-sum l.wx l.wy _ _ a.vx a.vy (pos p.den) (pos p.num)

-- ---- before it is on the line

-- from 0 at pn / pd back to qn / qd, which is k / (pd × qd) earlier
back : (f c pn pd qn qd k : ℤ) → pd *ℤ f +ℤ pn *ℤ c ≡ pos 0 → pn *ℤ qd ≡ qn *ℤ pd +ℤ k → pd *ℤ (qd *ℤ f +ℤ qn *ℤ c) +ℤ k *ℤ c ≡ pos 0
back f c pn pd qn qd k h e = combine₂ _ _ qd _ _ (neg_ℤ c) _ _ h e (simp expand (simp atoms (omega ints)))

side_by : (c : ℤ) (z : Whole) (d k : ℕ) → 0 < d → 0 < k → pos d *ℤ value z +ℤ pos k *ℤ c ≡ pos 0 → On (side_of c) z
unfolding value side_of
side_by (pos zero) z d k dp kp e = let h = eq_diff _ _ _ _ (simp ring at e) in record { eq = eq_of_mul-eq-mul_left d dp _ _ (omega arith) }
side_by (pos (suc n)) z d k dp kp e = let h = eq_diff _ _ _ _ (simp ring at e) in record { lt = lt_of_mul-lt-mul_left d (omega arith) }
side_by (negsuc n) z d k dp kp e = let h = eq_diff _ _ _ _ (simp ring at e) in record { lt = lt_of_mul-lt-mul_left d (omega arith) }

-- a tip that is on a line at age p is at each earlier age q on the side that w × v tells
pub came_from : (l : Line) (a : Track) {p q : Time} → offsetᵃ l a p ≈ nat 0 → q <ᵗ p → On (side_of (cross l.wx l.wy a.vx a.vy)) (offsetᵃ l a q)
unfolding turn
came_from l a {p} {q} h o = go (p.num * q.den - q.num * p.den) (omega (arith, o.lt)) (omega (arith, o.lt))
  where
    go : (k : ℕ) → 0 < k → p.num * q.den ≡ q.num * p.den + k → On (side_of (turn l a)) (offsetᵃ l a q)
    go k kp e =
        side_by (turn l a) (offsetᵃ l a q) p.den k p.den_pos kp
        (ap (λ z. pos p.den *ℤ z +ℤ pos k *ℤ turn l a) (offset_is l a q)
        ∙ back (first l a) (turn l a) (pos p.num) (pos p.den) (pos q.num) (pos q.den) (pos k) (sym (offset_is l a p) ∙ value_zero _ h) (ap pos e))

-- ---- before it is on a track, or on a wall

met : (n d px py qx qy ux uy wx wy : ℤ) → n *ℤ cross ux uy wx wy ≡ d *ℤ cross (qx -ℤ px) (qy -ℤ py) wx wy → d *ℤ cross wx wy (px -ℤ qx) (py -ℤ qy) +ℤ n *ℤ cross wx wy ux uy ≡ pos 0
met n d px py qx qy ux uy wx wy = simp expand (simp atoms (omega ints))

on_line : {a b : Track} {p s : Time} → Sameᵃ a p b s → offsetᵃ (track_line b) a p ≈ nat 0
unfolding first turn N D
on_line {a} {b} {p} h = zero_value _ (offset_is (track_line b) a p ∙ met (pos p.num) (pos p.den) (pos a.x) (pos a.y) (pos b.x) (pos b.y) a.vx a.vy b.vx b.vy (same_first h).is)

-- tip a at t is where tip b is at s: until then a is on the named side of b's line
pub track-side : {a b : Track} {t s u : Time} → Same a t b s → opening a ≤ᵗ u → u <ᵗ t → On (track_side a b) (offset (track_line b) a u)
track-side {a} {b} h o k = came_from (track_line b) a (on_line h.same) (minus_lt a.start o k)

-- tip a at t is on wall w: until then it is on the named side of the wall's line
pub wall-side : {a : Track} {w : Wall} {t u : Time} → OnWall a t w → opening a ≤ᵗ u → u <ᵗ t → On (wall_side a w) (offset (wall_line w) a u)
unfolding along
wall-side {a} {w} h o k = came_from (wall_line w) a (on_line (on_trace h.on).there) (minus_lt a.start o k)

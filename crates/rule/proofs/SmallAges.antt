-- How large the ages are at which a tip comes to a track, to a wall and to the edge: `contact_small`, `wall_small`, `rim_small`.
use mathlib.Core.Path.{◌≡◌, refl, subst}
use mathlib.Core.Logic.{◌⊎◌, inl, inr}
use Prim.Native.Nat.{ℕ, zero, suc, ◌≤◌}
use native.Mathlib.Nat.{mul-le-mul}
use native.Mathlib.Omega.{arith}
use lib.Dec.{lit≤}
use lib.IntN.{ℤ, pos, negsuc, ◌+ℤ◌, ◌-ℤ◌, ◌*ℤ◌}
use Rattle.fraction.specs.Order.{≤ᵗ_or_<ᵗ}
use Rattle.fraction.specs.Sizes.{greatest_part, greatest_row_den, Small}
use Rattle.fraction.specs.Time.{Time, ◌≤ᵗ◌, ◌<ᵗ◌, zeroᵗ, plusᵗ}
use Rattle.fraction.specs.Within.{Within}
use Rattle.fraction.proofs.Bounds.{within_pos_sub, within-det, within_wide, within-add, within-sub, within-mul}
use Rattle.sheet.specs.declared.Track.{Track}
use Rattle.sheet.specs.declared.Wall.{Wall}
use Rattle.sheet.specs.Accepted.{TrackOk, WallOk}
use Rattle.rule.specs.Motion.{clock}
use Rattle.rule.specs.Contact.{Quot, never, when, over, zero_z, D, N, M, reach, reach_by, Ages, apart, meet, both, face_by, face₁, face_on, on_line, ages, ages_by, Contact, nowhere, hit, in_order, ordered, delayed, shifted, contact}
use Rattle.rule.specs.WallTime.{oneᵗ, along, turned, sooner_of, earlier, if_part, part, wall_by, wall_age, opened, wall_time}
use Rattle.rule.specs.EdgeTime.{exit, edge_age, edge_time, rim_of, rim}
use Rattle.rule.proofs.OneLine.{Moves}
use Rattle.rule.proofs.Edges.{EdgeMeansᵃ, leaves_atᵃ, edge_meansᵃ}

abbrev pub SmallTime : Time → Type 0
SmallTime t = Small (record { num = t.num; den = t.den })

-- an age: a tip's determinant with a track or a wall, 2 × 4095 × 4095 over 2 × 63 × 4095
pub record Aged (p : Time) : Type 0 where
  pub num_in : p.num ≤ greatest_part
  pub den_in : p.den ≤ greatest_row_den

-- the time of an age: 4095 units later at most
pub clock_small : (a : Track) {p : Time} → a.start ≤ 4095 → Aged p → SmallTime (clock a p)
unfolding plusᵗ
clock_small a {p} h k =
    let x = mul-le-mul h k.den_in in
    record { num_in = omega (arith, x, k.num_in); den_in = k.den_in; den_pos = p.den_pos }

abbrev pub QuotSmall : Quot → Type 0
QuotSmall never = Unit {0}
QuotSmall (when t) = Aged t

-- the time at which tip a has such an age
pub record AtAge (a : Track) (u : Time) : Type 0 where
  pub p : Time
  pub aged : Aged p
  pub is : clock a p ≡ u

pub at_small : {a : Track} {u : Time} → a.start ≤ 4095 → AtAge a u → SmallTime u
at_small {a} h k = subst SmallTime k.is (clock_small a h k.aged)

-- the same by the times of the sheet
abbrev pub WhenSmall : Track → Quot → Type 0
WhenSmall a never = Unit {0}
WhenSmall a (when t) = AtAge a t

opened_small : (a : Track) (q : Quot) → QuotSmall q → WhenSmall a (opened a.start q)
unfolding opened
opened_small a never k = tt
opened_small a (when p) k = record { p = p; aged = k; is = refl }

-- tip a hits at such an age
abbrev pub HitSmall : Track → Contact → Type 0
HitSmall a nowhere = Unit {0}
HitSmall a (hit u s) = AtAge a u

-- ---- quotients

over_small : (n d : ℤ) → Within greatest_part n → Within greatest_row_den d → QuotSmall (over n d)
unfolding over
over_small n (pos zero) h k = tt
over_small (pos n) (pos (suc d)) h k = record { num_in = h.abs; den_in = k.abs }
over_small (negsuc n) (pos (suc d)) h k = tt
over_small (pos zero) (negsuc d) h k = record { num_in = h.abs; den_in = k.abs }
over_small (pos (suc n)) (negsuc d) h k = tt
over_small (negsuc n) (negsuc d) h k = record { num_in = h.abs; den_in = k.abs }

earlier_small : (q r : Quot) → QuotSmall q → QuotSmall r → QuotSmall (earlier q r)
unfolding earlier sooner_of
earlier_small never r h k = k
earlier_small (when t) never h k = h
earlier_small (when t) (when r) h k = go (≤ᵗ_or_<ᵗ t r)
  where
    go : (d : (t ≤ᵗ r) ⊎ (r <ᵗ t)) → Aged (sooner_of t r d)
    go (inl d) = h
    go (inr d) = k

part_small : (q r : Quot) → QuotSmall q → QuotSmall (part q r)
unfolding part if_part
part_small never r h = tt
part_small (when t) never h = tt
part_small (when t) (when s) h = go (≤ᵗ_or_<ᵗ s oneᵗ)
  where
    go : (d : (s ≤ᵗ oneᵗ) ⊎ (oneᵗ <ᵗ s)) → QuotSmall (if_part t s d)
    go (inl d) = h
    go (inr d) = tt

-- tip a's part of two ages
abbrev AgesSmall : Ages → Type 0
AgesSmall apart = Unit {0}
AgesSmall (meet p q) = Aged p

both_small : (q r : Quot) → QuotSmall q → AgesSmall (both q r)
unfolding both
both_small never r h = tt
both_small (when u) never h = tt
both_small (when u) (when s) h = h

zero_aged : Aged zeroᵗ
zero_aged = record { num_in = lit≤ tt; den_in = lit≤ tt }

-- facing tips
face_small : (d v w k : ℤ) (p q : Time) → Within 4095 d → Within 63 v → Within 63 w → Within 4095 k → Aged p → AgesSmall (face₁ d v w k p q)
unfolding face₁ face_by
face_small d v w k p q hd hv hw hk h = go (over (d +ℤ k *ℤ w) (v -ℤ w)) (over (d +ℤ k *ℤ v) (v -ℤ w)) (over_small _ _ (within_wide (within-add hd (within-mul hk hw)) tt) (within_wide (within-sub hv hw) tt))
  where
    go : (x y : Quot) → QuotSmall x → AgesSmall (face_by p q x y)
    go never y g = zero_aged
    go (when x) never g = h
    go (when x) (when y) g = g

shifted_small : (a b : Track) (k : Ages) → AgesSmall k → HitSmall a (shifted a b k)
unfolding ordered delayed in_order
shifted_small a b apart k = tt
shifted_small a b (meet p q) k = go (≤ᵗ_or_<ᵗ (clock b q) (clock a p))
  where
    go : (d : (clock b q ≤ᵗ clock a p) ⊎ (clock a p <ᵗ clock b q)) → HitSmall a (in_order (clock a p) (clock b q) d)
    go (inl d) = record { p = p; aged = k; is = refl }
    go (inr d) = tt

-- ---- lines

-- a start on the sheet, and a speed of k at most: 63 for a track, 4095 for a wall's whole length
pub record Drawn (k : ℕ) (a : Track) : Type 0 where
  pub x_in : a.x ≤ 4095
  pub y_in : a.y ≤ 4095
  pub vx_in : Within k a.vx
  pub vy_in : Within k a.vy

pub track_drawn : {a : Track} → TrackOk a → Drawn 63 a
track_drawn h = record { x_in = h.x_in; y_in = h.y_in; vx_in = record { abs = h.vx_in }; vy_in = record { abs = h.vy_in } }

pub drawn_wide : {a : Track} → Drawn 63 a → Drawn 4095 a
drawn_wide h = record { x_in = h.x_in; y_in = h.y_in; vx_in = within_wide h.vx_in tt; vy_in = within_wide h.vy_in tt }

wall_drawn : {w : Wall} → WallOk w → Drawn 4095 (along w)
unfolding along
wall_drawn h = record { x_in = h.ax_in; y_in = h.ay_in; vx_in = within_pos_sub h.bx_in h.ax_in; vy_in = within_pos_sub h.by_in h.ay_in }

back_drawn : {w : Wall} → WallOk w → Drawn 4095 (along (turned w))
unfolding along
back_drawn h = record { x_in = h.bx_in; y_in = h.by_in; vx_in = within_pos_sub h.ax_in h.bx_in; vy_in = within_pos_sub h.ay_in h.by_in }

module _ {a b : Track} (h : Drawn 63 a) (k : Drawn 4095 b) where
  D_in : Within greatest_row_den (D a b)
  unfolding D
  D_in = within-det h.vx_in k.vy_in h.vy_in k.vx_in tt

  N_in : Within greatest_part (N a b)
  unfolding N
  N_in = within-det (within_pos_sub k.x_in h.x_in) k.vy_in (within_pos_sub k.y_in h.y_in) k.vx_in tt

  pub reach_small : QuotSmall (reach a b)
  unfolding reach reach_by
  reach_small = go (zero_z (M a b)) (zero_z a.vx)
    where
      go : (p : (M a b ≡ pos 0) ⊎ (M a b ≡ pos 0 → ⊥)) (q : (a.vx ≡ pos 0) ⊎ (a.vx ≡ pos 0 → ⊥)) → QuotSmall (reach_by a b p q)
      go (inr m) q = tt
      go (inl m) (inr q) = over_small _ _ (within_wide (within_pos_sub k.x_in h.x_in) tt) (within_wide h.vx_in tt)
      go (inl m) (inl q) = over_small _ _ (within_wide (within_pos_sub k.y_in h.y_in) tt) (within_wide h.vy_in tt)

line_small : {a b : Track} → a.start ≤ 4095 → b.start ≤ 4095 → Drawn 63 a → Drawn 63 b → (x y : Quot) → QuotSmall x → AgesSmall (on_line a b x y)
unfolding on_line face_on
line_small {a} {b} st sb h k (when p) (when q) i = go (zero_z a.vx)
  where
    go : (z : (a.vx ≡ pos 0) ⊎ (a.vx ≡ pos 0 → ⊥)) → AgesSmall (face_on a b z p q)
    go (inr f) = face_small _ _ _ _ p q (within_pos_sub k.x_in h.x_in) h.vx_in k.vx_in (within_pos_sub st sb) i
    go (inl e) = face_small _ _ _ _ p q (within_pos_sub k.y_in h.y_in) h.vy_in k.vy_in (within_pos_sub st sb) i
line_small st sb h k (when p) never i = i
line_small st sb h k never (when q) i = zero_aged
line_small st sb h k never never i = tt

pub contact_small : {a b : Track} → a.start ≤ 4095 → b.start ≤ 4095 → Drawn 63 a → Drawn 63 b → HitSmall a (contact a b)
unfolding contact ages ages_by
contact_small {a} {b} st sb h k₀ = shifted_small a b (ages a b) (go (zero_z (D a b)))
  where
    k : Drawn 4095 b
    k = drawn_wide k₀

    go : (p : (D a b ≡ pos 0) ⊎ (D a b ≡ pos 0 → ⊥)) → AgesSmall (ages_by a b p)
    go (inl e) = line_small st sb h k₀ (reach a b) (reach b a) (reach_small h k)
    go (inr f) = both_small (over (N a b) (D a b)) (over (M a b) (D a b)) (over_small (N a b) (D a b) (N_in h k) (D_in h k))

pub wall_small : {a : Track} {w : Wall} → Drawn 63 a → WallOk w → WhenSmall a (wall_time a w)
unfolding wall_time wall_age wall_by
wall_small {a} {w} h k = opened_small a (wall_age a w) (go (zero_z (D a (along w))))
  where
    go : (p : (D a (along w) ≡ pos 0) ⊎ (D a (along w) ≡ pos 0 → ⊥)) → QuotSmall (wall_by a w p)
    go (inl z) = earlier_small (reach a (along w)) (reach a (along (turned w))) (reach_small h (wall_drawn k)) (reach_small h (back_drawn k))
    go (inr f) = part_small (over (N a (along w)) (D a (along w))) (over (M a (along w)) (D a (along w))) (over_small (N a (along w)) (D a (along w)) (N_in h (wall_drawn k)) (D_in h (wall_drawn k)))

-- ---- the edge

exit_small : (x : ℕ) (v : ℤ) → x ≤ 4095 → Within 63 v → QuotSmall (exit x v)
unfolding exit
exit_small x (pos zero) h k = tt
exit_small x (pos (suc p)) h k = record { num_in = omega arith; den_in = omega (arith, k.abs) }
exit_small x (negsuc p) h k = record { num_in = omega arith; den_in = omega (arith, k.abs) }

pub rim_small : {a : Track} → Moves a → Drawn 63 a → AtAge a (rim a)
unfolding rim rim_of edge_time opened edge_age
rim_small {a} m h = go (edge_age a) (edge_meansᵃ a m h.x_in h.y_in) (earlier_small (exit a.x a.vx) (exit a.y a.vy) (exit_small a.x a.vx h.x_in h.vx_in) (exit_small a.y a.vy h.y_in h.vy_in))
  where
    go : (q : Quot) → EdgeMeansᵃ a q → QuotSmall q → AtAge a (rim_of (opened a.start q))
    go q (leaves_atᵃ p l f) k = record { p = p; aged = k; is = refl }

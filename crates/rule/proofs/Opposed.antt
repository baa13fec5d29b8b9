-- Two tips on one line that run toward each other: their ages p and q at one point are tied by P × p + Q × q = E (`opposed`). What `face_on` and `arrive_on` give for them.
use mathlib.Core.Path.{◌≡◌, refl, sym, ap}
use mathlib.Core.Logic.{◌⊎◌, inl, inr, ◌≢◌}
use Prim.Native.Nat.{ℕ, zero, suc, ◌+◌, ◌*◌, ◌-◌, ◌≤◌, ◌<◌}
use native.Mathlib.Nat.{le_of_mul-le-mul_left, lt_of_mul-lt-mul_left, eq_of_mul-eq-mul_left, mul-le-mul_left, mul-le-mul_right, mul-lt-mul_of_pos_right, mul-pos}
use native.Mathlib.Decide.{dec_le}
use native.Mathlib.Omega.{arith}
use lib.IntN.{ℤ, pos, negsuc, neg_ℤ, ◌+ℤ◌, ◌-ℤ◌, ◌*ℤ◌}
use Rattle.fraction.specs.Time.{Time, ◌≤ᵗ◌, ◌<ᵗ◌, ◌≈ᵗ◌, zeroᵗ, plusᵗ}
use Rattle.fraction.specs.Whole.{◌≈◌, ◌·◌}
use Rattle.fraction.proofs.Diff.{ring, ints, eq_diff}
use Rattle.fraction.proofs.Integers.{combine₃, cancel}
use Rattle.fraction.proofs.Ring.{expand, atoms}
use Rattle.sheet.specs.declared.Track.{Track}
use Rattle.sheet.specs.Table.{gap}
use Rattle.rule.specs.Motion.{at, Sameᵃ}
use Rattle.rule.specs.Contact.{Quot, never, when, over, zero_z, dx, dy, D, M, Ages, meet, face_by, face₁, face_on, arrive₁, arrive_on}
use Rattle.rule.proofs.Naturals.{even, less, Order, order, more}
use Rattle.rule.proofs.Cramer.{Is, is_when, is_never, Means, over_means, to_meet, from_meet}
use Rattle.rule.proofs.OneLine.{Moves, start-x, start-y, start_line, speed_x, from-x, from-y, is_nil, swap, swap_D, swap_D'}

-- P × p + Q × q is E
pub record Sum (P Q E : ℕ) (p q : Time) : Type 0 where
  pub sum : P * (p.num * q.den) + Q * (q.num * p.den) ≡ E * (p.den * q.den)

pub sum-swap : {P Q E : ℕ} {p q : Time} → Sum P Q E p q → Sum Q P E q p
sum-swap h = let k = h.sum in record { sum = omega arith }

-- ---- what the sum says

anti_lin : (P Q E pn pd qn qd pn' pd' qn' qd' : ℕ) → (P * (pn * qd) + Q * (qn * pd)) * (pd' * qd') ≡ E * (pd * qd) * (pd' * qd') → (P * (pn' * qd') + Q * (qn' * pd')) * (pd * qd) ≡ E * (pd' * qd') * (pd * qd) → pn * pd' * (P * qd * qd') ≤ pn' * pd * (P * qd * qd') → Q * pd * pd' * (qn' * qd) ≤ Q * pd * pd' * (qn * qd')
anti_lin P Q E pn pd qn qd pn' pd' qn' qd' x y z = omega arith

-- the older a is, the younger b
pub sum_anti : {P Q E : ℕ} {p q p' q' : Time} → 0 < Q → Sum P Q E p q → Sum P Q E p' q' → p ≤ᵗ p' → q' ≤ᵗ q
sum_anti {P} {Q} {E} {p} {q} {p'} {q'} h k l o =
    record {
      le = le_of_mul-le-mul_left {k = Q * p.den * p'.den}
          (anti_lin P Q E p.num p.den q.num q.den p'.num p'.den q'.num q'.den
          (ap (λ z. z * (p'.den * q'.den)) k.sum) (ap (λ z. z * (p.den * q.den)) l.sum) (mul-le-mul_right (P * q.den * q'.den) o.le))
          (mul-pos (mul-pos h p.den_pos) p'.den_pos);
    }

-- where b was at q, it was at every younger age r, and a comes there too
pub sum-there : {P Q E : ℕ} {p q : Time} (r : Time) → 0 < P → Sum P Q E p q → r ≤ᵗ q → (t : Time) × Sum P Q E t r
sum-there {P} {Q} {E} {p} {q} r h k o = go (E * r.den - Q * r.num) (omega (arith, le))
  where
    low : Q * q.num ≤ E * q.den
    low = let s = k.sum in le_of_mul-le-mul_left {k = p.den} (omega arith) p.den_pos

    le : Q * r.num ≤ E * r.den
    le =
        let x = mul-le-mul_left Q o.le in
        let y = mul-le-mul_right r.den low in
        le_of_mul-le-mul_left {k = q.den} (omega arith) q.den_pos

    go : (c : ℕ) → E * r.den ≡ c + Q * r.num → (t : Time) × Sum P Q E t r
    go c e =
        let x = ap (λ z. P * r.den * z) e in
        (record { num = c; den = P * r.den; den_pos = mul-pos h r.den_pos }, record { sum = omega arith })

-- ---- the meeting

-- t is the first's age where both are of the same time
record MeetAt (P Q E sa sb : ℕ) (t : Time) : Type 0 where
  at : t.num * (P + Q) + t.den * (sa * Q) ≡ t.den * (E + sb * Q)

-- where there is none, the first opens after the other has come by its start
none_late : (P Q E sa sb : ℕ) (q : Time) → 0 < Q → ((t : Time) → MeetAt P Q E sa sb t → ⊥) → Sum P Q E zeroᵗ q → plusᵗ sb q <ᵗ plusᵗ sa zeroᵗ
unfolding plusᵗ
none_late P Q E sa sb q h g k = go (dec_le (sa * Q) (E + sb * Q))
  where
    go : Dec (sa * Q ≤ E + sb * Q) → record { num = q.num + sb * q.den; den = q.den; den_pos = q.den_pos } <ᵗ record { num = 0 + sa * 1; den = 1; den_pos = zeroᵗ.den_pos }
    go (yes l) = absurd (on (E + sb * Q - sa * Q) (omega arith))
      where
        on : (c : ℕ) → E + sb * Q ≡ c + sa * Q → ⊥
        on c e =
            let x = ap (λ z. (P + Q) * z) e in
            g (record { num = c; den = P + Q; den_pos = omega arith }) (record { at = omega arith })
    go (no l) =
        let s = k.sum in
        let m : E + sb * Q < sa * Q = omega arith in
        let x = mul-lt-mul_of_pos_right {k = q.den} m q.den_pos in
        record { lt = lt_of_mul-lt-mul_left Q (omega arith) }

both_lin : (P Q E sa sb xn xd yn yd : ℕ) → (xn * (P + Q) + xd * (sa * Q)) * yd ≡ xd * (E + sb * Q) * yd → (yn * (Q + P) + yd * (sb * P)) * xd ≡ yd * (E + sa * P) * xd → (P + Q) * ((xn + sa * xd) * yd) ≡ (P + Q) * ((yn + sb * yd) * xd)
both_lin P Q E sa sb xn xd yn yd h k = omega arith

both-time : {P Q E sa sb : ℕ} {x y : Time} → 0 < P → MeetAt P Q E sa sb x → MeetAt Q P E sb sa y → plusᵗ sa x ≈ᵗ plusᵗ sb y
unfolding plusᵗ
both-time {P} {Q} {E} {sa} {sb} {x} {y} h i j =
    record { eq = eq_of_mul-eq-mul_left (P + Q) (omega arith) _ _ (both_lin P Q E sa sb x.num x.den y.num y.den (ap (λ z. z * y.den) i.at) (ap (λ z. z * x.den) j.at)) }

sum_lin : (P Q E sa sb xn xd yn yd : ℕ) → P * yd * (xn * (P + Q) + xd * (sa * Q)) ≡ P * yd * (xd * (E + sb * Q)) → Q * xd * (yn * (Q + P) + yd * (sb * P)) ≡ Q * xd * (yd * (E + sa * P)) → (P + Q) * (P * (xn * yd) + Q * (yn * xd)) ≡ (P + Q) * (E * (xd * yd))
sum_lin P Q E sa sb xn xd yn yd h k = omega arith

both-sum : {P Q E sa sb : ℕ} {x y : Time} → 0 < P → MeetAt P Q E sa sb x → MeetAt Q P E sb sa y → Sum P Q E x y
both-sum {P} {Q} {E} {sa} {sb} {x} {y} h i j =
    record { sum = eq_of_mul-eq-mul_left (P + Q) (omega arith) _ _ (sum_lin P Q E sa sb x.num x.den y.num y.den (ap (λ z. P * y.den * z) i.at) (ap (λ z. Q * x.den * z) j.at)) }

-- ---- one axis

-- starts x and y, speeds v and w along one axis, toward each other: P and Q are how fast, E how far apart, none of them 0
data Opp₁ : ℕ → ℕ → ℤ → ℤ → ℕ → ℕ → ℕ → Type 0 where
  up : (x y E P Q : ℕ) → y ≡ x + suc E → Opp₁ x y (pos (suc P)) (negsuc Q) (suc P) (suc Q) (suc E)
  down : (x y E P Q : ℕ) → x ≡ y + suc E → Opp₁ x y (negsuc P) (pos (suc Q)) (suc P) (suc Q) (suc E)

to₁ : {x y P Q E : ℕ} {v w : ℤ} → Opp₁ x y v w P Q E → (p q : Time) → at x v p · q.den ≈ at y w q · p.den → Sum P Q E p q
unfolding at
to₁ (up x y E P Q i) p q h = let k = rw i at h.eq in record { sum = omega arith }
to₁ (down x y E P Q i) p q h = let k = rw i at h.eq in record { sum = omega arith }

from₁ : {x y P Q E : ℕ} {v w : ℤ} → Opp₁ x y v w P Q E → (p q : Time) → Sum P Q E p q → at x v p · q.den ≈ at y w q · p.den
unfolding at
from₁ (up x y E P Q i) p q h = let k = h.sum in rw i (record { eq = omega arith })
from₁ (down x y E P Q i) p q h = let k = h.sum in rw i (record { eq = omega arith })

is_sum : {x y P Q E : ℕ} {v w : ℤ} → Opp₁ x y v w P Q E → (t q : Time) → Is t (gap x y *ℤ pos q.den +ℤ w *ℤ pos q.num) (v *ℤ pos q.den) → Sum P Q E t q
is_sum (up x y E P Q i) t q h = let e = rw i at (eq_diff _ _ _ _ (simp ring at h.is)) in record { sum = omega arith }
is_sum (down x y E P Q i) t q h = let e = rw i at (eq_diff _ _ _ _ (simp ring at h.is)) in record { sum = omega arith }

sum_is : {x y P Q E : ℕ} {v w : ℤ} → Opp₁ x y v w P Q E → (t q : Time) → Sum P Q E t q → Is t (gap x y *ℤ pos q.den +ℤ w *ℤ pos q.num) (v *ℤ pos q.den)
sum_is (up x y E P Q i) t q h = let k = h.sum in let l = ap (λ z. t.den * q.den * z) i in record { is = simp ring (omega ints) }
sum_is (down x y E P Q i) t q h = let k = h.sum in let l = ap (λ z. t.den * q.den * z) i in record { is = simp ring (omega ints) }

is_first : {x y P Q E : ℕ} {v w : ℤ} → Opp₁ x y v w P Q E → (sa sb : ℕ) (t : Time) → Is t (gap x y +ℤ gap sb sa *ℤ w) (v -ℤ w) → MeetAt P Q E sa sb t
is_first (up x y E P Q i) sa sb t h = let e = rw i at (eq_diff _ _ _ _ (simp ring at h.is)) in record { at = omega arith }
is_first (down x y E P Q i) sa sb t h = let e = rw i at (eq_diff _ _ _ _ (simp ring at h.is)) in record { at = omega arith }

first_is : {x y P Q E : ℕ} {v w : ℤ} → Opp₁ x y v w P Q E → (sa sb : ℕ) (t : Time) → MeetAt P Q E sa sb t → Is t (gap x y +ℤ gap sb sa *ℤ w) (v -ℤ w)
first_is (up x y E P Q i) sa sb t h = let e = h.at in let l = ap (λ z. t.den * z) i in record { is = simp ring (omega ints) }
first_is (down x y E P Q i) sa sb t h = let e = h.at in let l = ap (λ z. t.den * z) i in record { is = simp ring (omega ints) }

is_second : {x y P Q E : ℕ} {v w : ℤ} → Opp₁ x y v w P Q E → (sa sb : ℕ) (t : Time) → Is t (gap x y +ℤ gap sb sa *ℤ v) (v -ℤ w) → MeetAt Q P E sb sa t
is_second (up x y E P Q i) sa sb t h = let e = rw i at (eq_diff _ _ _ _ (simp ring at h.is)) in record { at = omega arith }
is_second (down x y E P Q i) sa sb t h = let e = rw i at (eq_diff _ _ _ _ (simp ring at h.is)) in record { at = omega arith }

second_is : {x y P Q E : ℕ} {v w : ℤ} → Opp₁ x y v w P Q E → (sa sb : ℕ) (t : Time) → MeetAt Q P E sb sa t → Is t (gap x y +ℤ gap sb sa *ℤ v) (v -ℤ w)
second_is (up x y E P Q i) sa sb t h = let e = h.at in let l = ap (λ z. t.den * z) i in record { is = simp ring (omega ints) }
second_is (down x y E P Q i) sa sb t h = let e = h.at in let l = ap (λ z. t.den * z) i in record { is = simp ring (omega ints) }

moves_apart : {x y P Q E : ℕ} {v w : ℤ} → Opp₁ x y v w P Q E → v -ℤ w ≡ pos 0 → ⊥
moves_apart (up x y E P Q i) h = let e = eq_diff _ _ _ _ (simp ring at h) in omega arith
moves_apart (down x y E P Q i) h = let e = eq_diff _ _ _ _ (simp ring at h) in omega arith

no_zero : (v : ℤ) (d : ℕ) → 0 < d → (v ≡ pos 0 → ⊥) → v *ℤ pos d ≡ pos 0 → ⊥
no_zero (pos zero) d p f h = f refl
no_zero (pos (suc n)) d p f h = let e = eq_diff _ _ _ _ (simp ring at h) in let z = mul-pos {m = suc n} (omega arith) p in omega arith
no_zero (negsuc n) d p f h = let e = eq_diff _ _ _ _ (simp ring at h) in let z = mul-pos {m = suc n} (omega arith) p in omega arith

moves_on : {x y P Q E : ℕ} {v w : ℤ} → Opp₁ x y v w P Q E → v ≡ pos 0 → ⊥
moves_on (up x y E P Q i) h = let z : ◌≡◌ {A = ℕ} 0 1 = cc in omega arith
moves_on (down x y E P Q i) h = let z : ◌≡◌ {A = ℕ} 0 1 = cc in omega arith

-- ---- what the two functions give

pub data FaceMeans (P Q E sa sb : ℕ) : Ages → Type 0 where
  they_meet : (x y : Time) → Sum P Q E x y → plusᵗ sa x ≈ᵗ plusᵗ sb y → FaceMeans P Q E sa sb (meet x y)
  first_late : (q : Time) → Sum P Q E zeroᵗ q → plusᵗ sb q <ᵗ plusᵗ sa zeroᵗ → FaceMeans P Q E sa sb (meet zeroᵗ q)
  second_late : (p : Time) → Sum P Q E p zeroᵗ → plusᵗ sa p <ᵗ plusᵗ sb zeroᵗ → FaceMeans P Q E sa sb (meet p zeroᵗ)

pub data ArriveMeans (P Q E : ℕ) (q : Time) : Quot → Type 0 where
  no_arrival : ((p : Time) → Sum P Q E p q → ⊥) → ArriveMeans P Q E q never
  arrives_at : (p : Time) → Sum P Q E p q → ArriveMeans P Q E q (when p)

positive : {x y P Q E : ℕ} {v w : ℤ} → Opp₁ x y v w P Q E → (0 < P) × (0 < Q)
positive (up x y E P Q i) = (omega arith, omega arith)
positive (down x y E P Q i) = (omega arith, omega arith)

module _ {x y P Q E : ℕ} {v w : ℤ} (o : Opp₁ x y v w P Q E) where
  arrive_means : (q : Time) → ArriveMeans P Q E q (arrive₁ (gap x y) v w q)
  unfolding arrive₁
  arrive_means q = go (over n d) (over_means n d (no_zero v q.den q.den_pos (moves_on o)))
    where
      n : ℤ
      n = gap x y *ℤ pos q.den +ℤ w *ℤ pos q.num

      d : ℤ
      d = v *ℤ pos q.den

      go : (k : Quot) → Means (gap x y *ℤ pos q.den +ℤ w *ℤ pos q.num) (v *ℤ pos q.den) k → ArriveMeans P Q E q k
      go k (is_never g) = no_arrival (λ p s. g p (sum_is o p q s))
      go k (is_when t i g) = arrives_at t (is_sum o t q i)

  face_means : (sa sb : ℕ) (p q : Time) → Sum P Q E p zeroᵗ → Sum P Q E zeroᵗ q → FaceMeans P Q E sa sb (face₁ (gap x y) v w (gap sb sa) p q)
  unfolding face₁ face_by
  face_means sa sb p q sp sq = go (over (gap x y +ℤ gap sb sa *ℤ w) (v -ℤ w)) (over (gap x y +ℤ gap sb sa *ℤ v) (v -ℤ w)) (over_means _ _ (moves_apart o)) (over_means _ _ (moves_apart o))
    where
      go : (k l : Quot) → Means (gap x y +ℤ gap sb sa *ℤ w) (v -ℤ w) k → Means (gap x y +ℤ gap sb sa *ℤ v) (v -ℤ w) l → FaceMeans P Q E sa sb (face_by p q k l)
      go k l (is_never g) m = first_late q sq (none_late P Q E sa sb q (positive o).1 (λ t h. g t (first_is o sa sb t h)) sq)
      go k l (is_when t i g) (is_never m) = second_late p sp (none_late Q P E sb sa p (positive o).0 (λ t h. m t (second_is o sa sb t h)) (sum-swap sp))
      go k l (is_when t i g) (is_when r j m) = they_meet t r (both-sum {sa = sa} {sb = sb} (positive o).0 (is_first o sa sb t i) (is_second o sa sb r j)) (both-time (positive o).0 (is_first o sa sb t i) (is_second o sa sb r j))

-- ---- the plane

pub record OpposedBy (a b : Track) (z : (a.vx ≡ pos 0) ⊎ (a.vx ≡ pos 0 → ⊥)) : Type 0 where
  pub P : ℕ
  pub Q : ℕ
  pub E : ℕ
  pub P_pos : 0 < P
  pub Q_pos : 0 < Q
  pub to : {p q : Time} → Sameᵃ a p b q → Sum P Q E p q
  pub from : {p q : Time} → Sum P Q E p q → Sameᵃ a p b q
  pub arrives : (q : Time) → ArriveMeans P Q E q (arrive_on a b z q)
  pub meets : (p q : Time) → Sum P Q E p zeroᵗ → Sum P Q E zeroᵗ q → FaceMeans P Q E a.start b.start (face_on a b z p q)

abbrev pub Opposed : Track → Track → Type 0
Opposed a b = OpposedBy a b (zero_z a.vx)

record Found (x y : ℕ) (v w : ℤ) : Type 0 where
  P : ℕ
  Q : ℕ
  E : ℕ
  opp : Opp₁ x y v w P Q E

-- of two tips on an axis each comes to the other's start: they run against each other
find : (x y : ℕ) (v w : ℤ) (t r : Time) → (v ≡ pos 0 → ⊥) → (w ≡ pos 0 → ⊥) → x ≢ y → Is t (gap x y) v → Is r (gap y x) w → Found x y v w
find x y (pos zero) w t r f g n i j = absurd (f refl)
find x y (pos (suc p)) (pos zero) t r f g n i j = absurd (g refl)
find x y (negsuc p) (pos zero) t r f g n i j = absurd (g refl)
find x y (pos (suc p)) (pos (suc q)) t r f g n i j = go (order x y)
  where
    go : Order x y → Found x y (pos (suc p)) (pos (suc q))
    go (less e k) = absurd (let h = rw k at (eq_diff _ _ _ _ (simp ring at j.is)) in let z = r.den_pos in omega arith)
    go (more e k) = absurd (let h = rw k at (eq_diff _ _ _ _ (simp ring at i.is)) in let z = t.den_pos in omega arith)
    go (even k) = absurd (n k)
find x y (negsuc p) (negsuc q) t r f g n i j = go (order x y)
  where
    go : Order x y → Found x y (negsuc p) (negsuc q)
    go (less e k) = absurd (let h = rw k at (eq_diff _ _ _ _ (simp ring at i.is)) in let z = t.den_pos in omega arith)
    go (more e k) = absurd (let h = rw k at (eq_diff _ _ _ _ (simp ring at j.is)) in let z = r.den_pos in omega arith)
    go (even k) = absurd (n k)
find x y (pos (suc p)) (negsuc q) t r f g n i j = go (order x y)
  where
    go : Order x y → Found x y (pos (suc p)) (negsuc q)
    go (less e k) = record { P = suc p; Q = suc q; E = suc e; opp = up x y e p q k }
    go (more e k) = absurd (let h = rw k at (eq_diff _ _ _ _ (simp ring at i.is)) in let z = t.den_pos in omega arith)
    go (even k) = absurd (n k)
find x y (negsuc p) (pos (suc q)) t r f g n i j = go (order x y)
  where
    go : Order x y → Found x y (negsuc p) (pos (suc q))
    go (less e k) = absurd (let h = rw k at (eq_diff _ _ _ _ (simp ring at i.is)) in let z = t.den_pos in omega arith)
    go (more e k) = record { P = suc p; Q = suc q; E = suc e; opp = down x y e p q k }
    go (even k) = absurd (n k)

-- on one line one coordinate gives the other
module _ (a b c d : ℕ) (x₁ y₁ u₁ v₁ x₂ y₂ u₂ v₂ : ℤ) where
  second_too :
      (u₁ ≡ pos 0 → ⊥) → u₁ *ℤ v₂ -ℤ v₁ *ℤ u₂ ≡ pos 0 → (x₂ -ℤ x₁) *ℤ v₁ -ℤ (y₂ -ℤ y₁) *ℤ u₁ ≡ pos 0
      → pos (b * d) *ℤ x₁ +ℤ pos (d * a) *ℤ u₁ ≡ pos (b * d) *ℤ x₂ +ℤ pos (b * c) *ℤ u₂
      → pos (b * d) *ℤ y₁ +ℤ pos (d * a) *ℤ v₁ ≡ pos (b * d) *ℤ y₂ +ℤ pos (b * c) *ℤ v₂
  second_too f e m h = cancel _ _ u₁ f (combine₃ _ _ v₁ _ _ (pos (b * d)) _ _ (neg_ℤ (pos (b * c))) _ _ h m e (simp expand (simp atoms (omega ints))))

module _ (a b : Track) (ma : Moves a) (mb : Moves b) (e : D a b ≡ pos 0) (t r : Time) (i : Sameᵃ a t b zeroᵗ) (j : Sameᵃ b r a zeroᵗ) (n : ¬ Sameᵃ a zeroᵗ b zeroᵗ) where
  m : M a b ≡ pos 0
  m = start_line i

  by_x : (a.vx ≡ pos 0 → ⊥) → Found a.x b.x a.vx b.vx
  by_x f = find a.x b.x a.vx b.vx t r f (speed_x a b e mb f) (λ k. n (from-x f m (is_nil a.x b.x a.vx k))) (start-x i) (start-x j)

  by_y : a.vx ≡ pos 0 → Found a.y b.y a.vy b.vy
  by_y z = find a.y b.y a.vy b.vy t r f (speed_x (swap a) (swap b) (swap_D a b e) (λ p. mb (p.1, p.0)) f) (λ k. n (from-y f m (is_nil a.y b.y a.vy k))) (start-y i) (start-y j)
    where
      f : a.vy ≡ pos 0 → ⊥
      f y = ma (z, y)

  opposed_by : (z : (a.vx ≡ pos 0) ⊎ (a.vx ≡ pos 0 → ⊥)) → OpposedBy a b z
  unfolding D M arrive_on face_on
  opposed_by (inr f) =
      let g = by_x f in
      record {
        P = g.P;
        Q = g.Q;
        E = g.E;
        P_pos = (positive g.opp).0;
        Q_pos = (positive g.opp).1;
        to = λ {p} {q} h. to₁ g.opp p q h.same_x;
        from = λ {p} {q} s.
            let x = from₁ g.opp p q s in
            record { same_x = x; same_y = from_meet a.y b.y a.vy b.vy p q (second_too p.num p.den q.num q.den (pos a.x) (pos a.y) a.vx a.vy (pos b.x) (pos b.y) b.vx b.vy f e m (to_meet a.x b.x a.vx b.vx p q x)) };
        arrives = λ q. arrive_means g.opp q;
        meets = λ p q. face_means g.opp a.start b.start p q;
      }
  opposed_by (inl z) =
      let g = by_y z in
      record {
        P = g.P;
        Q = g.Q;
        E = g.E;
        P_pos = (positive g.opp).0;
        Q_pos = (positive g.opp).1;
        to = λ {p} {q} h. to₁ g.opp p q h.same_y;
        from = λ {p} {q} s.
            let y = from₁ g.opp p q s in
            record { same_x = from_meet a.x b.x a.vx b.vx p q (second_too p.num p.den q.num q.den (pos a.y) (pos a.x) a.vy a.vx (pos b.y) (pos b.x) b.vy b.vx (λ y. ma (z, y)) (swap_D' a.vx a.vy b.vx b.vy e) (swap_D' (dx a b) (dy a b) a.vx a.vy m) (to_meet a.y b.y a.vy b.vy p q y)); same_y = y };
        arrives = λ q. arrive_means g.opp q;
        meets = λ p q. face_means g.opp a.start b.start p q;
      }

  pub opposed : Opposed a b
  opposed = opposed_by (zero_z a.vx)

-- ---- on one line, facing or not: `arrive_on` gives an age at which a is where b is at age q

line_eq : (pn pd qn qd : ℕ) (x y v w : ℤ) → pos pn *ℤ (v *ℤ pos qd) ≡ pos pd *ℤ ((y -ℤ x) *ℤ pos qd +ℤ w *ℤ pos qn) → pos (pd * qd) *ℤ x +ℤ pos (qd * pn) *ℤ v ≡ pos (pd * qd) *ℤ y +ℤ pos (pd * qn) *ℤ w
line_eq pn pd qn qd x y v w = simp expand (simp atoms (omega ints))

over_is : (n d : ℤ) (p : Time) → (d ≡ pos 0 → ⊥) → over n d ≡ when p → Is p n d
over_is n d p f e = go (over n d) (over_means n d f) e
  where
    go : (k : Quot) → Means n d k → k ≡ when p → Is p n d
    go k (is_never g) x = absurd (let z : ◌≡◌ {A = ℕ} 0 1 = cc in omega arith)
    go k (is_when t i g) x = let y : t ≡ p = cc in rw (sym y) i

pub arrive_same : (a b : Track) → Moves a → D a b ≡ pos 0 → M a b ≡ pos 0 → (z : (a.vx ≡ pos 0) ⊎ (a.vx ≡ pos 0 → ⊥)) (q p : Time) → arrive_on a b z q ≡ when p → Sameᵃ a p b q
unfolding arrive_on arrive₁ D M
arrive_same a b ma e m (inr f) q p x =
    let i = over_is _ _ p (no_zero a.vx q.den q.den_pos f) x in
    let g = line_eq p.num p.den q.num q.den (pos a.x) (pos b.x) a.vx b.vx i.is in
    record {
      same_x = from_meet a.x b.x a.vx b.vx p q g;
      same_y = from_meet a.y b.y a.vy b.vy p q (second_too p.num p.den q.num q.den (pos a.x) (pos a.y) a.vx a.vy (pos b.x) (pos b.y) b.vx b.vy f e m g);
    }
arrive_same a b ma e m (inl z) q p x =
    let i = over_is _ _ p (no_zero a.vy q.den q.den_pos (λ y. ma (z, y))) x in
    let g = line_eq p.num p.den q.num q.den (pos a.y) (pos b.y) a.vy b.vy i.is in
    record {
      same_x = from_meet a.x b.x a.vx b.vx p q (second_too p.num p.den q.num q.den (pos a.y) (pos a.x) a.vy a.vx (pos b.y) (pos b.x) b.vy b.vx (λ y. ma (z, y)) (swap_D' a.vx a.vy b.vx b.vy e) (swap_D' (dx a b) (dy a b) a.vx a.vy m) g);
      same_y = from_meet a.y b.y a.vy b.vy p q g;
    }

-- A cut of a tip's ages as one of the sheet's times, n units later (`plusᶜ`): `delayed-after` and `after-delayed`, what comes after it; `delayed_le`, `delayed_lt` and `lt_delayed`, the order is kept;
-- `past-delayed`, against the cut just after a time.
use mathlib.Core.Path.{◌≡◌}
use Prim.Native.Nat.{ℕ, ◌+◌, ◌*◌, ◌≤◌}
use native.Mathlib.Nat.{le_of_mul-le-mul_right}
use native.Mathlib.Omega.{arith}
use Rattle.fraction.specs.Time.{Time, ◌≤ᵗ◌, fraction, plusᵗ, minusᵗ}
use Rattle.fraction.proofs.TimeOrder.{≈ᵗ→≤ᵗ, ≈ᵗ_sym}
use Rattle.fraction.proofs.Shift.{plus_from, minus_plus, minus_le}
use Rattle.cells.specs.Cut.{Cut, After, plusᶜ, past, ◌≤ᶜ◌, ◌<ᶜ◌}
use Rattle.cells.proofs.Cut.{after_den, after_mono, not-past, by_past}

module _ (n : ℕ) where
  shifted_on : (kn kd o tn td r : ℕ) → tn ≡ r + n * td → kn * td + o ≤ r * kd → (kn + n * kd) * td + o ≤ tn * kd
  shifted_on kn kd o tn td r e h = rw e (omega arith)

  pub delayed-after : {k : Cut} {t : Time} → fraction n 1 ≤ᵗ t → After k (minusᵗ n t) → After (plusᶜ n k) t
  unfolding plusᶜ minusᵗ
  delayed-after {k} {t} o a = record { on = shifted_on k.num k.den k.late t.num t.den _ (let x = o.le in omega arith) a.on }

  pub after-opened : (k : Cut) {t : Time} → After (plusᶜ n k) t → fraction n 1 ≤ᵗ t
  unfolding plusᶜ
  after-opened k {t} a =
      let x : n * t.den ≤ t.num = le_of_mul-le-mul_right {k = k.den} (let y = a.on in omega arith) (after_den (plusᶜ n k) t a) in
      record { le = omega arith }

  unshifted_on : (kn kd o tn td r : ℕ) → tn ≡ r + n * td → (kn + n * kd) * td + o ≤ tn * kd → kn * td + o ≤ r * kd
  unshifted_on kn kd o tn td r e h = let x = rw e at h in omega arith

  pub after-delayed : (k : Cut) {t : Time} → After (plusᶜ n k) t → After k (minusᵗ n t)
  unfolding plusᶜ minusᵗ
  after-delayed k {t} a = let o = after-opened k a in record { on = unshifted_on k.num k.den k.late t.num t.den _ (let x = o.le in omega arith) a.on }

  -- ---- the order

  pub delayed_le : {k l : Cut} → k ≤ᶜ l → plusᶜ n k ≤ᶜ plusᶜ n l
  delayed_le {l = l} h = record { to = λ t a. delayed-after (after-opened l a) (h.to (minusᵗ n t) (after-delayed l a)) }

  pub delayed_lt : {k l : Cut} → k <ᶜ l → plusᶜ n k <ᶜ plusᶜ n l
  delayed_lt {l = l} h =
      let o = plus_from n h.at in
      let e = minus_plus n h.at in
      record {
        at = plusᵗ n h.at;
        above = delayed-after o (after_mono (≈ᵗ→≤ᵗ (≈ᵗ_sym e)) h.above);
        below = λ a. h.below (after_mono (≈ᵗ→≤ᵗ e) (after-delayed l a));
      }

  pub lt_delayed : (k l : Cut) → plusᶜ n k <ᶜ plusᶜ n l → k <ᶜ l
  lt_delayed k l h = record { at = minusᵗ n h.at; above = after-delayed k h.above; below = λ a. h.below (delayed-after (after-opened k h.above) a) }

  -- ---- just after a time

  pub past-delayed : (k : Cut) (T : Time) → plusᶜ n k <ᶜ past T → k <ᶜ past (minusᵗ n T)
  past-delayed k T h = record { at = minusᵗ n h.at; above = after-delayed k h.above; below = not-past (minus_le n (by_past h.below)) }

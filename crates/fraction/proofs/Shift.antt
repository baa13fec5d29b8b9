-- Times moved by a whole number of units, n: later (`plusᵗ`) and earlier (`minusᵗ`). `plus_minus` and `minus_plus`: each takes back the other; both keep the order.
use mathlib.Core.Path.{◌≡◌, refl}
use Prim.Native.Nat.{ℕ, suc, pred, ◌+◌, ◌*◌, ◌-◌, ◌≤◌, ◌<◌, zero-le, suc-le-suc}
use native.Mathlib.Nat.{le_of_mul-le-mul_left}
use native.Mathlib.Decide.{dec_le}
use native.Mathlib.Omega.{arith}
use Rattle.fraction.specs.declared.Fraction.{Fraction}
use Rattle.fraction.specs.Time.{Time, ◌≤ᵗ◌, ◌<ᵗ◌, ◌≈ᵗ◌, fraction, as_time, plusᵗ, minusᵗ, later_by, earlier_by}
use Rattle.fraction.specs.Order.{≈ᵗ_of}
use Rattle.fraction.proofs.TimeOrder.{≤ᵗ_trans, <ᵗ_≤ᵗ_trans, ≈ᵗ→≤ᵗ, ≈ᵗ_sym, <ᵗ_irrefl}

module _ (n : ℕ) where
  pub plus_le : {p q : Time} → p ≤ᵗ q → plusᵗ n p ≤ᵗ plusᵗ n q
  unfolding plusᵗ
  plus_le h = let k = h.le in record { le = omega arith }

  pub plus_from : (p : Time) → fraction n 1 ≤ᵗ plusᵗ n p
  unfolding plusᵗ
  plus_from p = record { le = omega arith }

  -- t is not before n: n and the rest
  rest : (t : Time) → fraction n 1 ≤ᵗ t → t.num ≡ t.num - n * t.den + n * t.den
  rest t h = let k = h.le in omega arith

  pub plus_minus : {t : Time} → fraction n 1 ≤ᵗ t → plusᵗ n (minusᵗ n t) ≈ᵗ t
  unfolding plusᵗ minusᵗ
  plus_minus {t} h = go (t.num - n * t.den) (rest t h)
    where
      go : (c : ℕ) → t.num ≡ c + n * t.den → record { num = c + n * t.den; den = t.den; den_pos = t.den_pos } ≈ᵗ t
      go c e = rw e (record { eq = refl })

  pub minus_plus : (p : Time) → minusᵗ n (plusᵗ n p) ≈ᵗ p
  unfolding plusᵗ minusᵗ
  minus_plus p = go (p.num + n * p.den - n * p.den) (omega arith)
    where
      go : (c : ℕ) → c ≡ p.num → record { num = c; den = p.den; den_pos = p.den_pos } ≈ᵗ p
      go c e = rw e (record { eq = refl })

  minus_mono : (tn td un ud c d : ℕ) → 0 < td → c ≡ tn - n * td → d ≡ un - n * ud → tn * ud ≤ un * td → c * ud ≤ d * td
  minus_mono tn td un ud c d p e f h = go (dec_le (n * td) tn)
    where
      go : Dec (n * td ≤ tn) → c * ud ≤ d * td
      go (no k) = let z : c ≡ 0 = omega arith in rw z (omega arith)
      go (yes k) =
          let a : tn ≡ c + n * td = omega arith in
          let h' = rw a at h in
          let x : n * ud ≤ un = le_of_mul-le-mul_left {k = td} (omega arith) p in
          let b : un ≡ d + n * ud = omega arith in
          let h'' = rw b at h' in
          omega arith

  pub minus_le : {t u : Time} → t ≤ᵗ u → minusᵗ n t ≤ᵗ minusᵗ n u
  unfolding minusᵗ
  minus_le {t} {u} h = record { le = minus_mono t.num t.den u.num u.den (t.num - n * t.den) (u.num - n * u.den) t.den_pos refl refl h.le }

  pub minus_cong : {t u : Time} → t ≈ᵗ u → minusᵗ n t ≈ᵗ minusᵗ n u
  minus_cong h = ≈ᵗ_of (minus_le (≈ᵗ→≤ᵗ h)) (minus_le (≈ᵗ→≤ᵗ (≈ᵗ_sym h)))

  -- back, where the later is not before n
  pub minus_le_back : {t u : Time} → fraction n 1 ≤ᵗ t → fraction n 1 ≤ᵗ u → minusᵗ n t ≤ᵗ minusᵗ n u → t ≤ᵗ u
  minus_le_back h k l = ≤ᵗ_trans (≈ᵗ→≤ᵗ (≈ᵗ_sym (plus_minus h))) (≤ᵗ_trans (plus_le l) (≈ᵗ→≤ᵗ (plus_minus k)))

  pub minus_back : {t u : Time} → fraction n 1 ≤ᵗ t → fraction n 1 ≤ᵗ u → minusᵗ n t ≈ᵗ minusᵗ n u → t ≈ᵗ u
  minus_back h k l = ≈ᵗ_of (minus_le_back h k (≈ᵗ→≤ᵗ l)) (minus_le_back k h (≈ᵗ→≤ᵗ (≈ᵗ_sym l)))

  pub minus_lt : {t u : Time} → fraction n 1 ≤ᵗ t → t <ᵗ u → minusᵗ n t <ᵗ minusᵗ n u
  minus_lt {t} {u} h k = go (dec_le ((minusᵗ n u).num * (minusᵗ n t).den) ((minusᵗ n t).num * (minusᵗ n u).den))
    where
      go : Dec ((minusᵗ n u).num * (minusᵗ n t).den ≤ (minusᵗ n t).num * (minusᵗ n u).den) → minusᵗ n t <ᵗ minusᵗ n u
      go (yes l) = absurd (<ᵗ_irrefl (<ᵗ_≤ᵗ_trans k (minus_le_back (≤ᵗ_trans h (record { le = omega (arith, k.lt) })) h (record { le = l }))))
      go (no l) = record { lt = omega arith }

  -- p units after n is t, or not after t, or not before t
  pub plus_by : {p t : Time} → fraction n 1 ≤ᵗ t → p ≤ᵗ minusᵗ n t → plusᵗ n p ≤ᵗ t
  plus_by h k = ≤ᵗ_trans (plus_le k) (≈ᵗ→≤ᵗ (plus_minus h))

  pub by_plus : {p t : Time} → fraction n 1 ≤ᵗ t → minusᵗ n t ≤ᵗ p → t ≤ᵗ plusᵗ n p
  by_plus h k = ≤ᵗ_trans (≈ᵗ→≤ᵗ (≈ᵗ_sym (plus_minus h))) (plus_le k)

  -- ---- as the code has it

  module _ (f : Fraction) (p : 0 < f.den) where
    whole_den : suc (pred f.den) ≡ f.den
    whole_den = omega arith

    pub later_is : as_time (later_by n f) ≡ plusᵗ n (as_time f)
    unfolding plusᵗ
    later_is =
        let x : f.num + n * f.den ≡ f.num + n * suc (pred f.den) = rw whole_den refl in
        λ i. record { num = x i; den = suc (pred f.den); den_pos = suc-le-suc zero-le }

    pub earlier_is : as_time (earlier_by n f) ≡ minusᵗ n (as_time f)
    unfolding minusᵗ
    earlier_is =
        let x : f.num - n * f.den ≡ f.num - n * suc (pred f.den) = rw whole_den refl in
        λ i. record { num = x i; den = suc (pred f.den); den_pos = suc-le-suc zero-le }

    -- it had opened by then, as the code tests it
    pub opened_is : fraction n 1 ≤ᵗ as_time f → n * f.den ≤ f.num
    opened_is h = let k = rw whole_den at h.le in omega arith

-- Every n / d that is not negative has exactly one nearest whole number (`one_nearest`), which is computed by `nearest_of` (`nearest_of_lem`); rounding keeps the order (`keeps_order`; over one denominator `nearest_order`).
use mathlib.Core.Path.{◌≡◌, refl, sym, subst}
use mathlib.Core.Bool.{Bool, true, false, not, cond}
use Prim.Native.Nat.{ℕ, suc, ◌+◌, ◌*◌, ◌-◌, ◌/◌, ◌%◌, ◌≤◌, ◌<◌}
use native.Mathlib.Decide.{dec_le, dec_lt}
use native.Mathlib.Nat.{mul_comm, mul-pos, mul-le-mul_right, le_of_mul-le-mul_right, eq_of_mul-eq-mul_right, mod-lt, mod-add-div}
use native.Mathlib.Omega.{arith}
use lib.Dec.{T, ltb, ltb→lt, nltb→le}
use Rattle.fraction.specs.Whole.{Whole, nat, ◌≈◌, ◌⊑◌, ◌·◌}
use Rattle.rounding.specs.Nearest.{Halfway, Nearest}
use Rattle.rounding.specs.Computed.{by_rest, nearest_of}

-- ---- at most one

-- a lower n / d has no higher nearest: else n / d and m / d are the same half, between two neighbours that are both even
pub nearest_order : {n m : Whole} {d q p : ℕ} → 0 < d → n ⊑ m → Nearest n d q → Nearest m d p → q ≤ p
nearest_order {n} {m} {d} {q} {p} h k f g = go (dec_le q p)
  where
    low : 2 * q * d + n.down * 2 ≤ n.up * 2 + d
    low = omega (arith, f.low.le)

    high : m.up * 2 ≤ (2 * p + 1) * d + m.down * 2
    high = omega (arith, g.high.le)

    neighbours : q * d ≤ suc p * d
    neighbours = omega (arith, k.le, low, high)

    same_half : q ≡ suc p → Halfway n d × Halfway m d
    same_half e =
        let b : q * d ≡ suc p * d = rw e in
        (record { whole = p; is = record { eq = omega (arith, k.le) } }, record { whole = p; is = record { eq = omega (arith, k.le) } })

    go : Dec (q ≤ p) → q ≤ p
    go (yes z) = z
    go (no z) =
        let e : q ≡ suc p = omega (arith, le_of_mul-le-mul_right neighbours h) in
        let (a, b) = same_half e in
        absurd (omega (arith, (f.even a).is, (g.even b).is))

pub nearest_once : {n : Whole} {d q p : ℕ} → 0 < d → Nearest n d q → Nearest n d p → q ≡ p
nearest_once {n} h f g =
    let same : n ⊑ n = record { le = omega arith } in
    omega (arith, nearest_order h same f g, nearest_order h same g f)

-- ---- one

-- n divided by d: the quotient and the rest
pub record Divided (n d q r : ℕ) : Type 0 where
  pub is : n ≡ q * d + r
  pub less : r < d

pub divided : (n d : ℕ) → 0 < d → Divided n d (n / d) (n % d)
divided n d h = record { is = omega (arith, mod-add-div n d); less = mod-lt n h }

module _ {n d q r : ℕ} (v : Divided n d q r) where
  -- only at half of d does n / d lie halfway
  half_rest : Halfway (nat n) d → 2 * r ≡ d
  half_rest h = go (dec_lt q h.whole) (dec_lt h.whole q)
    where
      twice : 2 * (q * d) + 2 * r ≡ 2 * (h.whole * d) + d
      twice = omega (arith, v.is, h.is.eq)

      go : Dec (q < h.whole) → Dec (h.whole < q) → 2 * r ≡ d
      go (yes x) y = let k : suc q * d ≤ h.whole * d = mul-le-mul_right d x in absurd (omega (arith, twice, v.less))
      go (no x) (yes y) = let k : suc h.whole * d ≤ q * d = mul-le-mul_right d y in absurd (omega (arith, twice, v.less))
      go (no x) (no y) = let e : q ≡ h.whole = omega arith in let k : q * d ≡ h.whole * d = rw e in omega (arith, twice)

  pub below_half : 2 * r < d → Nearest (nat n) d q
  below_half k = record { low = record { le = omega (arith, v.is) }; high = record { le = omega (arith, v.is) }; even = λ h. absurd (omega (arith, half_rest h)) }

  pub above_half : d < 2 * r → Nearest (nat n) d (q + 1)
  above_half k = record { low = record { le = omega (arith, v.is) }; high = record { le = omega (arith, v.is, v.less) }; even = λ h. absurd (omega (arith, half_rest h)) }

  pub at_half : 2 * r ≡ d → Nearest (nat n) d (q + q % 2)
  at_half k =
      let b : q % 2 * d ≤ 1 * d = mul-le-mul_right d (omega arith) in
      record { low = record { le = omega (arith, v.is) }; high = record { le = omega (arith, v.is) }; even = λ h. record { half = (q + q % 2) / 2; is = omega arith } }

-- a whole number is its own nearest
pub nearest_whole : {d : ℕ} (q : ℕ) → 0 < d → Nearest (nat (q * d)) d q
nearest_whole {d} q h = below_half (record { is = omega arith; less = h }) h

not-less : (m n : ℕ) → ltb m n ≡ false → n ≤ m
not-less m n e = nltb→le m n (subst (λ (b : Bool). T (not b)) (sym e) tt)

pub nearest_of_lem : (n d : ℕ) → 0 < d → Nearest (nat n) d (nearest_of n d)
unfolding nearest_of by_rest
nearest_of_lem n d h = go (ltb (2 * (n % d)) d) refl (ltb d (2 * (n % d))) refl
  where
    go : (b : Bool) → ltb (2 * (n % d)) d ≡ b → (c : Bool) → ltb d (2 * (n % d)) ≡ c → Nearest (nat n) d (cond b (n / d) (cond c (n / d + 1) (n / d + n / d % 2)))
    go true e c k = below_half (divided n d h) (ltb→lt _ _ (subst T (sym e) tt))
    go false e true k = above_half (divided n d h) (ltb→lt _ _ (subst T (sym k) tt))
    go false e false k = at_half (divided n d h) (omega (arith, not-less (2 * (n % d)) d e, not-less d (2 * (n % d)) k))

-- equal wholes have the same nearest
pub nearest_same : {n m : Whole} {d q : ℕ} → n ≈ m → Nearest n d q → Nearest m d q
nearest_same {n} {m} {d} {q} e f =
    record {
      low = record { le = omega (arith, e.eq, f.low.le) };
      high = record { le = omega (arith, e.eq, f.high.le) };
      even = λ h. f.even (record { whole = h.whole; is = record { eq = omega (arith, e.eq, h.is.eq) } });
    }

-- ---- whatever the denominators

-- multiplied through, a fraction keeps its nearest
nearest_scaled : {n : Whole} {d q : ℕ} (k : ℕ) → 0 < k → Nearest n d q → Nearest (n · k) (d * k) q
nearest_scaled {n} {d} {q} k h f =
    record {
      low = record { le = omega (arith, mul-le-mul_right k f.low.le) };
      high = record { le = omega (arith, mul-le-mul_right k f.high.le) };
      even = λ v. f.even (record { whole = v.whole; is = record { eq = eq_of_mul-eq-mul_right k h _ _ (omega (arith, v.is.eq)) } });
    }

-- n / d is no more than m / e, and so are the nearest
pub keeps_order : {n m : Whole} {d e q p : ℕ} → 0 < d → 0 < e → n · e ⊑ m · d → Nearest n d q → Nearest m e p → q ≤ p
keeps_order {n} {m} {d} {e} {q} {p} h k o f g =
    let g' : Nearest (m · d) (d * e) p = subst (λ (c : ℕ). Nearest (m · d) c p) (mul_comm e d) (nearest_scaled d h g) in
    nearest_order (mul-pos h k) o (nearest_scaled e k f) g'

-- ---- exactly one

-- q is what P holds of, and nothing else is
pub record Only (P : ℕ → Type 0) (q : ℕ) : Type 0 where
  pub holds : P q
  pub alone : (p : ℕ) → P p → p ≡ q

pub one_nearest : (n : Whole) (d : ℕ) → 0 < d → nat 0 ⊑ n → (q : ℕ) × Only (Nearest n d) q
one_nearest n d h k =
    let m = n.up - n.down in
    let e : nat m ≈ n = record { eq = omega (arith, k.le) } in
    let f = nearest_same e (nearest_of_lem m d h) in
    (nearest_of m d, record { holds = f; alone = λ p g. nearest_once h g f })

-- Fractions in lowest terms. Main theorems: `lowest_unique`, equal fractions in lowest terms are the same; `lowest_of_reduced`, with `reduced_unique`: `lowest_of n d` is the one fraction in lowest terms that equals n / d.
use mathlib.Core.Path.{◌≡◌, refl, sym, ap, subst, ◌∙◌}
use mathlib.Core.Logic.{◌⊎◌, inl, inr}
use Prim.Native.Nat.{ℕ, zero, suc, pred, ◌+◌, ◌*◌, ◌-◌, ◌/◌, ◌%◌, ◌≤◌, ◌<◌, ◌∣◌}
use native.Mathlib.Nat.{eq-zero-or-pos, mul-pos, mul-le-mul_right, mul-lt-mul_of_pos_right, le_of_mul-le-mul_right, lt_of_mul-lt-mul_right, eq_of_mul-eq-mul_left, le_of_lt, mul_assoc, mul-one, mod-lt, div-le_self, mul-div_cancel', div-mul_cancel}
use native.Mathlib.Nat.{dvd_refl, dvd-zero, dvd-add, dvd-mod_iff, dvd_antisymm, dvd-mul_right, mul-dvd-mul_left, dvd_of_mul-dvd-mul_left, pos_of_dvd_of_pos, eq-one_of_dvd-one}
use native.Mathlib.Decide.{dec_le}
use native.Mathlib.Omega.{arith}
use Rattle.fraction.specs.declared.Fraction.{Fraction}
use Rattle.fraction.specs.Time.{Time, ◌≈ᵗ◌, fraction}
use Rattle.fraction.specs.Lowest.{Lowest, Greatest, Reduced, euclid, gcd_of, lowest_of}

-- ---- equal fractions in lowest terms: subtractive Euclid on both at once

lowest_sub_num : {n d m : ℕ} → n ≡ d + m → Lowest n d → Lowest m d
lowest_sub_num e l = record { only = λ k x y. l.only k (rw e (dvd-add k y x)) y }

lowest_sub_den : {n d m : ℕ} → d ≡ n + m → Lowest n d → Lowest n m
lowest_sub_den e l = record { only = λ k x y. l.only k x (rw e (dvd-add k x y)) }

split : {a b : ℕ} → a ≤ b → (c : ℕ) × (b ≡ a + c)
split {a} {b} h = (b - a, omega arith)

le_or_lt : (a b : ℕ) → (a ≤ b) ⊎ (b < a)
le_or_lt a b = go (dec_le a b)
  where
    go : Dec (a ≤ b) → (a ≤ b) ⊎ (b < a)
    go (yes h) = inl h
    go (no h) = inr (omega arith)

lowest-zero : {d : ℕ} → Lowest 0 d → d ≡ 1
lowest-zero {d} l = l.only d (dvd-zero d) (dvd_refl d)

mul_zero_left : {n d : ℕ} → 0 < d → n * d ≡ 0 → n ≡ 0
mul_zero_left {n} {d} h e = go (eq-zero-or-pos n)
  where
    go : (n ≡ 0) ⊎ (0 < n) → n ≡ 0
    go (inl x) = x
    go (inr x) = let y = mul-pos x h in omega arith

Pairs : ℕ → ℕ → ℕ → ℕ → Type 0
Pairs n d n' d' = Lowest n d → Lowest n' d' → 0 < d → 0 < d' → n * d' ≡ n' * d → (n ≡ n') × (d ≡ d')

lowest_go : (f n d n' d' : ℕ) → n + d < f → Pairs n d n' d'
unfolding Pairs
lowest_go zero n d n' d' h l l' p p' e = absurd (omega arith)
lowest_go (suc f) n d n' d' h l l' p p' e = go (eq-zero-or-pos n) (le_or_lt d n) (λ a b c g. lowest_go f a d b d' c g) (λ a b c g. lowest_go f n a n' b c g)
  where
    go : (n ≡ 0) ⊎ (0 < n) → (d ≤ n) ⊎ (n < d) → ((a b : ℕ) → a + d < f → Pairs a d b d') → ((a b : ℕ) → n + a < f → Pairs n a n' b) → (n ≡ n') × (d ≡ d')
    go (inl z) c r s =
        let e₀ = rw z at e in
        let z' : n' ≡ 0 = mul_zero_left p (omega arith) in
        let x = lowest-zero (rw z at l) in
        let x' = lowest-zero (rw z' at l') in
        (omega arith, omega arith)
    go (inr z) (inl c) r s =
        let c' : d' ≤ n' = le_of_mul-le-mul_right {k = d} (omega (arith, mul-le-mul_right d' c)) p in
        let (m, i) = split c in
        let (m', i') = split c' in
        let e₁ = rw (i, i') at e in
        let q = r m m' (omega arith) (lowest_sub_num i l) (lowest_sub_num i' l') p p' (omega arith) in
        (omega arith, q.1)
    go (inr z) (inr c) r s =
        let c' : n' < d' = lt_of_mul-lt-mul_right d (omega (arith, mul-lt-mul_of_pos_right {k = d'} c p')) in
        let (m, i) = split (le_of_lt c) in
        let (m', i') = split (le_of_lt c') in
        let e₁ = rw (i, i') at e in
        let q = s m m' (omega arith) (lowest_sub_den i l) (lowest_sub_den i' l') (omega arith) (omega arith) (omega arith) in
        (q.0, omega arith)

pub lowest_unique : (n d n' d' : ℕ) → Lowest n d → Lowest n' d' → 0 < d → 0 < d' → n * d' ≡ n' * d → (n ≡ n') × (d ≡ d')
unfolding Pairs
lowest_unique n d n' d' = lowest_go (suc (n + d)) n d n' d' (omega arith)

-- with the quotients at hand
pub lowest_by : {n d : ℕ} → ((k p q : ℕ) → n ≡ k * p → d ≡ k * q → k ≡ 1) → Lowest n d
lowest_by {n} {d} f = record { only = λ k x y. f k (n / k) (d / k) (sym (mul-div_cancel' k x)) (sym (mul-div_cancel' k y)) }

-- ---- the greatest common divisor

pub greatest_unique : {a b g h : ℕ} → Greatest a b g → Greatest a b h → g ≡ h
greatest_unique {g} {h} p q = dvd_antisymm (q.greatest g p.left p.right) (p.greatest h q.left q.right)

euclid-greatest : (turns a b : ℕ) → b < turns → Greatest a b (euclid turns a b)
unfolding euclid
euclid-greatest zero a b h = absurd (omega arith)
euclid-greatest (suc turns) a zero h = record { left = dvd_refl a; right = dvd-zero a; greatest = λ k p q. p }
euclid-greatest (suc turns) a (suc b) h =
    let r = euclid-greatest turns (suc b) (a % suc b) (omega (arith, mod-lt a {m = suc b} (omega arith))) in
    record {
      left = (dvd-mod_iff _ r.left).0 r.right;
      right = r.left;
      greatest = λ k p q. r.greatest k q ((dvd-mod_iff k q).1 p);
    }

pub gcd_of-greatest : (a b : ℕ) → Greatest a b (gcd_of a b)
unfolding gcd_of
gcd_of-greatest a b = euclid-greatest (suc b) a b (omega arith)

-- ---- both parts divided by it

module _ {n d g : ℕ} (h : Greatest n d g) (p : 0 < d) where
  pub divisor_pos : 0 < g
  divisor_pos = pos_of_dvd_of_pos h.right p

  quotient_pos : 0 < d / g
  quotient_pos = pos_of_dvd_of_pos (subst (λ (k : ℕ). d / g ∣ k) (div-mul_cancel g h.right) (dvd-mul_right (d / g) g)) p

  quotient_same : n * (d / g) ≡ n / g * d
  quotient_same =
      ap (λ (k : ℕ). k * (d / g)) (sym (div-mul_cancel g h.left))
      ∙ mul_assoc (n / g) g (d / g)
      ∙ ap (λ (k : ℕ). n / g * k) (mul-div_cancel' g h.right)

  -- a common divisor k of the quotients would make g * k a common divisor
  quotient_lowest : Lowest (n / g) (d / g)
  quotient_lowest = record {
    only = λ k x y.
        let q₁ = subst (λ (z : ℕ). g * k ∣ z) (mul-div_cancel' g h.left) (mul-dvd-mul_left k g x) in
        let q₂ = subst (λ (z : ℕ). g * k ∣ z) (mul-div_cancel' g h.right) (mul-dvd-mul_left k g y) in
        let r = subst (λ (z : ℕ). g * k ∣ z) (sym (mul-one g)) (h.greatest (g * k) q₁ q₂) in
        eq-one_of_dvd-one (dvd_of_mul-dvd-mul_left k divisor_pos r);
  }

  pub divided_reduced : Reduced n d (record { num = n / g; den = d / g })
  divided_reduced = record { same = quotient_same; den_pos = quotient_pos; lowest = quotient_lowest }

-- ---- the fraction in lowest terms

pub lowest_of_reduced : (n d : ℕ) → 0 < d → Reduced n d (lowest_of n d)
unfolding lowest_of
lowest_of_reduced n d p = divided_reduced (gcd_of-greatest n d) p

same_parts : (r s : Fraction) → r.num ≡ s.num → r.den ≡ s.den → r ≡ s
same_parts r s p q =
    subst (λ (z : ℕ). r ≡ record { num = z; den = s.den }) p
    (subst (λ (z : ℕ). r ≡ record { num = r.num; den = z }) q refl)

pub reduced_unique : {n d : ℕ} {r s : Fraction} → 0 < d → Reduced n d r → Reduced n d s → r ≡ s
reduced_unique {n} {d} {r} {s} p h k =
    let x = ap (λ (z : ℕ). z * s.den) h.same in
    let y = ap (λ (z : ℕ). z * r.den) k.same in
    let e : d * (r.num * s.den) ≡ d * (s.num * r.den) = omega arith in
    let q = lowest_unique r.num r.den s.num s.den h.lowest k.lowest h.den_pos k.den_pos (eq_of_mul-eq-mul_left d p _ _ e) in
    same_parts r s q.0 q.1

pub reduced_is : {n d : ℕ} {r : Fraction} → 0 < d → Reduced n d r → r ≡ lowest_of n d
reduced_is {n} {d} p h = reduced_unique p h (lowest_of_reduced n d p)

-- no part grows
pub lowest_of_num : (n d : ℕ) → (lowest_of n d).num ≤ n
unfolding lowest_of
lowest_of_num n d = div-le_self n (gcd_of n d)

pub lowest_of_den : (n d : ℕ) → (lowest_of n d).den ≤ d
unfolding lowest_of
lowest_of_den n d = div-le_self d (gcd_of n d)

-- a time, reduced, is the same time
pub reduced_time : (t : Time) {r : Fraction} → Reduced t.num t.den r → t ≈ᵗ fraction r.num r.den
reduced_time t {r} h =
    let e : suc (pred r.den) ≡ r.den = omega (arith, h.den_pos) in
    record { eq = subst (λ (z : ℕ). t.num * z ≡ r.num * t.den) (sym e) h.same }

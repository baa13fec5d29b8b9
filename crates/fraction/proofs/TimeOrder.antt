-- The order of times. Main theorems: `≤ᵗ_trans` with its mixed forms, and the decision `≤ᵗ_or_<ᵗ`.
use mathlib.Core.Path.{◌≡◌}
use mathlib.Core.Logic.{◌⊎◌, inl, inr}
use mathlib.Core.Bool.{true, false}
use Prim.Native.Nat.{ℕ, suc, pred, ◌*◌, ◌≤◌, ◌<◌}
use native.Mathlib.Omega.{arith}
use native.Mathlib.Nat.{mul-le-mul_right, le_of_mul-le-mul_left, mul-lt-mul_of_pos_right, lt_of_mul-lt-mul_left}
use borrow.Author.Tests.{leb-true, leb-false}
use Rattle.fraction.specs.declared.Fraction.{Fraction}
use Rattle.fraction.specs.Time.{Time, ◌≤ᵗ◌, ◌<ᵗ◌, ◌≈ᵗ◌, fraction, as_time, not_later, zeroᵗ}
use Rattle.fraction.specs.Order.{≤ᵗ_or_<ᵗ, ≈ᵗ_of}

pub ≤ᵗ_refl : (a : Time) → a ≤ᵗ a
≤ᵗ_refl a = record { le = omega arith }

pub ≤ᵗ_of_eq : {a b : Time} → a ≡ b → a ≤ᵗ b
≤ᵗ_of_eq {a} {b} e = rw e (≤ᵗ_refl b)

pub ≤ᵗ_trans : {a b c : Time} → a ≤ᵗ b → b ≤ᵗ c → a ≤ᵗ c
≤ᵗ_trans {a} {b} {c} h k =
    let x = mul-le-mul_right c.den h.le in
    let y = mul-le-mul_right a.den k.le in
    let z : b.den * (a.num * c.den) ≤ b.den * (c.num * a.den) = omega arith in
    record { le = le_of_mul-le-mul_left z b.den_pos }

pub ≤ᵗ_<ᵗ_trans : {a b c : Time} → a ≤ᵗ b → b <ᵗ c → a <ᵗ c
≤ᵗ_<ᵗ_trans {a} {b} {c} h k =
    let x = mul-le-mul_right c.den h.le in
    let y = mul-lt-mul_of_pos_right {k = a.den} k.lt a.den_pos in
    let z : b.den * (a.num * c.den) < b.den * (c.num * a.den) = omega arith in
    record { lt = lt_of_mul-lt-mul_left b.den z }

pub <ᵗ_≤ᵗ_trans : {a b c : Time} → a <ᵗ b → b ≤ᵗ c → a <ᵗ c
<ᵗ_≤ᵗ_trans {a} {b} {c} h k =
    let x = mul-lt-mul_of_pos_right {k = c.den} h.lt c.den_pos in
    let y = mul-le-mul_right a.den k.le in
    let z : b.den * (a.num * c.den) < b.den * (c.num * a.den) = omega arith in
    record { lt = lt_of_mul-lt-mul_left b.den z }

pub <ᵗ→≤ᵗ : {a b : Time} → a <ᵗ b → a ≤ᵗ b
<ᵗ→≤ᵗ h = record { le = omega arith }

pub <ᵗ_trans : {a b c : Time} → a <ᵗ b → b <ᵗ c → a <ᵗ c
<ᵗ_trans h k = <ᵗ_≤ᵗ_trans h (<ᵗ→≤ᵗ k)

pub <ᵗ_irrefl : {a : Time} → ¬ (a <ᵗ a)
<ᵗ_irrefl h = omega arith

-- definitions compute through it
pub zero-first : (t : Time) → zeroᵗ ≤ᵗ t
zero-first t = record { le = omega arith }

pub ≈ᵗ_refl : (a : Time) → a ≈ᵗ a
≈ᵗ_refl a = record { eq = omega arith }

pub ≈ᵗ_sym : {a b : Time} → a ≈ᵗ b → b ≈ᵗ a
≈ᵗ_sym h = record { eq = omega arith }

pub ≈ᵗ→≤ᵗ : {a b : Time} → a ≈ᵗ b → a ≤ᵗ b
≈ᵗ→≤ᵗ h = record { le = omega arith }

-- neither is earlier
pub ≈ᵗ_of_not : {a b : Time} → ¬ (a <ᵗ b) → ¬ (b <ᵗ a) → a ≈ᵗ b
≈ᵗ_of_not {a} {b} h k = go (≤ᵗ_or_<ᵗ a b) (≤ᵗ_or_<ᵗ b a)
  where
    go : (a ≤ᵗ b) ⊎ (b <ᵗ a) → (b ≤ᵗ a) ⊎ (a <ᵗ b) → a ≈ᵗ b
    go (inl x) (inl y) = ≈ᵗ_of x y
    go (inl x) (inr y) = absurd (h y)
    go (inr x) y = absurd (k x)

pub ≈ᵗ_trans : {a b c : Time} → a ≈ᵗ b → b ≈ᵗ c → a ≈ᵗ c
≈ᵗ_trans h k = ≈ᵗ_of (≤ᵗ_trans (≈ᵗ→≤ᵗ h) (≈ᵗ→≤ᵗ k)) (≤ᵗ_trans (≈ᵗ→≤ᵗ (≈ᵗ_sym k)) (≈ᵗ→≤ᵗ (≈ᵗ_sym h)))

-- ---- times by the products of their parts

module _ (n d m e : ℕ) (p : 0 < d) (q : 0 < e) where
  pub fraction_lt : n * e < m * d → fraction n d <ᵗ fraction m e
  fraction_lt h = let x : suc (pred d) ≡ d = omega arith in let y : suc (pred e) ≡ e = omega arith in record { lt = rw (x, y) h }

  pub fraction_le : n * e ≤ m * d → fraction n d ≤ᵗ fraction m e
  fraction_le h = let x : suc (pred d) ≡ d = omega arith in let y : suc (pred e) ≡ e = omega arith in record { le = rw (x, y) h }

  pub fraction_eq : n * e ≡ m * d → fraction n d ≈ᵗ fraction m e
  fraction_eq h = let x : suc (pred d) ≡ d = omega arith in let y : suc (pred e) ≡ e = omega arith in record { eq = rw (x, y) h }

-- what the code's comparison says
module _ (a b : Fraction) (p : 0 < a.den) (q : 0 < b.den) where
  pub told_not_later : not_later a b ≡ true → as_time a ≤ᵗ as_time b
  told_not_later h = fraction_le a.num a.den b.num b.den p q (leb-true (a.num * b.den) (b.num * a.den) h)

  pub told-later : not_later a b ≡ false → as_time b <ᵗ as_time a
  told-later h = fraction_lt b.num b.den a.num a.den q p (leb-false (a.num * b.den) (b.num * a.den) h)

pub at_most : {a b : Time} → ¬ (b <ᵗ a) → a ≤ᵗ b
at_most {a} {b} f = go (≤ᵗ_or_<ᵗ a b)
  where
    go : (a ≤ᵗ b) ⊎ (b <ᵗ a) → a ≤ᵗ b
    go (inl h) = h
    go (inr h) = absurd (f h)

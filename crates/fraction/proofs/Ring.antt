-- Polynomial equations and orders over the integers, and what follows from others: `simp expand (simp atoms (omega ints))`; a linear goal leaves `expand` out.
-- `expand` multiplies out and sorts, so that each side is a sum of monomials, each a natural times a product of integers. `atoms` makes each monomial a difference
-- of two unknown naturals, and `omega ints` proves what is left. At most 32 distinct monomials. A hypothesis is not bound but stays in the goal, as in the second example below.
use mathlib.Core.Path.{◌≡◌, refl, ◌∙◌, ap}
use Prim.Native.Nat.{ℕ, suc, ◌+◌, ◌*◌}
use native.Mathlib.Nat as N
use lib.IntN.{ℤ, pos, negsuc, neg_ℤ, ◌+ℤ◌, ◌-ℤ◌, ◌*ℤ◌, *ℤ_comm, neg_ℤ-+ℤ, neg_ℤ-neg_ℤ}
use lib.Signed.{◌≤ℤ◌, ◌<ℤ◌}
use Rattle.fraction.proofs.Diff.{diff, plus, minus, split, ring, ints, add-diff, neg-diff, pos-diff, *ℤ_assoc, *ℤ_distrib}

-- a natural as an integer, and n times z, shut, so that they do not compute
pub nat : ℕ → ℤ
nat n = pos n

infixl 7 ◌·◌
pub ◌·◌ : ℕ → ℤ → ℤ
n · z = pos n *ℤ z

pub pos-nat : (n : ℕ) → pos n ≡ nat n
unfolding nat
pos-nat n = refl

pub neg-nat : (n : ℕ) → neg_ℤ (pos n) ≡ neg_ℤ (nat n)
unfolding nat
neg-nat n = refl

pub negsuc-nat : (n : ℕ) → negsuc n ≡ neg_ℤ (nat (suc n))
unfolding nat
negsuc-nat n = refl

pub nat-mul : (n : ℕ) (z : ℤ) → nat n *ℤ z ≡ n · z
unfolding nat ◌·◌
nat-mul n z = refl

pub mul-nat : (n : ℕ) (z : ℤ) → z *ℤ nat n ≡ n · z
unfolding nat ◌·◌
mul-nat n z = *ℤ_comm z (pos n)

pub times_nat : (m n : ℕ) → m · nat n ≡ nat (m * n)
unfolding nat ◌·◌
times_nat m n = refl

pub times_times : (m n : ℕ) (z : ℤ) → m · (n · z) ≡ (m * n) · z
unfolding ◌·◌
times_times m n z = rw (split z) (simp ring (omega ints))

pub times_mul : (n : ℕ) (y z : ℤ) → (n · y) *ℤ z ≡ n · (y *ℤ z)
unfolding ◌·◌
times_mul n y z = *ℤ_assoc (pos n) y z

pub mul_times : (n : ℕ) (y z : ℤ) → y *ℤ (n · z) ≡ n · (y *ℤ z)
unfolding ◌·◌
mul_times n y z = rw (split y, split z) (simp ring (omega ints))

pub times_add : (n : ℕ) (y z : ℤ) → n · (y +ℤ z) ≡ n · y +ℤ n · z
unfolding ◌·◌
times_add n y z = *ℤ_distrib (pos n) y z

pub distrib_r : (x y z : ℤ) → (x +ℤ y) *ℤ z ≡ x *ℤ z +ℤ y *ℤ z
distrib_r x y z = rw (split x, split y, split z) (simp ring (omega ints))

pub mul-neg : (x y : ℤ) → x *ℤ neg_ℤ y ≡ neg_ℤ (x *ℤ y)
mul-neg x y = rw (split x, split y) (simp ring (omega ints))

pub neg-mul : (x y : ℤ) → neg_ℤ x *ℤ y ≡ neg_ℤ (x *ℤ y)
neg-mul x y = rw (split x, split y) (simp ring (omega ints))

pub times_neg : (n : ℕ) (z : ℤ) → n · neg_ℤ z ≡ neg_ℤ (n · z)
unfolding ◌·◌
times_neg n z = mul-neg (pos n) z

pub mul_left_comm : (x y z : ℤ) → x *ℤ (y *ℤ z) ≡ y *ℤ (x *ℤ z)
mul_left_comm x y z = rw (split x, split y, split z) (simp ring (omega ints))

pub ruleset expand = (pos-nat, neg-nat, negsuc-nat, nat-mul, mul-nat, times_nat, times_times, times_mul, mul_times, times_add, times_neg, *ℤ_distrib, distrib_r, mul-neg, neg-mul, neg_ℤ-+ℤ, neg_ℤ-neg_ℤ, *ℤ_assoc, *ℤ_comm, mul_left_comm, N.mul_assoc, N.mul_comm, N.mul_left_comm)

-- a product as a difference of two unknowns
pub product_plus : ℤ → ℤ → ℕ
product_plus x y = plus (x *ℤ y)

pub product_minus : ℤ → ℤ → ℕ
product_minus x y = minus (x *ℤ y)

pub product : (x y : ℤ) → x *ℤ y ≡ diff (product_plus x y) (product_minus x y)
unfolding product_plus product_minus
product x y = split (x *ℤ y)

pub nat-diff : (n : ℕ) → nat n ≡ diff n 0
unfolding nat
nat-diff n = pos-diff n

pub times_diff : (n a b : ℕ) → n · diff a b ≡ diff (n * a) (n * b)
unfolding ◌·◌
times_diff n a b = simp ring (omega ints)

-- the same where a side is a variable
pub add_var_l : (x : ℤ) (c d : ℕ) → x +ℤ diff c d ≡ diff (plus x + c) (minus x + d)
add_var_l x c d = ap (λ (z : ℤ). z +ℤ diff c d) (split x) ∙ add-diff (plus x) (minus x) c d

pub add_var_r : (x : ℤ) (a b : ℕ) → diff a b +ℤ x ≡ diff (a + plus x) (b + minus x)
add_var_r x a b = ap (λ (z : ℤ). diff a b +ℤ z) (split x) ∙ add-diff a b (plus x) (minus x)

pub add_vars : (x y : ℤ) → x +ℤ y ≡ diff (plus x + plus y) (minus x + minus y)
add_vars x y = ap (λ (z : ℤ). z +ℤ y) (split x) ∙ add_var_r y (plus x) (minus x)

pub neg_var : (x : ℤ) → neg_ℤ x ≡ diff (minus x) (plus x)
neg_var x = ap neg_ℤ (split x) ∙ neg-diff (plus x) (minus x)

pub times_var : (n : ℕ) (x : ℤ) → n · x ≡ diff (n * plus x) (n * minus x)
times_var n x = ap (λ (z : ℤ). n · z) (split x) ∙ times_diff n (plus x) (minus x)

pub ruleset atoms = (add-diff, neg-diff, times_diff, product, nat-diff, add_var_l, add_var_r, add_vars, neg_var, times_var)

-- ---- two examples

sums_of_squares : (a b c d : ℤ) → (a *ℤ a +ℤ b *ℤ b) *ℤ (c *ℤ c +ℤ d *ℤ d) ≡ (a *ℤ c +ℤ b *ℤ d) *ℤ (a *ℤ c +ℤ b *ℤ d) +ℤ (a *ℤ d -ℤ b *ℤ c) *ℤ (a *ℤ d -ℤ b *ℤ c)
sums_of_squares a b c d = simp expand (simp atoms (omega ints))

from_two_orders : (a b c d e : ℤ) → (a *ℤ b) ≤ℤ (c *ℤ d) → (c *ℤ d) <ℤ (b *ℤ e) → (b *ℤ (a -ℤ e)) <ℤ pos 0
from_two_orders a b c d e = simp expand (simp atoms (omega ints))

-- The side by the sign of a number: `side_minus`, `side-zero`, `side_plus`.
use mathlib.Core.Path.{◌≡◌, refl}
use Prim.Native.Nat.{ℕ, zero, suc}
use native.Mathlib.Omega.{arith}
use lib.IntN.{ℤ, pos, negsuc}
use Rattle.fraction.specs.declared.Sign.TheVariants.{Minus, Plus, Zero}
use Rattle.fraction.specs.Sign.{sign_of}
use Rattle.rule.specs.declared.Side.TheVariants.{Left, Right, Along}
use Rattle.rule.specs.Side.{side_of}

pub side_minus : (z : ℤ) {n : ℕ} → Minus n ≡ sign_of z → Left ≡ side_of z
unfolding side_of
side_minus (pos zero) e = absurd (let z : ◌≡◌ {A = ℕ} 0 1 = cc in omega arith)
side_minus (pos (suc k)) e = absurd (let z : ◌≡◌ {A = ℕ} 0 1 = cc in omega arith)
side_minus (negsuc k) e = refl

pub side-zero : (z : ℤ) → Zero ≡ sign_of z → Along ≡ side_of z
unfolding side_of
side-zero (pos zero) e = refl
side-zero (pos (suc k)) e = absurd (let z : ◌≡◌ {A = ℕ} 0 1 = cc in omega arith)
side-zero (negsuc k) e = absurd (let z : ◌≡◌ {A = ℕ} 0 1 = cc in omega arith)

pub side_plus : (z : ℤ) {n : ℕ} → Plus n ≡ sign_of z → Right ≡ side_of z
unfolding side_of
side_plus (pos zero) e = absurd (let z : ◌≡◌ {A = ℕ} 0 1 = cc in omega arith)
side_plus (pos (suc k)) e = refl
side_plus (negsuc k) e = absurd (let z : ◌≡◌ {A = ℕ} 0 1 = cc in omega arith)

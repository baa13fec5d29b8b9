-- Fractions in lowest terms (SHEETS 5.3): no common factor, and zero as 0/1.
use Rattle.std.specs.Prelude.{◌≡◌, ℕ, zero, suc, ◌*◌, ◌/◌, ◌%◌, ◌<◌}
use Rattle.std.specs.Int.{◌∣◌}
use Rattle.fraction.specs.declared.Fraction.{Fraction}

-- no number but 1 divides both (SHEETS 5.3)
pub record Lowest (n d : ℕ) : Type 0 where
  pub only : (k : ℕ) → k ∣ n → k ∣ d → k ≡ 1

-- g divides both, and each number that divides both divides it
pub record Greatest (a b g : ℕ) : Type 0 where
  pub left : g ∣ a
  pub right : g ∣ b
  pub greatest : (k : ℕ) → k ∣ a → k ∣ b → k ∣ g

-- r is n / d, in lowest terms (SHEETS 5.3)
pub record Reduced (n d : ℕ) (r : Fraction) : Type 0 where
  pub same : n * r.den ≡ r.num * d
  pub den_pos : 0 < r.den
  pub lowest : Lowest r.num r.den

-- Euclid's algorithm. The second number falls with each turn, so that `suc b` turns reach 0
unfoldable pub euclid : ℕ → ℕ → ℕ → ℕ
euclid zero a b = a
euclid (suc turns) a zero = a
euclid (suc turns) a (suc b) = euclid turns (suc b) (a % suc b)

unfoldable pub gcd_of : ℕ → ℕ → ℕ
unfolding euclid
gcd_of a b = euclid (suc b) a b

-- n / d in lowest terms (SHEETS 5.3), where 0 < d
unfoldable pub lowest_of : ℕ → ℕ → Fraction
unfolding gcd_of euclid
lowest_of n d = record { num = n / gcd_of n d; den = d / gcd_of n d }

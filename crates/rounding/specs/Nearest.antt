-- The nearest whole number, at an exact half the even one (SHEETS 5.4). `one_nearest` in proofs/OneNearest.antt: every n / d that is not negative has exactly one.
use Rattle.std.specs.Prelude.{◌≡◌, ℕ, ◌+◌, ◌*◌}
use Rattle.fraction.specs.Whole.{Whole, nat, ◌≈◌, ◌⊑◌, ◌⊕◌, ◌·◌}

-- an even number (SHEETS 5.4)
pub record Even (q : ℕ) : Type 0 where
  pub half : ℕ
  pub is : q ≡ 2 * half

-- an exact half (SHEETS 5.4): n / d is a whole number and 1/2
pub record Halfway (n : Whole) (d : ℕ) : Type 0 where
  pub whole : ℕ
  pub is : n · 2 ≈ nat ((2 * whole + 1) * d)

-- q is the nearest to n / d (SHEETS 5.4): |n / d − q| ≤ 1/2, and q is even at an exact half
pub record Nearest (n : Whole) (d q : ℕ) : Type 0 where
  -- q − 1/2 ≤ n / d
  pub low : nat (2 * q * d) ⊑ n · 2 ⊕ nat d
  -- n / d ≤ q + 1/2
  pub high : n · 2 ⊑ nat ((2 * q + 1) * d)
  pub even : Halfway n d → Even q

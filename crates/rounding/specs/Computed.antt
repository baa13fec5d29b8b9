-- The nearest whole number, computed. Nobody need believe this file: `nearest_of_lem` in proofs/OneNearest.antt ties it to `Nearest`.
use Rattle.std.specs.Prelude.{cond, ℕ, ◌+◌, ◌*◌, ◌/◌, ◌%◌, ltb}

-- by the quotient q, and by twice the rest, r
unfoldable pub by_rest : ℕ → ℕ → ℕ → ℕ
by_rest q r d = cond (ltb r d) q (cond (ltb d r) (q + 1) (q + q % 2))

unfoldable pub nearest_of : ℕ → ℕ → ℕ
unfolding by_rest
nearest_of n d = by_rest (n / d) (2 * (n % d)) d

-- 2 ^ 62: twice as much, and one more, fits 64 bits
abbrev pub greatest : ℕ
greatest = 4611686018427387904

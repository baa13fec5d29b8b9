-- Whole 64ths as doubles (SHEETS 12.8): the number itself, and its bits.
use Rattle.std.specs.Prelude.{ℕ, zero, suc, ◌+◌, ◌*◌, ◌-◌, ◌^◌, false, List, Float}
use Rattle.std.specs.Float.{binary64}
use Rattle.std.specs.Float.Ieee.{round, size, to_bits}
use Rattle.byte_order.specs.Bytes.{le_bytes}

-- the double nearest to n / 64; `exactly` in proofs/Exactly.antt says that it is n / 64
unfoldable pub sixtyfourths : ℕ → Float
sixtyfourths n = round binary64 false n 64

-- The bit pattern of n / 64, by IEEE 754's layout of a double: a sign bit of 0, the exponent plus 1023 in 11 bits, and the 52 binary digits
-- behind the leading one. With k + 1 binary digits n is 2 ^ k and a rest below that, so n / 64 is 2 ^ (k − 6) × (1 + rest / 2 ^ k).
unfoldable pub double_bits : ℕ → ℕ
unfolding size
double_bits zero = 0
double_bits (suc n) = let k = size (suc n) - 1 in (1023 + k - 6) * 2 ^ 52 + (suc n - 2 ^ k) * 2 ^ (52 - k)

-- the bits of a double, low byte first (SHEETS 12.2)
unfoldable pub double_bytes : Float → List ℕ
unfolding to_bits
double_bytes x = le_bytes 8 (to_bits binary64 x)

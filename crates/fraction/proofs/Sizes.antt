-- How large times are: those of rows in powers of two (`small_below`, `small_product`). What can be compared: rows (`small_timely`), ages and what they are shifted to (`young_timely`, `later_timely`), lowest terms (`lowest_timely`).
use Prim.Native.Nat.{ℕ, ◌+◌, ◌*◌, ◌^◌, ◌≤◌, ◌<◌}
use native.Mathlib.Nat.{mul-le-mul}
use native.Mathlib.Omega.{arith}
use lib.Dec.{ltb→lt}
use mir.Syntax.{w64}
use mir.Val.{Fits, bits}
use Rattle.fraction.specs.declared.Fraction.{Fraction}
use Rattle.fraction.specs.Lowest.{lowest_of}
use Rattle.fraction.specs.Sizes.{greatest_part, greatest_age, greatest_num, Young, Small, Timely}
use Rattle.fraction.specs.Time.{later_by}
use Rattle.fraction.proofs.Bounds.{fits-nat}
use Rattle.fraction.proofs.LowestTerms.{lowest_of_num, lowest_of_den, lowest_of_reduced}

pub small_timely : {t : Fraction} → Small t → Timely t
small_timely h = record { num_in = omega (arith, h.num_in); den_in = omega (arith, h.den_in); den_pos = h.den_pos }

-- the times of rows in powers of two
pub small_below : {t : Fraction} → Small t → (t.num < 2 ^ 31) × (t.den < 2 ^ 19)
small_below h = (omega (arith, h.num_in), omega (arith, h.den_in))

pub small_product : {t u : Fraction} → Small t → Small u → t.num * u.den < 2 ^ 50
small_product h k = omega (arith, mul-le-mul h.num_in k.den_in)

pub young_timely : {t : Fraction} → Young t → Timely t
young_timely h = record { num_in = omega (arith, h.num_in); den_in = omega (arith, h.den_in); den_pos = h.den_pos }

-- a start time is at most 4095
pub later_in : (m d n : ℕ) → m ≤ greatest_age → d ≤ greatest_part → n ≤ 4095 → m + n * d ≤ greatest_num
later_in m d n h i k = omega (arith, mul-le-mul k i)

pub later_timely : {t : Fraction} (n : ℕ) → Young t → n ≤ 4095 → Timely (later_by n t)
later_timely {t} n h k = record { num_in = later_in t.num t.den n h.num_in h.den_in k; den_in = omega (arith, h.den_in); den_pos = h.den_pos }

pub scaled_fits : (d n : ℕ) → d ≤ greatest_part → n ≤ 4095 → Fits w64 (n * d)
scaled_fits d n h k = fits-nat w64 n d 4095 greatest_part k h tt

pub later-fits : (m d n : ℕ) → m ≤ greatest_age → d ≤ greatest_part → n ≤ 4095 → Fits w64 (m + n * d)
later-fits m d n h i k = record { fits = omega (arith, later_in m d n h i k, ltb→lt greatest_num (2 ^ bits w64) tt) }

pub lowest_timely : {n d : ℕ} → Timely (record { num = n; den = d }) → Timely (lowest_of n d)
lowest_timely {n} {d} h =
    record {
      num_in = omega (arith, lowest_of_num n d, h.num_in);
      den_in = omega (arith, lowest_of_den n d, h.den_in);
      den_pos = (lowest_of_reduced n d h.den_pos).den_pos;
    }

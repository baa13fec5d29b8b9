-- How large the parts of a fraction are, by what it is a time of. To widen a bound is to change its line here.
use Rattle.std.specs.Prelude.{ℕ, ◌+◌, ◌*◌, ◌≤◌, ◌<◌}
use Rattle.fraction.specs.declared.Fraction.{Fraction}

-- ---- ages, as a sheet's coordinates and speeds give them, and the ends of other tips

-- 2 × 4095 × 4095: a determinant of differences of coordinates
abbrev pub greatest_part : ℕ
greatest_part = 33538050

-- 4095 × greatest_row_den + 63 × greatest_row_num: a difference of coordinates times a row's denominator, and a speed times its numerator
abbrev pub greatest_age : ℕ
greatest_age = 137338314750

pub record Young (t : Fraction) : Type 0 where
  pub num_in : t.num ≤ greatest_age
  pub den_in : t.den ≤ greatest_part
  pub den_pos : 0 < t.den

-- ---- the times of rows (SHEETS 5.7): below 2 ^ 31 over below 2 ^ 19, so that two of them multiply to less than 2 ^ 50

-- 2 × 63 × 4095: a determinant of a speed and a difference of coordinates
abbrev pub greatest_row_den : ℕ
greatest_row_den = 515970

-- greatest_part, as lines, walls and the edge give it, and a start time of 4095 over the greatest denominator
abbrev pub greatest_row_num : ℕ
greatest_row_num = greatest_part + 4095 * greatest_row_den

pub record Small (t : Fraction) : Type 0 where
  pub num_in : t.num ≤ greatest_row_num
  pub den_in : t.den ≤ greatest_row_den
  pub den_pos : 0 < t.den

-- ---- every time that is compared

-- 2 ^ 38 and 2 ^ 25, less one each: twice a product of both, and one more, fits 64 bits
abbrev pub greatest_num : ℕ
greatest_num = 274877906943

abbrev pub greatest_den : ℕ
greatest_den = 33554431

pub record Timely (t : Fraction) : Type 0 where
  pub num_in : t.num ≤ greatest_num
  pub den_in : t.den ≤ greatest_den
  pub den_pos : 0 < t.den

-- A step past n rows of a roll, or past those left if fewer, where so many are shown `before`: in numbers (SHEETS 7.2, 7.4, 7.5).
use Rattle.std.specs.Prelude.{◌≡◌, ℕ, ◌+◌, ◌-◌, min}
use Rattle.cursor.specs.declared.NextRows.{NextRows}

pub record Passes (rows before n : ℕ) (r : NextRows) : Type 0 where
  pub from : r.from ≡ min before rows
  pub count : r.count ≡ min n (rows - before)
  pub shown : r.shown ≡ r.from + r.count
  pub running : r.running ≡ rows - r.shown

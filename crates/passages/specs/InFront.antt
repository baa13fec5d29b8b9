-- Rows in front of a buffer, whatever stands behind them. Nobody need believe this file: it is what `passages_of` asks of the rows that it reads back.
use Rattle.std.specs.Prelude.{◌≡◌, List, ◌++◌, ℕ}
use Rattle.rule.specs.declared.Row.{Row}
use Rattle.rule.specs.RowBytes.{roll_bytes}

pub record InFront (rows : List Row) (s : List ℕ) : Type 0 where
  pub rest : List ℕ
  pub is : s ≡ roll_bytes rows ++ rest

-- What a call of the grid run returns, and what the caller's buffer then holds (SHEETS 3.8 to 3.10, 6.9).
use Rattle.std.specs.Prelude.{◌≡◌, List, ℕ, length, Result, Ok, Err}
use Rattle.sheet.specs.Lent.{and_then, after}
use Rattle.sheet.specs.Listing.{Listing}
use Rattle.sheet.specs.Returned.{Returned, accepted, gives, refused, refusal}
use Rattle.rule.specs.RowBytes.{roll_bytes}
use Rattle.rule.specs.Selection.{roll_of}
use Rattle.cells.specs.Grid.{figure_check}
use Rattle.cells.specs.CellsEntered.{cells_entered}
use Rattle.plain_run.specs.Rolled.{roll_returns}
use Rattle.sheet.specs.declared.Refusal.{Refusal}
use Rattle.grid_run.specs.declared.GridRoll.{GridRoll}

-- what is given (SHEETS 6.9): the number of rows or a refusal, as by the plain run, and beside it the count of cells, 0 where there are no rows
pub record Reported : Type 0 where
  pub returned : Returned
  pub cells : ℕ

abbrev pub grid_rolled : Result GridRoll Refusal → Reported
grid_rolled (Ok roll) = record { returned = gives roll.rows; cells = roll.cells }
grid_rolled (Err r) = record { returned = refusal r; cells = 0 }

-- 13 after the sheet, and then as the plain run (SHEETS 3.8, 6.9)
abbrev pub grid_returns : Returned → Listing → ℕ → ℕ → Returned
grid_returns v S g lent = roll_returns (and_then v (figure_check g)) S lent

-- a count goes with rows only (SHEETS 6.9)
unfoldable pub with_rows : Returned → ℕ → ℕ
with_rows accepted cells = 0
with_rows (gives n) cells = cells
with_rows (refused n p) cells = 0

-- the whole answer: the cells are those entered on the sheet (SHEETS 6.6), each trace to its exact end (SHEETS 6.3)
abbrev pub grid_reports : Returned → Listing → ℕ → ℕ → Reported
grid_reports v S g lent = let r = grid_returns v S g lent in record { returned = r; cells = with_rows r (cells_entered S g) }

-- the answer and the buffer's contents at exit (SHEETS 6.9), for a sheet with a verdict and its records
pub record GridRolls (v : Returned) (S : Listing) (g : ℕ) (before exit : List ℕ) (r : Result GridRoll Refusal) : Type 0 where
  pub answer : grid_rolled r ≡ grid_reports v S g (length before)
  -- SHEETS 3.10
  pub buffer : exit ≡ after (grid_returns v S g (length before)) (roll_bytes (roll_of S)) before

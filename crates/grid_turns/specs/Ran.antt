-- What the grid run leaves: the roll's rows in the buffer, and the number of cells entered.
use Rattle.std.specs.Prelude.{◌≡◌, List, ℕ}
use Rattle.sheet.specs.Listing.{Listing}
use Rattle.rule.specs.Selection.{roll_of}
use Rattle.row.specs.Written.{Written}
use Rattle.cells.specs.CellsEntered.{cells_entered}

-- the rows written, and the cells entered (SHEETS 6.6, 6.9)
pub record Ran (S : Listing) (g : ℕ) (before exit : List ℕ) (cells : ℕ) : Type 0 where
  pub written : Written (roll_of S) before exit
  pub counted : cells ≡ cells_entered S g

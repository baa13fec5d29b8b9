-- The number of cells entered on a sheet (SHEETS 6.6), by the test of each cell of the grid.
-- Nobody need believe this file: `is_counted` and `the_count` in proofs/CellsEntered.antt show that the number is the one that `Counted` tells of.
use Rattle.std.specs.Prelude.{List, [], ◌∷◌, ◌++◌, ℕ, zero, suc, ◌+◌, length}
use Rattle.fraction.specs.Time.{Time}
use Rattle.sheet.specs.declared.Track.{Track}
use Rattle.sheet.specs.Listing.{Listing}
use Rattle.rule.specs.Rows.{time_of}
use Rattle.rule.specs.Selection.{roll_of}
use Rattle.cells.specs.declared.Cell.{Cell}
use Rattle.cells.specs.Grid.{side}
use Rattle.cells.specs.OneCell.{has_point}
use Rattle.cells.specs.Passing.{passing}

-- ---- the cells of the grid

-- of column c, the first r rows
unfoldable pub column_cells : ℕ → ℕ → List Cell
column_cells c zero = []
column_cells c (suc r) = record { column = c; row = r } ∷ column_cells c r

-- of the first c columns, r rows each
unfoldable pub grid_cells : ℕ → ℕ → List Cell
grid_cells zero r = []
grid_cells (suc c) r = column_cells c r ++ grid_cells c r

-- ---- those with a point of a trace

-- of the trace of a up to T
unfoldable pub touched : Track → Time → ℕ → List Cell
touched a T g = passing (has_point a T (side g)) (grid_cells g g)

-- ---- their number, summed over traces; T gives the time at which the tip of each id ends

unfoldable pub touched_by : (ℕ → Time) → ℕ → List Track → ℕ
touched_by T g [] = 0
touched_by T g (a ∷ l) = length (touched a (T a.id) g) + touched_by T g l

-- on a sheet, each trace to the exact end of its tip
unfoldable pub cells_entered : Listing → ℕ → ℕ
cells_entered S g = touched_by (time_of (roll_of S)) g S.tracks

-- The walk of a tip from cell to cell. Nobody need believe this file: proofs/Walk.antt ties it to the cells with a point of the trace.
use Rattle.std.specs.Prelude.{Bool, true, false, ℕ, suc, pred, ◌/◌, ℤ, pos, negsuc}
use Rattle.sheet.specs.declared.Track.{Track}
use Rattle.cells.specs.declared.Cell.{Cell}
use Rattle.cells.specs.Cut.{before}
use Rattle.cells.specs.OneCell.{leave}

-- the cell of its start
unfoldable pub first : Track → ℕ → Cell
first a s = record { column = a.x / s; row = a.y / s }

-- the next column
unfoldable pub step : ℤ → ℕ → ℕ
step (pos w) c = suc c
step (negsuc w) c = pred c

-- ---- the next cell: over the border that is reached first, or over both

unfoldable pub turn : Track → Cell → Bool → Bool → Cell
turn a k true b = record { column = step a.vx k.column; row = k.row }
turn a k false true = record { column = k.column; row = step a.vy k.row }
turn a k false false = record { column = step a.vx k.column; row = step a.vy k.row }

unfoldable pub next : Track → ℕ → Cell → Cell
next a s k = let lx = leave a.x a.vx s k.column in let ly = leave a.y a.vy s k.row in turn a k (before lx ly) (before ly lx)

-- The runs of one sheet, and the rows that they leave in their buffers: Mapping, Partners and Archive speak of these (SHEETS 10.1, 5.8).
use Rattle.std.specs.Prelude.{◌≡◌, List, ℕ, ◌*◌, ◌≤◌, ◌<◌, length, Result, Some}
use Rattle.sheet.specs.declared.Command.{Command}
use Rattle.sheet.specs.Listing.{Listing, tracks_of}
use Rattle.sheet.specs.Returned.{Returned, gives}
use Rattle.rule.specs.declared.Row.{Row}
use Rattle.cells.specs.Grid.{Figure}
use Rattle.sheet.specs.declared.Refusal.{Refusal}
use Rattle.sheet.specs.Answer.{answered}
use Rattle.rule.specs.RowBytes.{row_width}
use Rattle.plain_run.specs.Rolled.{Rolls}
use Rattle.grid_run.specs.declared.GridRoll.{GridRoll}
use Rattle.grid_run.specs.GridRolled.{grid_rolled, GridRolls}
use Rattle.grid_run.specs.Demand.{Given}
use Rattle.row.specs.Stored.{row_in}

-- a call on the sheet of commands l, given in any order and as bytes or records: of either run, at any of the six figures.
-- The caller's buffer before and after it, and what it returned
pub data Run (l : List Command) (before exit : List ℕ) : Returned → Type 0 where
  plain : {v : Returned} {S : Listing} (r : Result ℕ Refusal) → Given l v S → Rolls v S before exit r → Run l before exit (answered r)
  grid : {v : Returned} {S : Listing} {g : ℕ} (r : Result GridRoll Refusal) → Given l v S → Figure g → GridRolls v S g before exit r → Run l before exit (grid_rolled r).returned

-- a row for each track
abbrev pub row_count : List Command → ℕ
row_count l = length (tracks_of l)

-- a lent buffer has room for them
abbrev pub Room : List Command → List ℕ → Type 0
Room l before = row_width * row_count l ≤ length before

-- row_at finds r at one of the first n places of these bytes
pub record Reads (bytes : List ℕ) (n : ℕ) (r : Row) : Type 0 where
  pub place : ℕ
  pub below : place < n
  pub found : row_in bytes place ≡ Some r

-- r is a row that a run of the sheet wrote
pub record InRoll (l : List Command) (r : Row) : Type 0 where
  pub before : List ℕ
  pub exit : List ℕ
  pub count : ℕ
  pub ran : Run l before exit (gives count)
  pub reads : Reads exit count r

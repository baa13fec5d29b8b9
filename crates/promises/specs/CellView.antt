-- What the desk's cell view relies on. It lists one cell again and again, from whatever order the sheet comes in, and the list does not jump (SHEETS 6.10, 6.11).
-- Proved of every accepted sheet as `cell-view` in proofs/CellView.antt.
use Rattle.std.specs.Prelude.{◌≡◌, List, ◌++◌, ℕ, ◌*◌, ◌≤◌, ◌<◌, length, drop, Result}
use Rattle.sheet.specs.declared.Refusal.{Refusal}
use Rattle.sheet.specs.declared.Command.{Command}
use Rattle.sheet.specs.Accepted.{Pairwise}
use Rattle.sheet.specs.Answer.{answered}
use Rattle.sheet.specs.Listing.{Listing, listing, tracks_of}
use Rattle.sheet.specs.Returned.{Returned, gives}
use Rattle.rule.specs.declared.Row.{Row}
use Rattle.rule.specs.Roll.{RollOf}
use Rattle.rule.specs.Rows.{time_of}
use Rattle.cells.specs.declared.Cell.{Cell}
use Rattle.cells.specs.Grid.{Figure, side}
use Rattle.cell_listing.specs.CellIds.{CellIds, Precedes}
use Rattle.cell_listing.specs.Listed.{id_width, id_bytes, cell, Lists}
use Rattle.grid_run.specs.Demand.{Given}

-- a call of the cell listing on the sheet of commands l, given in any order and as bytes or records: the caller's buffer before and after it, and what it returned
pub data Call (l : List Command) (g column row : ℕ) (before exit : List ℕ) : Returned → Type 0 where
  call : {v : Returned} {S : Listing} (r : Result ℕ Refusal) → Given l v S → Lists v S g column row before exit r → Call l g column row before exit (answered r)

-- what the view shows of a cell: the ids of the tracks with a point there, each once, as their traces enter it; no other list is that
pub record CellList (l : List Command) (roll : List Row) (g : ℕ) (k : Cell) (ids : List ℕ) : Type 0 where
  pub are : CellIds (time_of roll) (tracks_of l) (side g) k ids
  pub sorted : Pairwise (Precedes (time_of roll) (tracks_of l) (side g) k) ids
  pub no_other : (other : List ℕ) → CellIds (time_of roll) (tracks_of l) (side g) k other → Pairwise (Precedes (time_of roll) (tracks_of l) (side g) k) other → other ≡ ids

-- with room for them a call gives their number, writes their bytes, and nothing behind them
pub record Shown (ids : List ℕ) (before exit : List ℕ) (x : Returned) : Type 0 where
  pub number : x ≡ gives (length ids)
  pub bytes : exit ≡ id_bytes ids ++ drop (id_width * length ids) before

pub record CellView (l : List Command) : Type 0 where
  -- each trace goes to the end that the one roll has
  pub roll : List Row
  pub is_roll : RollOf (listing l) roll
  -- the list of each cell at each figure
  pub ids : ℕ → Cell → List ℕ
  pub view : (g : ℕ) (k : Cell) → CellList l roll g k (ids g k)
  -- a call shows it, in whatever order the sheet is given
  pub shown :
      {g column row : ℕ} {before exit : List ℕ} {x : Returned} → Call l g column row before exit x → Figure g → column < g → row < g
      → id_width * length (ids g (cell column row)) ≤ length before → Shown (ids g (cell column row)) before exit x
  -- and two calls with the same arguments, refused or not, answer the same and leave the same bytes
  pub same :
      {g column row : ℕ} {before exit exit' : List ℕ} {x x' : Returned} → Call l g column row before exit x → Call l g column row before exit' x'
      → (x ≡ x') × (exit ≡ exit')

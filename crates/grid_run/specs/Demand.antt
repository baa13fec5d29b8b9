-- One sheet, one roll (SHEETS 10.1, 10.2): one claim about a sheet in every order of its commands, by both runs and at the six figures. Proved as `demand` in proofs/Demand.antt.
use Rattle.std.specs.Prelude.{◌≡◌, ◌↔◌, List, ◌++◌, ℕ, ◌*◌, ◌-◌, ◌≤◌, ◌<◌, length, take, drop, Result, Ok, Err}
use Rattle.sheet.specs.declared.Command.{Command}
use Rattle.sheet.specs.declared.Sheet.{Sheet}
use Rattle.sheet.specs.declared.Track.{Track}
use Rattle.sheet.specs.Format.{AllFit, encode_all}
use Rattle.sheet.specs.HandedIn.{handed_in, check_of}
use Rattle.sheet.specs.Listing.{Listing, listing, tracks_of, Reordered, ◌∈◌}
use Rattle.sheet.specs.Returned.{Returned, accepted, gives, refused}
use Rattle.sheet.specs.Scan.{verdict_of, commands_of}
use Rattle.rule.specs.declared.Row.{Row}
use Rattle.rule.specs.Roll.{RollOf}
use Rattle.rule.specs.RowBytes.{roll_bytes, row_width}
use Rattle.rule.specs.Rows.{time_of, MeetsRows}
use Rattle.cells.specs.declared.Cell.{Cell}
use Rattle.cells.specs.Grid.{Figure, side}
use Rattle.cells.specs.Touched.{CellsOf, Counted}
use Rattle.cells.specs.CellsEntered.{cells_entered}
use Rattle.sheet.specs.declared.Refusal.{Refusal}
use Rattle.sheet.specs.Answer.{answered}
use Rattle.plain_run.specs.Rolled.{Rolls}
use Rattle.grid_run.specs.declared.GridRoll.{GridRoll}
use Rattle.grid_run.specs.GridRolled.{grid_rolled, GridRolls}

-- The sheet of commands l as a caller may give it (SHEETS 2.5, 10.1): in bytes, that list its records in any order, a start time of 0 by 01 or by 03;
-- or as records in any order, which stand for the sheet that lists them (SHEETS 2.8).
-- With the verdict and the records that the contracts speak of: those of plain_roll and grid_roll over bytes, and over records.
pub data Given (l : List Command) : Returned → Listing → Type 0 where
  in_bytes : (k : List Command) → AllFit k → Reordered (listing l) (listing k) → Given l (verdict_of (encode_all k)) (listing (commands_of (encode_all k)))
  in_records : (s : Sheet) → Reordered (listing l) (handed_in s) → Given l (check_of s) (handed_in s)

-- 12 alone can refuse a run (SHEETS 10.1), and then nothing is written; else the roll's bytes are written, and nothing behind them (SHEETS 3.10)
pub data Outcome (roll : List Row) (before exit : List ℕ) : Returned → Type 0 where
  too_short : length before < row_width * length roll → exit ≡ before → Outcome roll before exit (refused 12 (row_width * length roll))
  written : row_width * length roll ≤ length before → exit ≡ roll_bytes roll ++ drop (row_width * length roll) before → Outcome roll before exit (gives (length roll))

-- the count beside the rows (SHEETS 6.9)
abbrev pub Reports : ℕ → Result GridRoll Refusal → Type 0
Reports n (Ok roll) = roll.cells ≡ n
Reports n (Err r) = Unit {0}

-- of an accepted sheet (SHEETS 10.1, 10.2)
pub record Demand3 (l : List Command) : Type 0 where
  -- its one roll (SHEETS 4.12, 5.5)
  pub roll : List Row
  pub is_roll : RollOf (listing l) roll
  pub no_other_roll : (q : List Row) → RollOf (listing l) q → q ≡ roll
  -- its one set of endings (SHEETS 4.12): whatever meets the rule has these rows and no other
  pub no_other_set : (q : List Row) → MeetsRows (listing l) q → (r : Row) → (r ∈ q) ↔ (r ∈ roll)
  pub one_each : length roll ≡ length (tracks_of l)
  -- the cells entered (SHEETS 6.6): there is one such number for each figure, and only this depends on the figure (SHEETS 10.2)
  pub counted : (g : ℕ) → Figure g → Counted (time_of roll) g (tracks_of l) (cells_entered (listing l) g)
  pub no_other_count : (g n : ℕ) → Figure g → Counted (time_of roll) g (tracks_of l) n → n ≡ cells_entered (listing l) g
  -- no trace has a point in more than 2g − 1 cells; so the sum is at most that for each track
  pub few : (g : ℕ) → Figure g → (a : Track) → a ∈ tracks_of l → (k : List Cell) → CellsOf a (time_of roll a.id) (side g) k → length k ≤ 2 * g - 1
  pub few_in_all : (g : ℕ) → Figure g → cells_entered (listing l) g ≤ length (tracks_of l) * (2 * g - 1)
  -- each order of the commands (SHEETS 10.1) is accepted, and the rule says the same of it
  pub all_accepted : (v : Returned) (S : Listing) → Given l v S → v ≡ accepted
  pub one_rule : (v : Returned) (S : Listing) → Given l v S → (q : List Row) → MeetsRows (listing l) q ↔ MeetsRows S q
  -- what the contract of plain_roll then comes to
  pub by_plain : (v : Returned) (S : Listing) → Given l v S → (before exit : List ℕ) (r : Result ℕ Refusal) → Rolls v S before exit r → Outcome roll before exit (answered r)
  -- and that of grid_roll, at each of the six figures
  pub by_grid : (v : Returned) (S : Listing) (g : ℕ) → Given l v S → Figure g → (before exit : List ℕ) (r : Result GridRoll Refusal) → GridRolls v S g before exit r → Outcome roll before exit (grid_rolled r).returned × Reports (cells_entered (listing l) g) r
  -- one and the same roll is written (SHEETS 10.1): any order by the plain run, any order and any figure by the grid run
  pub equal : (v w : Returned) (S T : Listing) (g : ℕ) → Given l v S → Given l w T → Figure g → (plain plain' grid grid' : List ℕ) (p : Result ℕ Refusal) (r : Result GridRoll Refusal) →
      Rolls v S plain plain' p → GridRolls w T g grid grid' r → row_width * length roll ≤ length plain → row_width * length roll ≤ length grid → take (row_width * length roll) plain' ≡ take (row_width * length roll) grid'

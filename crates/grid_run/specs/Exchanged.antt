-- What two listings give, the first by the plain run and the second by the grid run (SHEETS 10.1).
use Rattle.std.specs.Prelude.{◌≡◌, ◌↔◌, List, ℕ, ◌≤◌, length, take}
use Rattle.sheet.specs.Format.{encode_all}
use Rattle.sheet.specs.Listing.{listing, Reordered}
use Rattle.sheet.specs.Returned.{accepted}
use Rattle.sheet.specs.Scan.{verdict_of, commands_of}
use Rattle.cells.specs.Grid.{Figure}
use Rattle.plain_run.specs.Rolled.{Rolls, needed}
use Rattle.grid_run.specs.declared.Exchanged.{Exchanged}
use Rattle.grid_run.specs.GridRolled.{GridRolls}

-- the second lists the records of the first, in any order, a start time of 0 by 01 or by 03 (SHEETS 10.1); each is its commands and then 00
pub record SameRecords (first second : List ℕ) : Type 0 where
  pub first_whole : first ≡ encode_all (commands_of first)
  pub second_whole : second ≡ encode_all (commands_of second)
  pub records : Reordered (listing (commands_of first)) (listing (commands_of second))

-- the listings, the figure, and the two buffers at entry (SHEETS 10.1)
pub record AtEntry : Type 0 where
  pub first : List ℕ
  pub second : List ℕ
  pub figure : ℕ
  pub plain : List ℕ
  pub grid : List ℕ

-- both accepted or neither (SHEETS 3.7); one and the same roll is written where both buffers are long enough (SHEETS 10.1)
pub record Agree (e : AtEntry) (plain grid : List ℕ) : Type 0 where
  pub alike : (verdict_of e.first ≡ accepted) ↔ (verdict_of e.second ≡ accepted)
  pub equal : let S = listing (commands_of e.first) in
      verdict_of e.first ≡ accepted → Figure e.figure → needed S ≤ length e.plain → needed S ≤ length e.grid → take (needed S) plain ≡ take (needed S) grid

-- what each run answers and writes, and that they agree (SHEETS 10.1)
pub record Exchanges (e : AtEntry) (plain grid : List ℕ) (r : Exchanged) : Type 0 where
  pub by_plain : Rolls (verdict_of e.first) (listing (commands_of e.first)) e.plain plain r.plain
  pub by_grid : GridRolls (verdict_of e.second) (listing (commands_of e.second)) e.figure e.grid grid r.grid
  pub agree : SameRecords e.first e.second → Agree e plain grid

-- Where a tip has been: `cell_near`, `been_in`; and `later-past`, what it came to by u it came to by v.
use mathlib.Core.List.{List}
use Prim.Native.Nat.{ℕ}
use native.Mathlib.Numerals.{add-one}
use Rattle.fraction.specs.Time.{Time, ◌≤ᵗ◌}
use Rattle.sheet.specs.declared.Track.{Track}
use Rattle.sheet.specs.declared.Wall.{Wall}
use Rattle.sheet.specs.Listing.{◌∈◌}
use Rattle.rule.specs.Motion.{OnWall}
use Rattle.cause.specs.Looked.{Near}
use Rattle.cause.proofs.Near.{near_on}
use Rattle.cells.specs.declared.Cell.{Cell}
use Rattle.cells.specs.Cut.{Cut, past, ◌≤ᶜ◌, ◌<ᶜ◌}
use Rattle.cells.specs.Grid.{InCell}
use Rattle.cells.specs.OneCell.{exit}
use Rattle.cells.proofs.Cut.{not-past, after_mono}
use Rattle.cells.specs.Entered.{Entered}
use Rattle.cells.proofs.Entry.{cell-entry, cell-exit, past-before, before-past}
use Rattle.grid_steps.specs.Steps.{region_of}

pub later-past : {c : Cut} {u v : Time} → u ≤ᵗ v → c <ᶜ past u → c <ᶜ past v
later-past h i = past-before (after_mono h (before-past i))

-- a wall that a tip is on in a cell is near the cell
pub cell_near : {a : Track} {side : ℕ} {k : Cell} {t : Time} {w : Wall} → InCell a side k t → OnWall a t w → Near (region_of side k) w
cell_near {a} {side} {k} {t} {w} i o = let j = i.in_cell in near_on (region_of side k) o.on j.in_column.low (rw add-one j.in_column.high) j.in_row.low (rw add-one j.in_row.high)

-- a cell in which a tip is before it leaves the one where it stands has been entered
pub been_in : {a : Track} {L : Time} {side : ℕ} {k m : Cell} {l : List Cell} {t v : Time} → Entered a L side k l → past t ≤ᶜ exit a side k → v ≤ᵗ t → InCell a side m v → m ∈ l
been_in {a} {L} {side} {k} {m} {l} {t} {v} e h le i =
    e.all m (record { at = v; above = cell-entry i; below = cell-exit i }) (record { at = v; above = cell-entry i; below = λ x. not-past le (h.to v x) })

-- What is known of one tip in a run by events: the cell in which it is, and those that it has entered. Nobody need believe this file: `entered_last` in proofs/Entered.antt says what it is good for.
use Rattle.std.specs.Prelude.{ℕ, suc, ◌*◌, ◌≤◌, ◌<◌, List, ℤ, pos, negsuc}
use Rattle.fraction.specs.Time.{Time}
use Rattle.sheet.specs.declared.Track.{Track}
use Rattle.sheet.specs.Listing.{◌∈◌}
use Rattle.cells.specs.declared.Cell.{Cell}
use Rattle.cells.specs.Touched.{Distinct}
use Rattle.cells.specs.Cut.{◌≤ᶜ◌, ◌<ᶜ◌, past}
use Rattle.cells.specs.OneCell.{entry, exit}

-- column c is the first or ahead of it
pub data Ahead (x s c : ℕ) : ℤ → Type 0 where
  still : c * s ≤ x → x < suc c * s → Ahead x s c (pos 0)
  rising : (w : ℕ) → x < suc c * s → Ahead x s c (pos (suc w))
  falling : (w : ℕ) → c * s ≤ x → Ahead x s c (negsuc w)

pub record Good (a : Track) (T : Time) (s : ℕ) (k : Cell) : Type 0 where
  pub ahead_x : Ahead a.x s k.column a.vx
  pub ahead_y : Ahead a.y s k.row a.vy
  pub fresh : entry a s k <ᶜ exit a s k
  pub soon : entry a s k <ᶜ past T

-- the tip is in k, and l has the cells entered so far. L is the last moment inside the sheet, or any time that the tip will not outlast
pub record Entered (a : Track) (L : Time) (s : ℕ) (k : Cell) (l : List Cell) : Type 0 where
  pub good : Good a L s k
  pub once : Distinct l
  pub passed : (m : Cell) → m ∈ l → entry a s m <ᶜ exit a s m
  pub by_now : (m : Cell) → m ∈ l → entry a s m ≤ᶜ entry a s k
  pub all : (m : Cell) → entry a s m <ᶜ exit a s m → entry a s m <ᶜ exit a s k → m ∈ l

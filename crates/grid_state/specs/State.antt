-- What the grid run knows between two events (SHEETS 6.8). `es` has for each tip the cells that it has entered, the newest first; `done` the rows so far, the newest first; b tips have begun.
use Rattle.std.specs.Prelude.{Bool, false, ◌≡◌, ◌≢◌, List, [], ◌∷◌, ℕ, ◌+◌, ◌*◌, ◌≤◌, ◌<◌, length, get_or}
use Rattle.std.proofs.Math.Option.{none, some}
use Rattle.cell_members.specs.Members.{CELLS}
use Rattle.fraction.specs.Time.{Time}
use Rattle.sheet.specs.declared.Track.{Track}
use Rattle.sheet.specs.declared.Wall.{Wall}
use Rattle.sheet.specs.Listing.{Listing, ◌∈◌}
use Rattle.rule.specs.declared.Row.{Row}
use Rattle.rule.specs.Causes as rule
use Rattle.rule.specs.Causes.{by_bar, by_rim, Below}
use Rattle.rule.specs.Contact.{when, hit, contact_to}
use Rattle.rule.specs.EdgeTime.{rim}
use Rattle.rule.specs.WallTime.{wall_time}
use Rattle.rule.specs.Meanwhile.{Beats}
use Rattle.cause.specs.declared.Cause.{Cause}
use Rattle.cause.specs.Cause.{rank, tip_at, wall_at, cand_of, Fine, Stands}
use Rattle.cause.specs.Looked.{Near}
use Rattle.cells.specs.declared.Cell.{Cell}
use Rattle.cells.specs.Touched.{CellsOf}
use Rattle.cells.specs.Cut.{past, ◌<ᶜ◌}
use Rattle.cells.specs.Entered.{Entered}
use Rattle.cells.specs.OneCell.{entry}
use Rattle.event_queue.specs.Queue.{Slots, slot}
use Rattle.tips.specs.declared.Tip.{Tip}
use Rattle.tips.specs.Tips.{tip_in}
use Rattle.look.specs.Ends.{end_of, Ends}
use Rattle.pair_marks.specs.Marks.{Marked, Square}
use Rattle.grid_steps.specs.Steps.{region_of, InGrid, entry_in}

-- ---- cells

abbrev pub code_of : Cell → ℕ
code_of k = 32 * k.column + k.row

abbrev pub cells_at : List (List Cell) → ℕ → List Cell
cells_at es j = get_or es j []

unfoldable pub total : List (List Cell) → ℕ
total [] = 0
total (l ∷ es) = length l + total es

-- ---- tips

-- the tip at j has begun and has not ended
abbrev pub Runs : ℕ → List Tip → ℕ → Type 0
Runs b ts j = (j < b) × ((tip_in ts j).ended ≡ false)

-- ---- what has been looked at

pub record Tried (side : ℕ) (l : List Cell) (w : Wall) : Type 0 where
  pub cell : Cell
  pub entered : cell ∈ l
  pub near : Near (region_of side cell) w

pub record Walls (S : Listing) (side : ℕ) (l : List Cell) (a : Track) (c : Cause) : Type 0 where
  pub stands : Stands S a c
  pub at_rim : Below (cand_of S c) (rim a) by_rim
  pub at_walls : (w : ℕ) → w < length S.walls → Tried side l (wall_at S w) → (u : Time) → wall_time a (wall_at S w) ≡ when u → Below (cand_of S c) u (by_bar (wall_at S w))

pub record Best (S : Listing) (done : List Row) (side : ℕ) (l : List Cell) (marks : List (List Bool)) (j : ℕ) (c : Cause) : Type 0 where
  pub walls : Walls S side l (tip_at S j) c
  pub at_tips : (k : ℕ) → k < length S.tracks → Marked marks j k → (tip_at S k).id ≢ (tip_at S j).id → Beats done (cand_of S c) (tip_at S j) (tip_at S k)

pub record Base (S : Listing) (side : ℕ) (l : List Cell) (a : Track) (c : Cause) : Type 0 where
  pub walls : Walls S side l a c
  pub no_track : 0 < rank c.class

pub record Looked (S : Listing) (done : List Row) (side : ℕ) (es : List (List Cell)) (b : ℕ) (ts : List Tip) (marks : List (List Bool)) : Type 0 where
  pub long : length ts ≡ 256
  pub ends : Ends S ts done
  pub fine : (j : ℕ) → j < b → Fine (tip_in ts j).best
  pub best : (j : ℕ) → Runs b ts j → Best S done side (cells_at es j) marks j (tip_in ts j).best
  pub base : (j : ℕ) → Runs b ts j → Base S side (cells_at es j) (tip_at S j) (tip_in ts j).base
  pub gone : (j : ℕ) → j < b → ((tip_in ts j).ended ≡ false → ⊥) → CellsOf (tip_at S j) (end_of (tip_in ts j)) side (cells_at es j)

-- two that have entered one cell have marks beside each other
pub record Marks (es : List (List Cell)) (b : ℕ) (marks : List (List Bool)) : Type 0 where
  pub square : Square marks
  pub both : (i j : ℕ) → i < 256 → j < 256 → Marked marks i j → Marked marks j i
  pub begun : (i j : ℕ) → i < 256 → j < 256 → Marked marks i j → (i < b) × (j < b)
  pub share : (i j : ℕ) (k : Cell) → i < b → j < b → i ≢ j → k ∈ cells_at es i → k ∈ cells_at es j → Marked marks i j

-- ---- where the tips are; the tip at x is on its way to a cell, 256 for none

pub record Ahead (S : Listing) (done : List Row) (side : ℕ) (a : Track) (k : Cell) : Type 0 where
  pub of_tips : (m : ℕ) → m < length S.tracks → (tip_at S m).id ≢ a.id → (u v : Time) → contact_to a (tip_at S m) (rule.end_of done (tip_at S m).id) ≡ hit u v → entry a side k <ᶜ past u
  pub of_walls : (w : ℕ) → w < length S.walls → (u : Time) → wall_time a (wall_at S w) ≡ when u → entry a side k <ᶜ past u

pub record Placed (S : Listing) (done : List Row) (side : ℕ) (es : List (List Cell)) (b x : ℕ) (ts : List Tip) : Type 0 where
  pub in_grid : (j : ℕ) → j < b → j ≢ x → InGrid side (tip_in ts j).cell
  pub at : (j : ℕ) → Runs b ts j → j ≢ x → Entered (tip_at S j) (rim (tip_at S j)) side (tip_in ts j).cell (cells_at es j)
  pub ahead : (j : ℕ) → Runs b ts j → j ≢ x → Ahead S done side (tip_at S j) (tip_in ts j).cell

-- the tips of each cell, and how many cells have been entered
pub record Listed (es : List (List Cell)) (b : ℕ) (members : List (List ℕ)) (count : ℕ) : Type 0 where
  pub long : length members ≡ CELLS
  pub inside : (j : ℕ) (k : Cell) → j < b → k ∈ cells_at es j → code_of k < CELLS
  pub member : (j : ℕ) (k : Cell) → j < b → k ∈ cells_at es j → j ∈ get_or members (code_of k) []
  pub only : (c j : ℕ) → c < CELLS → j ∈ get_or members c [] → j < b
  pub few : (j : ℕ) → length (cells_at es j) ≤ 63
  pub counted : count ≡ total es

-- the queue has the event of each tip that runs, but for the tip at x
pub record Queued (S : Listing) (side b x : ℕ) (ts : List Tip) (s : Slots) : Type 0 where
  pub long : length s ≡ 256
  pub due : (j : ℕ) → Runs b ts j → j ≢ x → slot s j ≡ some (entry_in S side ts j)
  pub idle : (j : ℕ) → (Runs b ts j → j ≡ x) → slot s j ≡ none

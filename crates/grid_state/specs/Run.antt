-- The state of the grid run: between two events (`StateOf` with x = 256), while the tip at i is on its way into cell k (`WayOf`), while tips begin (`Starting`), with k rows out (`Going`).
use Rattle.std.specs.Prelude.{false, ◌≡◌, List, [], ◌∷◌, ℕ, ◌≤◌, ◌<◌, length, take}
use Rattle.sheet.specs.Accepted.{Accepted}
use Rattle.sheet.specs.Listing.{Listing, ◌∈◌}
use Rattle.rule.specs.declared.Row.{Row}
use Rattle.rule.specs.EdgeTime.{rim}
use Rattle.rule.specs.Selection.{roll_of}
use Rattle.rule.specs.Meanwhile.{Progress}
use Rattle.cause.specs.Cause.{tip_at}
use Rattle.cells.specs.declared.Cell.{Cell}
use Rattle.cells.specs.Grid.{Figure, side}
use Rattle.cells.specs.Entered.{Entered}
use Rattle.tips.specs.Tips.{tip_in}
use Rattle.grid_steps.specs.Steps.{InGrid}
use Rattle.grid_state.specs.Sweep.{Sweep}
use Rattle.grid_state.specs.State.{cells_at, Runs, Looked, Marks, Ahead, Placed, Listed, Queued}

-- b tips have begun, the tip at x has no pending event; `done` are the rows so far, `es` the cells that each tip has entered
pub record StateOf (S : Listing) (side b x : ℕ) (done : List Row) (es : List (List Cell)) (w : Sweep) : Type 0 where
  pub accepted : Accepted S
  pub es_long : length es ≡ length S.tracks
  pub begun_in : b ≤ length S.tracks
  pub side_in : side ≤ 4096
  pub looked : Looked S done side es b w.crowd.tips w.crowd.marks
  pub marked : Marks es b w.crowd.marks
  pub placed : Placed S done side es b x w.crowd.tips
  pub listed : Listed es b w.members w.entered
  pub queued : Queued S side b x w.crowd.tips w.crowd.pending

-- ---- a tip on its way

pub record WayOf (S : Listing) (side b i : ℕ) (k : Cell) (done : List Row) (es : List (List Cell)) (w : Sweep) : Type 0 where
  pub state : StateOf S side b i done es w
  pub runs : Runs b w.crowd.tips i
  pub in_grid : InGrid side k
  pub short : length (cells_at es i) < 63
  pub entered : Entered (tip_at S i) (rim (tip_at S i)) side k (k ∷ cells_at es i)
  pub ahead : Ahead S done side (tip_at S i) k

-- of some tips, rows and cells
pub record Way (S : Listing) (side i : ℕ) (k : Cell) (w : Sweep) : Type 0 where
  pub begun : ℕ
  pub done : List Row
  pub es : List (List Cell)
  pub way : WayOf S side begun i k done es w

-- ---- the run

-- the first i tips have begun, each in the cell of its start; none has ended
pub record Starting (S : Listing) (g i : ℕ) (w : Sweep) : Type 0 where
  pub es : List (List Cell)
  pub figure : Figure g
  pub state : StateOf S (side g) i 256 [] es w
  pub none_ended : (j : ℕ) → (tip_in w.crowd.tips j).ended ≡ false
  pub none_in : (j : ℕ) → i ≤ j → cells_at es j ≡ []

-- the rows so far are the first k of the roll
pub record Rows (S : Listing) (done : List Row) (k : ℕ) : Type 0 where
  pub out : length (take k (roll_of S)) ≡ k
  pub progress : Progress S (take k (roll_of S)) done
  pub known : (d : Row) → d ∈ done → d ∈ take k (roll_of S)

-- k rows are out, all tips have begun
pub record Going (S : Listing) (g k : ℕ) (w : Sweep) : Type 0 where
  pub done : List Row
  pub es : List (List Cell)
  pub figure : Figure g
  pub state : StateOf S (side g) (length S.tracks) 256 done es w
  pub rows : Rows S done k

-- What the mapping section relies on. It draws the end points, each trace ends on the wall or the trace that its row names, and comes to it
-- from the side that the row gives (SHEETS 4.5, 4.10, 4.14, 5.4). Proved of every accepted sheet as `mapping` in proofs/Mapping.antt.
use Rattle.std.specs.Prelude.{◌≡◌, ◌≢◌, List, ℕ, ◌≤◌}
use Rattle.fraction.specs.Time.{Time, ◌≤ᵗ◌, ◌<ᵗ◌, ◌≈ᵗ◌}
use Rattle.fraction.specs.Whole.{◌·◌}
use Rattle.rounding.specs.Nearest.{Nearest}
use Rattle.sheet.specs.declared.Command.{Command}
use Rattle.sheet.specs.declared.Track.{Track}
use Rattle.sheet.specs.declared.Wall.{Wall}
use Rattle.sheet.specs.Listing.{◌∈◌, tracks_of, walls_of}
use Rattle.sheet.specs.Returned.{Returned, gives}
use Rattle.rule.specs.declared.Row.{Row}
use Rattle.rule.specs.declared.Ending.{Ending}
use Rattle.rule.specs.declared.Ending.TheVariants.{ByTrack, Meeting, ByWall, Edge}
use Rattle.rule.specs.declared.Side.{Side}
use Rattle.rule.specs.declared.Side.TheVariants.{NoSide}
use Rattle.rule.specs.Motion.{X, Y, opening, Same, OnWall, LastInside}
use Rattle.rule.specs.Side.{track_side, wall_side}
use Rattle.rule.specs.Beside.{Line, track_line, wall_line, offset, On}
use Rattle.rule.specs.Rows.{time, far_border}
use Rattle.promises.specs.Runs.{Run, row_count, Room, Reads, InRoll}

-- the time in tip b's own row is as P says
abbrev pub OwnTime : List Command → Track → (Time → Type 0) → Type 0
OwnTime l b P = (q : Row) → InRoll l q → q.id ≡ b.id → P (time q)

-- from its opening until t tip a is on the side d of a line (SHEETS 4.14)
abbrev pub Until : Track → Time → Line → Side → Type 0
Until a t line d = (u : Time) → opening a ≤ᵗ u → u <ᵗ t → On d (offset line a u)

-- the exact point of tip a at time t is on what the ending names, and the tip comes there from the side that the row gives (SHEETS 4.10, 4.14)
pub data Lands (l : List Command) (a : Track) (t : Time) : Ending → Side → Type 0 where
  -- kind 1: on that trace, where its tip had been before, at its own end at the latest
  on_trace :
      (b : Track) (s : Time) → b ∈ tracks_of l → b.id ≢ a.id → Same a t b s → s <ᵗ t → OwnTime l b (λ e. s ≤ᵗ e)
      → Until a t (track_line b) (track_side a b) → Lands l a t (ByTrack b.id) (track_side a b)
  -- kind 2: where that tip is too, and its own row has the same time
  together :
      (b : Track) → b ∈ tracks_of l → b.id ≢ a.id → Same a t b t → OwnTime l b (λ e. e ≈ᵗ t)
      → Until a t (track_line b) (track_side a b) → Lands l a t (Meeting b.id) (track_side a b)
  -- kind 3: on that wall, between its ends or at one of them
  on_wall : (w : Wall) → w ∈ walls_of l → OnWall a t w → Until a t (wall_line w) (wall_side a w) → Lands l a t (ByWall w.id) (wall_side a w)
  -- kind 4: at the last moment inside the sheet
  at_edge : LastInside a t → Lands l a t Edge NoSide

-- a row's own tip, at the row's time, is there; the row's point is that point in 64ths, to the nearest, at an exact half to the even, and on the sheet still (SHEETS 5.4)
pub record EndPoint (l : List Command) (r : Row) : Type 0 where
  pub tip : Track
  pub on_sheet : tip ∈ tracks_of l
  pub own : r.id ≡ tip.id
  pub lands : Lands l tip (time r) r.ending r.side
  pub x_rounded : Nearest (X tip (time r) · 64) r.at.den r.x
  pub y_rounded : Nearest (Y tip (time r) · 64) r.at.den r.y
  pub inside : (r.x ≤ far_border) × (r.y ≤ far_border)

pub record Mapping (l : List Command) : Type 0 where
  -- with room for them a run writes as many rows as there are tracks
  pub as_many : {before exit : List ℕ} {x : Returned} → Run l before exit x → Room l before → x ≡ gives (row_count l)
  -- one of them for each track
  pub each_track :
      {before exit : List ℕ} {x : Returned} → Run l before exit x → Room l before → (a : Track) → a ∈ tracks_of l
      → (r : Row) × Reads exit (row_count l) r × (r.id ≡ a.id)
  -- and each row that a run wrote ends its track where it says
  pub each_row : (r : Row) → InRoll l r → EndPoint l r

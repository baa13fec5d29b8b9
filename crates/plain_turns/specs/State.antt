-- What the tips of the plain run stand for between two turns.
use Rattle.std.specs.Prelude.{Bool, ◌≡◌, ◌≢◌, List, [], ℕ, ◌<◌, length, take, false}
use Rattle.fraction.specs.Time.{Time}
use Rattle.sheet.specs.declared.Track.{Track}
use Rattle.sheet.specs.Listing.{Listing}
use Rattle.rule.specs.declared.Row.{Row}
use Rattle.rule.specs.Causes.{by_bar, by_rim, Below}
use Rattle.rule.specs.Contact.{when}
use Rattle.rule.specs.EdgeTime.{rim}
use Rattle.rule.specs.Selection.{roll_of}
use Rattle.rule.specs.WallTime.{wall_time}
use Rattle.rule.specs.Meanwhile.{Beats, Live, Progress}
use Rattle.cause.specs.declared.Cause.{Cause}
use Rattle.cause.specs.Cause.{rank, tip_at, wall_at, cand_of, Fine, Stands}
use Rattle.tips.specs.declared.Tip.{Tip}
use Rattle.tips.specs.Tips.{tip_in}
use Rattle.look.specs.Ends.{Ends}
use Rattle.look.specs.Tracks.{Flagged}

-- every tip has a flag: all are looked at
pub record AllKnown (known : List Bool) : Type 0 where
  pub long : length known ≡ 256
  pub all : (j : ℕ) → j < 256 → Flagged known j

-- ---- the edge and the walls

-- c comes before the edge and all walls
pub record Foremost (S : Listing) (a : Track) (c : Cause) : Type 0 where
  pub stands : Stands S a c
  pub at_rim : Below (cand_of S c) (rim a) by_rim
  pub at_walls : (j : ℕ) → j < length S.walls → (u : Time) → wall_time a (wall_at S j) ≡ when u → Below (cand_of S c) u (by_bar (wall_at S j))

-- and is one of them
pub record Based (S : Listing) (a : Track) (c : Cause) : Type 0 where
  pub foremost : Foremost S a c
  pub no_track : 0 < rank c.class

-- ---- the tips, whatever has ended

-- each has a time and a base cause, those that run a cause, and those that have ended the time of a row
pub record Held (S : Listing) (ts : List Tip) : Type 0 where
  pub long : length ts ≡ 256
  pub fine : (k : ℕ) → k < length S.tracks → Fine (tip_in ts k).best
  pub stands : (k : ℕ) → k < length S.tracks → (tip_in ts k).ended ≡ false → Stands S (tip_at S k) (tip_in ts k).best
  pub based : (k : ℕ) → k < length S.tracks → Based S (tip_at S k) (tip_in ts k).base
  pub some : List Row
  pub ends : Ends S ts some

-- ---- the tips and the rows so far

-- the cause of the tip at k comes before all that it meets
pub record Seen (S : Listing) (done : List Row) (k : ℕ) (c : Cause) : Type 0 where
  pub foremost : Foremost S (tip_at S k) c
  pub at_tips : (j : ℕ) → j < length S.tracks → (tip_at S j).id ≢ (tip_at S k).id → Beats done (cand_of S c) (tip_at S k) (tip_at S j)

pub record Kept (S : Listing) (ts : List Tip) (done : List Row) : Type 0 where
  pub ends : Ends S ts done
  pub seen : (k : ℕ) → k < length S.tracks → (tip_in ts k).ended ≡ false → Seen S done k (tip_in ts k).best

-- the causes of the first n that run count
abbrev pub LiveBelow : Listing → List Tip → List Row → ℕ → Type 0
LiveBelow S ts done n = (k : ℕ) → k < n → (tip_in ts k).ended ≡ false → Live done (cand_of S (tip_in ts k).best).u (cand_of S (tip_in ts k).best).why

-- of the first n tips, those that run have a cause that counts
pub record Refreshed (S : Listing) (ts ts' : List Tip) (n : ℕ) : Type 0 where
  pub held : Held S ts'
  pub kept : (done : List Row) → Kept S ts done → Kept S ts' done
  pub live : (done : List Row) → Kept S ts done → LiveBelow S ts' done n

-- of the first n tips all has been looked at, and none has ended
pub record Begun (S : Listing) (ts : List Tip) (n : ℕ) : Type 0 where
  pub long : length ts ≡ 256
  pub none : (k : ℕ) → (tip_in ts k).ended ≡ false
  pub based : (k : ℕ) → k < n → Based S (tip_at S k) (tip_in ts k).base
  pub seen : (k : ℕ) → k < n → Seen S [] k (tip_in ts k).best

-- k rows are out
pub record State (S : Listing) (k : ℕ) (ts : List Tip) : Type 0 where
  pub held : Held S ts
  pub out : length (take k (roll_of S)) ≡ k
  pub done : List Row
  pub progress : Progress S (take k (roll_of S)) done
  pub kept : Kept S ts done

-- The first of some causes: of walls, of tracks. `done` are the rows of the tips that have ended.
use Rattle.std.specs.Prelude.{◌≡◌, ◌⊎◌, ◌≢◌, List, ℕ, ◌≤◌, ◌<◌, length}
use Rattle.fraction.specs.declared.Fraction.{Fraction}
use Rattle.fraction.specs.Time.{Time, as_time}
use Rattle.sheet.specs.declared.Track.{Track}
use Rattle.sheet.specs.declared.Wall.{Wall}
use Rattle.sheet.specs.Listing.{Listing, ◌∈◌}
use Rattle.rule.specs.declared.Row.{Row}
use Rattle.rule.specs.Causes.{by_bar, Below, ◌≼◌, end_of}
use Rattle.rule.specs.Contact.{when}
use Rattle.rule.specs.WallTime.{wall_time}
use Rattle.rule.specs.Meanwhile.{Beats, Live}
use Rattle.cause.specs.declared.Cause.{Cause}
use Rattle.cause.specs.declared.Region.{Region}
use Rattle.cause.specs.Offer.{Closed}
use Rattle.cause.specs.Cause.{rank, tip_at, wall_at, cand_of, Stands}

-- ---- walls

-- a wall's box comes to the part of the sheet between two borders, and so in both directions
abbrev pub Reaches : ℕ → ℕ → ℕ → ℕ → Type 0
Reaches a b low high = ((a < high) ⊎ (b < high)) × ((low ≤ a) ⊎ (low ≤ b))

pub record Near (p : Region) (w : Wall) : Type 0 where
  pub across : Reaches w.ax w.bx p.left p.right
  pub along : Reaches w.ay w.by p.low p.high

-- r is the first of c and the walls near p
pub record FirstOfWalls (S : Listing) (a : Track) (p : Region) (c r : Cause) : Type 0 where
  pub stands : Stands S a r
  pub first : cand_of S r ≼ cand_of S c
  pub no_track : 0 < rank c.class → 0 < rank r.class
  pub at_walls : (j : ℕ) → j < length S.walls → Near p (wall_at S j) → (u : Time) → wall_time a (wall_at S j) ≡ when u → Below (cand_of S r) u (by_bar (wall_at S j))

-- ---- tracks

-- tip b has ended at t
pub record Gone (done : List Row) (b : Track) (t : Fraction) : Type 0 where
  pub row : Row
  pub written : row ∈ done
  pub named : row.id ≡ b.id
  pub ends : end_of done b.id ≡ when (as_time t)
  pub closed : Closed b t

-- r is the first of c and the tracks that K names, and counts if c does
pub record FirstOfTracks (S : Listing) (done : List Row) (a : Track) (K : ℕ → Type 0) (c r : Cause) : Type 0 where
  pub stands : Stands S a r
  pub first : cand_of S r ≼ cand_of S c
  pub live : Live done (cand_of S c).u (cand_of S c).why → Live done (cand_of S r).u (cand_of S r).why
  pub at_tips : (j : ℕ) → j < length S.tracks → K j → (tip_at S j).id ≢ a.id → Beats done (cand_of S r) a (tip_at S j)

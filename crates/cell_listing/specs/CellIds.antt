-- The ids that the cell listing writes, in their order (SHEETS 6.10): which they are, how they stand, and the one list that is both (`the_ids` and `no_other_ids` in proofs/TheIds.antt).
use Rattle.std.specs.Prelude.{◌≡◌, Bool, ◌&&◌, ◌||◌, List, map, ℕ, ◌*◌, ◌<◌, eqb, ltb}
use Rattle.fraction.specs.Time.{Time, ◌<ᵗ◌, ◌≈ᵗ◌}
use Rattle.sheet.specs.declared.Track.{Track}
use Rattle.sheet.specs.Accepted.{Pairwise}
use Rattle.sheet.specs.Listing.{Listing, ◌∈◌}
use Rattle.sheet.specs.Ordered.{sort}
use Rattle.rule.specs.Rows.{time_of}
use Rattle.rule.specs.Selection.{roll_of}
use Rattle.cells.specs.declared.Cell.{Cell}
use Rattle.cells.specs.EnteredAt.{EnteredAt}
use Rattle.cells.specs.Grid.{side}
use Rattle.cells.specs.OneCell.{entry_time, has_point}
use Rattle.cells.specs.Passing.{passing}
use Rattle.cells.specs.Touched.{HasPoint}

-- ---- which, and how they stand: T gives the time at which the tip of each id ends, s is the cell's side

-- the ids of the tracks with a point in cell k, each once (SHEETS 6.10)
pub record CellIds (T : ℕ → Time) (tracks : List Track) (s : ℕ) (k : Cell) (ids : List ℕ) : Type 0 where
  pub once : Pairwise (λ i j. ¬ (i ≡ j)) ids
  pub each : (i : ℕ) → i ∈ ids → (a : Track) × (a ∈ tracks) × (a.id ≡ i) × HasPoint a (T a.id) s k
  pub all : (a : Track) → a ∈ tracks → HasPoint a (T a.id) s k → a.id ∈ ids

-- the trace of a enters the cell before that of b (SHEETS 6.4), or at the same time and a has the smaller id (SHEETS 6.10)
pub data EntersBefore (T : ℕ → Time) (s : ℕ) (k : Cell) (a b : Track) : Type 0 where
  sooner : {τ σ : Time} → EnteredAt a (T a.id) s k τ → EnteredAt b (T b.id) s k σ → τ <ᵗ σ → EntersBefore T s k a b
  together : {τ σ : Time} → EnteredAt a (T a.id) s k τ → EnteredAt b (T b.id) s k σ → τ ≈ᵗ σ → a.id < b.id → EntersBefore T s k a b

-- two ids are those of tracks that enter in this order (SHEETS 6.10)
pub record Precedes (T : ℕ → Time) (tracks : List Track) (s : ℕ) (k : Cell) (i j : ℕ) : Type 0 where
  pub first : Track
  pub second : Track
  pub first_on : first ∈ tracks
  pub second_on : second ∈ tracks
  pub first_id : first.id ≡ i
  pub second_id : second.id ≡ j
  pub enters : EntersBefore T s k first second

-- ---- the list

-- a is listed before b, as a test: it enters earlier, or at the same time and has the smaller id (SHEETS 6.10)
unfoldable pub ahead : ℕ → Cell → Track → Track → Bool
ahead s k a b =
    let t = entry_time a s k in
    let u = entry_time b s k in
    ltb (t.num * u.den) (u.num * t.den) || (eqb (t.num * u.den) (u.num * t.den) && ltb a.id b.id)

-- of some tracks those with a point in the cell, as they are listed (SHEETS 6.10)
unfoldable pub cell_tracks : (ℕ → Time) → ℕ → Cell → List Track → List Track
cell_tracks T s k tracks = sort (ahead s k) (passing (λ (a : Track). has_point a (T a.id) s k) tracks)

-- of a sheet and a grid, each trace to the exact end of its tip (SHEETS 6.3, 6.10)
unfoldable pub cell_ids : Listing → ℕ → Cell → List ℕ
cell_ids S g k = map (λ (a : Track). a.id) (cell_tracks (time_of (roll_of S)) (side g) k S.tracks)

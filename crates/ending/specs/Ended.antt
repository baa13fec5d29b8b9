-- How a cause ends a tip (SHEETS 4.10), and the next row of the roll.
use Rattle.std.specs.Prelude.{◌≡◌, ℕ, get_or}
use Rattle.fraction.specs.Time.{◌≤ᵗ◌, ◌<ᵗ◌, as_time}
use Rattle.sheet.specs.declared.Track.{Track}
use Rattle.sheet.specs.Accepted.{TrackOk}
use Rattle.sheet.specs.Listing.{Listing}
use Rattle.rule.specs.declared.Row.{Row}
use Rattle.rule.specs.declared.Ending.{Ending}
use Rattle.rule.specs.declared.Ending.TheVariants.{ByTrack, Meeting, ByWall, Edge}
use Rattle.rule.specs.declared.Side.TheVariants.{NoSide}
use Rattle.rule.specs.Motion.{Inside}
use Rattle.rule.specs.Selection.{roll_of}
use Rattle.cause.specs.declared.Cause.{Cause}
use Rattle.cause.specs.Cause.{rank, Fine}

-- the kind of ending (SHEETS 4.10)
pub data EndingOf (c : Cause) (r : Ending) : Type 0 where
  meets : rank c.class ≡ 0 → as_time c.at ≤ᵗ as_time c.there → r ≡ Meeting c.id → EndingOf c r
  crosses : rank c.class ≡ 0 → as_time c.there <ᵗ as_time c.at → r ≡ ByTrack c.id → EndingOf c r
  strikes : rank c.class ≡ 1 → r ≡ ByWall c.id → EndingOf c r
  leaves : (rank c.class ≡ 0 → ⊥) → (rank c.class ≡ 1 → ⊥) → r ≡ Edge → EndingOf c r

-- a can end by c: it is on the sheet then
pub record Endable (a : Track) (c : Cause) : Type 0 where
  pub ok : TrackOk a
  pub fine : Fine c
  pub inside : Inside a (as_time c.at)

-- the row at place k of the roll
abbrev pub next_row : Listing → ℕ → Row
next_row S k = get_or (roll_of S) k (record { id = 0; at = record { num = 0; den = 0 }; x = 0; y = 0; ending = Edge; side = NoSide })

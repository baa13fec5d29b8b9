-- One more cause beside the first so far: the edge, a wall, a track.
use Rattle.std.specs.Prelude.{◌≡◌, Bool, true, false, ℕ, Option, Some, None}
use Rattle.fraction.specs.declared.Fraction.{Fraction}
use Rattle.fraction.specs.Time.{◌≤ᵗ◌, as_time}
use Rattle.sheet.specs.declared.Track.{Track}
use Rattle.sheet.specs.declared.Wall.{Wall}
use Rattle.rule.specs.Motion.{opening}
use Rattle.rule.specs.Contact.{Quot, never, when, contact_to}
use Rattle.rule.specs.WallTime.{wall_time}
use Rattle.rule.specs.EdgeTime.{rim}
use Rattle.rule.specs.declared.Side.{Side}
use Rattle.rule.specs.declared.Side.TheVariants.{NoSide}
use Rattle.rule.specs.Side.{track_side, wall_side}
use Rattle.fraction.specs.Sizes.{Small, Timely}
use Rattle.contact.specs.Answers.{touch_of, TouchTimely, HitFrom}
use Rattle.contact.specs.declared.Touch.{Touch}
use Rattle.cause.specs.declared.Cause.{Cause}
use Rattle.cause.specs.declared.Class.TheVariants as class
use Rattle.cause.specs.Cause.{Least}

-- what walls and the edge have in place of a time
abbrev pub unused : Fraction
unused = record { num = 0; den = 1 }

abbrev pub edge_cause : Fraction → Cause
edge_cause u = record { at = u; class = class.Edge; id = 0; who = 0; there = unused; side = NoSide }

-- the edge
pub record AtEdge (a : Track) (r : Cause) : Type 0 where
  pub u : Fraction
  pub timely : Timely u
  pub is : r ≡ edge_cause u
  pub last : as_time u ≡ rim a

abbrev pub wall_cause : Wall → ℕ → Fraction → Side → Cause
wall_cause w k u side = record { at = u; class = class.Wall; id = w.id; who = k; there = unused; side = side }

-- r is the first of c and the wall w
pub data WallOffered (a : Track) (w : Wall) (k : ℕ) (c r : Cause) : Type 0 where
  passed : wall_time a w ≡ never → r ≡ c → WallOffered a w k c r
  struck : (u : Fraction) → wall_time a w ≡ when (as_time u) → Timely u → Least c (wall_cause w k u (wall_side a w)) r → WallOffered a w k c r

abbrev pub tip_cause : Track → ℕ → Fraction → Fraction → Side → Cause
tip_cause b k u s side = record { at = u; class = class.Track; id = b.id; who = k; there = s; side = side }

-- the time of a tip that has ended: that of a row, no sooner than it opened
pub record Closed (b : Track) (t : Fraction) : Type 0 where
  pub small : Small t
  pub opened : opening b ≤ᵗ as_time t

-- the end of a tip that has ended at `end`, where `ended` says that it has
unfoldable pub end_if : Bool → Fraction → Quot
end_if false end = never
end_if true end = when (as_time end)

-- t is where tip a comes to the trace of tip b, as far as that has come (SHEETS 4.5), and from which side
pub data Reached (a b : Track) (ended : Bool) (end : Fraction) (t : Option Touch) : Type 0 where
  itself : b.id ≡ a.id → t ≡ None → Reached a b ended end t
  comes : (b.id ≡ a.id → ⊥) → touch_of t ≡ contact_to a b (end_if ended end) → TouchTimely t → HitFrom (track_side a b) t → Reached a b ended end t

-- r is the first of c and the track b, which the tip comes to by t
abbrev pub Taken : Track → ℕ → Option Touch → Cause → Cause → Type 0
Taken b k None c r = r ≡ c
Taken b k (Some t) c r = Least c (tip_cause b k t.at t.there t.side) r

-- r is the first of c and the track b
pub record TipOffered (a b : Track) (k : ℕ) (ended : Bool) (end : Fraction) (c r : Cause) : Type 0 where
  pub touch : Option Touch
  pub reached : Reached a b ended end touch
  pub taken : Taken b k touch c r

-- What a cause that the code holds stands for in the rule, and which of two comes first.
use Rattle.std.specs.Prelude.{Bool, true, false, ◌≡◌, ◌⊎◌, ℕ, ◌≤◌, ◌<◌, length, get_or}
use Rattle.fraction.specs.Time.{Time, ◌<ᵗ◌, ◌≈ᵗ◌, as_time}
use Rattle.sheet.specs.declared.Track.{Track}
use Rattle.sheet.specs.declared.Wall.{Wall}
use Rattle.sheet.specs.Listing.{Listing}
use Rattle.sheet.specs.HandedIn.{no_track, no_wall}
use Rattle.rule.specs.Causes.{Why, by_tip, by_bar, by_rim, Cand, cls, who, side_to}
use Rattle.rule.specs.Meanwhile.{Formal}
use Rattle.fraction.specs.Sizes.{Timely}
use Rattle.cause.specs.declared.Cause.{Cause}
use Rattle.cause.specs.declared.Class.{Class}
use Rattle.cause.specs.declared.Class.TheVariants as class

-- the order of causes at one time: tracks, walls, the edge
abbrev pub rank : Class → ℕ
rank class.Track = 0
rank class.Wall = 1
rank class.Edge = 2

-- the track and the wall at a place of the sheet
abbrev pub tip_at : Listing → ℕ → Track
tip_at S i = get_or S.tracks i no_track

abbrev pub wall_at : Listing → ℕ → Wall
wall_at S i = get_or S.walls i no_wall

unfoldable pub why_of : Listing → Class → ℕ → Time → Why
why_of S class.Track k s = by_tip (tip_at S k) s
why_of S class.Wall k s = by_bar (wall_at S k)
why_of S class.Edge k s = by_rim

abbrev pub cand_of : Listing → Cause → Cand
cand_of S c = record { u = as_time c.at; why = why_of S c.class c.who (as_time c.there) }

-- its times can be compared
pub record Fine (c : Cause) : Type 0 where
  pub at : Timely c.at
  pub there : Timely c.there

-- c is a contact, a wall or the edge of tip a, with its class, its partner's id and its side
pub record Stands (S : Listing) (a : Track) (c : Cause) : Type 0 where
  pub fine : Fine c
  pub formal : Formal S a (cand_of S c).u (cand_of S c).why
  pub ranked : cls (cand_of S c).why ≡ rank c.class
  pub named : who (cand_of S c).why ≡ c.id
  pub known : rank c.class ≡ 0 → c.who < length S.tracks
  pub sided : c.side ≡ side_to a (cand_of S c).why

-- by time, then tracks, walls and the edge in this order, then by id (SHEETS 4.6, 4.9)
pub data Comes (a b : Cause) : Type 0 where
  in_time : as_time a.at <ᵗ as_time b.at → Comes a b
  in_class : as_time a.at ≈ᵗ as_time b.at → rank a.class < rank b.class → Comes a b
  in_id : as_time a.at ≈ᵗ as_time b.at → rank a.class ≡ rank b.class → a.id ≤ b.id → Comes a b

-- r tells which of a and b comes first
pub record Tells (a b : Cause) (r : Bool) : Type 0 where
  pub first : r ≡ true → Comes a b
  pub second : r ≡ false → Comes b a

-- r is the one of a and b that comes first
abbrev pub Least : Cause → Cause → Cause → Type 0
Least a b r = ((r ≡ a) × Comes a b) ⊎ ((r ≡ b) × Comes b a)

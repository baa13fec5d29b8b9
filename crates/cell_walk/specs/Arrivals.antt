-- When a trace enters one named cell, as the code tells it. That the time is the one of SHEETS 6.4 is `entry-time` of crate `cells`.
use Rattle.std.specs.Prelude.{◌≡◌, cond, ℕ, Option, Some, None, IfSome}
use Rattle.fraction.specs.declared.Fraction.{Fraction}
use Rattle.fraction.specs.Sizes.{Timely}
use Rattle.fraction.specs.Time.{Time}
use Rattle.sheet.specs.declared.Track.{Track}
use Rattle.cells.specs.declared.Cell.{Cell}
use Rattle.cells.specs.OneCell.{entry, has_point}

-- the numbers of the entry's cut
abbrev pub entry_fraction : Track → ℕ → Cell → Fraction
entry_fraction a s k = record { num = (entry a s k).num; den = (entry a s k).den }

-- when the trace of a up to T enters k, if it has a point there (SHEETS 6.3, 6.4)
unfoldable pub arrival_of : Track → Time → ℕ → Cell → Option Fraction
arrival_of a T s k = cond (has_point a T s k) (Some (entry_fraction a s k)) None

-- a time that is told can be compared
abbrev pub Comparable : Option Fraction → Type 0
Comparable r = IfSome r Timely

-- what the code tells, and that it can be compared
pub record Arrives (a : Track) (T : Time) (s : ℕ) (k : Cell) (r : Option Fraction) : Type 0 where
  pub is : r ≡ arrival_of a T s k
  pub comparable : Comparable r

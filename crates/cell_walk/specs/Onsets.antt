-- The cuts of crate `cells` as the code holds them: a fraction and a bit. What they say of cells is in that crate; `onset_of` ties them.
use Rattle.std.specs.Prelude.{◌≡◌, Bool, cond, ℕ, pred, ◌+◌, ◌*◌, ◌≤◌, ◌<◌, ltb, ℤ, pos, negsuc}
use Rattle.fraction.specs.declared.Fraction.{Fraction}
use Rattle.fraction.specs.Sizes.{greatest_part, greatest_num, greatest_den}
use Rattle.fraction.specs.Time.{later_by}
use Rattle.sheet.specs.declared.Track.{Track}
use Rattle.cells.specs.declared.Cell.{Cell}
use Rattle.cells.specs.Cut.{Cut}
use Rattle.cells.specs.OneCell.{exit}
use Rattle.cells.specs.Walk.{step, next}
use Rattle.cell_walk.specs.declared.Onset.{Onset}
use Rattle.cell_walk.specs.declared.Heading.{Heading}
use Rattle.cell_walk.specs.declared.Heading.TheVariants.{Up, Down}
use Rattle.cell_walk.specs.declared.Crossing.{Crossing}

abbrev pub onset : Fraction → ℕ → Onset
onset t o = record { at = t; late = o }

abbrev pub onset_of : Cut → Onset
onset_of k = onset (record { num = k.num; den = k.den }) k.late

-- small enough to be compared. The denominator may be 0: such an onset is never
pub record Ready (k : Onset) : Type 0 where
  pub num_in : k.at.num ≤ greatest_num
  pub den_in : k.at.den ≤ greatest_den
  pub late_in : k.late ≤ 1

-- small enough to be shifted: an onset by the ages of a tip
pub record Early (k : Onset) : Type 0 where
  pub num_in : k.at.num ≤ greatest_part
  pub den_in : k.at.den ≤ greatest_part
  pub late_in : k.late ≤ 1

pub record Gives (k r : Onset) : Type 0 where
  pub is : r ≡ k
  pub ready : Ready r

pub record GivesEarly (k r : Onset) : Type 0 where
  pub is : r ≡ k
  pub early : Early r

-- as one by the sheet's times, where the tip opens at n (SHEETS 4.1)
abbrev pub opened_of : ℕ → Onset → Onset
opened_of n k = onset (later_by n k.at) k.late

-- the order of onsets, the later and the sooner of two
unfoldable pub prior_of : Onset → Onset → Bool
prior_of k l = ltb (2 * (k.at.num * l.at.den) + k.late) (2 * (l.at.num * k.at.den) + l.late)

unfoldable pub later_of : Onset → Onset → Onset
later_of k l = cond (prior_of k l) l k

unfoldable pub sooner_of : Onset → Onset → Onset
sooner_of k l = cond (prior_of l k) l k

-- ---- speeds

-- down at w
abbrev pub fall : ℕ → ℤ
fall w = negsuc (pred w)

abbrev pub speed_of : Heading → ℤ
speed_of (Up w) = pos w
speed_of (Down w) = fall w

abbrev pub Falls : Heading → Type 0
Falls (Up w) = w ≤ 63
Falls (Down w) = (0 < w) × (w ≤ 63)

pub record Headed (v : ℤ) (h : Heading) : Type 0 where
  pub is : v ≡ speed_of h
  pub short : Falls h

-- ---- cells

-- a cell of the grid, and some way beyond it
pub record Near (k : Cell) : Type 0 where
  pub column_in : k.column ≤ 5000
  pub row_in : k.row ≤ 5000

pub record Crosses (k r : Crossing) : Type 0 where
  pub is : r ≡ k
  pub ready : Ready r.when

-- out of cell k by the border that is left first
unfoldable pub turn_of : Onset → Onset → ℤ → ℤ → Cell → Crossing
turn_of lx ly u v k =
    cond (prior_of lx ly) (record { when = lx; cell = record { column = step u k.column; row = k.row } })
    (cond (prior_of ly lx) (record { when = ly; cell = record { column = k.column; row = step v k.row } })
    (record { when = lx; cell = record { column = step u k.column; row = step v k.row } }))

-- the next cell, entered when k is left
abbrev pub cross_of : Track → ℕ → Cell → Crossing
cross_of a s k = record { when = onset_of (exit a s k); cell = next a s k }

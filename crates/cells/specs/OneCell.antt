-- Whether one named cell holds a point of a trace (SHEETS 6.3), as a test, and when the trace enters it (SHEETS 6.4): the tip comes into its column and its row before it leaves one of them, and before its end.
-- Cuts of a tip's ages become cuts of the sheet's times in `entry` and `exit`. Nobody need believe this file: `has_point_true` and `has_point_false` in proofs/Entry.antt tie the test to `HasPoint`, `entry-time` the time to `EnteredAt`.
use Rattle.std.specs.Prelude.{Bool, ℕ, suc, ◌*◌, ◌-◌, ◌≤◌, ℤ, pos, negsuc}
use Rattle.std.proofs.Math.Decide.{dec_le}
use Rattle.std.proofs.Common.{arith}
use Rattle.fraction.specs.Time.{Time, fraction}
use Rattle.sheet.specs.declared.Track.{Track}
use Rattle.cells.specs.declared.Cell.{Cell}
use Rattle.cells.specs.Cut.{Cut, before, later, sooner, plusᶜ, past}

-- ---- passing the border at b

-- every age is after this
unfoldable pub start : Cut
start = record { num = 0; den = 1; late = 0; some = omega arith; late_bit = omega arith; late_den = omega arith }

unfoldable pub up : (x w b : ℕ) → Dec (b ≤ x) → Cut
up x w b (yes h) = start
up x w b (no h) = record { num = b - x; den = w; late = 0; some = omega arith; late_bit = omega arith; late_den = omega arith }

unfoldable pub down : (x w b : ℕ) → Dec (b ≤ x) → Cut
down x w b (yes h) = record { num = x - b; den = suc w; late = 1; some = omega arith; late_bit = omega arith; late_den = omega arith }
down x w b (no h) = start

-- upwards: the ages with the tip at b or above (at no speed: never, or always). Downwards: the ages with the tip below b
unfoldable pub border : ℕ → ℤ → ℕ → Cut
unfolding up down start dec_le
border x (pos w) b = up x w b (dec_le b x)
border x (negsuc w) b = down x w b (dec_le b x)

-- ---- coming into a column of side s and leaving it

unfoldable pub enter : ℕ → ℤ → ℕ → ℕ → Cut
enter x (pos w) s c = border x (pos w) (c * s)
enter x (negsuc w) s c = border x (negsuc w) (suc c * s)

unfoldable pub leave : ℕ → ℤ → ℕ → ℕ → Cut
leave x (pos w) s c = border x (pos w) (suc c * s)
leave x (negsuc w) s c = border x (negsuc w) (c * s)

-- ---- a cell, by age

-- from where on the tip is, or has been, in the column and in the row
unfoldable pub entryᵃ : Track → ℕ → Cell → Cut
entryᵃ a s k = later (enter a.x a.vx s k.column) (enter a.y a.vy s k.row)

unfoldable pub exitᵃ : Track → ℕ → Cell → Cut
exitᵃ a s k = sooner (leave a.x a.vx s k.column) (leave a.y a.vy s k.row)

-- ---- a cell, by the times of the sheet

unfoldable pub entry : Track → ℕ → Cell → Cut
entry a s k = plusᶜ a.start (entryᵃ a s k)

unfoldable pub exit : Track → ℕ → Cell → Cut
exit a s k = plusᶜ a.start (exitᵃ a s k)

-- the time of that cut (SHEETS 6.4)
unfoldable pub entry_time : Track → ℕ → Cell → Time
entry_time a s k = fraction (entry a s k).num (entry a s k).den

-- the trace of a up to T has a point in k
unfoldable pub has_point : Track → Time → ℕ → Cell → Bool
has_point a T s k = before (entry a s k) (sooner (exit a s k) (past T))

-- A step through a roll: the answer, the buffer's contents at exit, and where a session stands behind the rows.
use Rattle.std.specs.Prelude.{◌≡◌, List, ℕ, ◌+◌, ◌*◌, min, length, take, drop, Result, Ok, Err}
use Rattle.sheet.specs.Lent.{or_short, after}
use Rattle.sheet.specs.Returned.{Returned, gives, refusal}
use Rattle.rule.specs.declared.Row.{Row}
use Rattle.rule.specs.RowBytes.{roll_bytes, row_width}
use Rattle.cursor.specs.declared.NextRows.{NextRows}
use Rattle.roll_steps.specs.declared.NoRoom.{NoRoom}

-- the next n rows, or those left if fewer (SHEETS 7.2); more rows shown than the roll has are all of them (SHEETS 7.5)
abbrev pub next_of : List Row → ℕ → ℕ → List Row
next_of roll shown n = take n (drop shown roll)

-- the rows shown behind them
abbrev pub shown_then : List Row → ℕ → ℕ → ℕ
shown_then roll shown n = min shown (length roll) + length (next_of roll shown n)

-- their number, or 12 with their length (SHEETS 3.9)
abbrev pub step_returns : List Row → ℕ → Returned
step_returns rows lent = or_short (row_width * length rows) lent (length rows)

-- what a step gives, in the numbers of SHEETS 3.1
abbrev pub stepped : Result NextRows NoRoom → Returned
stepped (Ok step) = gives step.count
stepped (Err e) = refusal e.refusal

-- the step itself (SHEETS 7.2), of a refused one too
abbrev pub step_of : Result NextRows NoRoom → NextRows
step_of (Ok step) = step
step_of (Err e) = e.step

-- the rows shown behind a step, and those not yet shown (SHEETS 7.4)
pub record Stands (roll : List Row) (shown_before n : ℕ) (step : NextRows) : Type 0 where
  pub shown : step.shown ≡ shown_then roll shown_before n
  pub running : step.running ≡ length (drop step.shown roll)

pub record GoesOn (roll : List Row) (shown_before n : ℕ) (before exit : List ℕ) (r : Result NextRows NoRoom) : Type 0 where
  pub answer : stepped r ≡ step_returns (next_of roll shown_before n) (length before)
  pub stands : Stands roll shown_before n (step_of r)
  pub buffer : exit ≡ after (step_returns (next_of roll shown_before n) (length before)) (roll_bytes (next_of roll shown_before n)) before

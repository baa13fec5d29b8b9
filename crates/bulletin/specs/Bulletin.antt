-- What the bulletin shows of a sheet's bytes and prints: the front of the sheet's one roll, or its refusal (SHEETS 9.4).
use Rattle.std.specs.Prelude.{◌≡◌, List, [], ◌++◌, ℕ, ◌+◌, ◌*◌, length, take, drop}
use Rattle.sheet.specs.HandedIn.{sheet_of}
use Rattle.sheet.specs.Lent.{after}
use Rattle.sheet.specs.Listing.{listing}
use Rattle.sheet.specs.Returned.{Returned, accepted, gives, refused}
use Rattle.sheet.specs.Scan.{verdict_of, commands_of}
use Rattle.sheet.specs.Answer.{answered}
use Rattle.sheet_reader.specs.Reading.{records_of}
use Rattle.rule.specs.declared.Row.{Row}
use Rattle.rule.specs.RowBytes.{roll_bytes}
use Rattle.rule.specs.Selection.{roll_of}
use Rattle.bulletin.specs.declared.FirstRows.{FirstRows}
use Rattle.session.specs.Stepping.{begun, advance_returns, advance_session}
use Rattle.text.specs.Lines.{refused_of, still_of, longest_line, longest_still}
use Rattle.page.specs.Rows.{lines_of}

-- the first n rows of the roll, or all if it has fewer
abbrev pub first_rows : List ℕ → ℕ → List Row
first_rows s n = take n (roll_of (listing (commands_of s)))

abbrev pub first_returns : List ℕ → ℕ → ℕ → Returned
first_returns s n lent = advance_returns (verdict_of s) (first_rows s n) lent

-- the answer, the session that is left, and the buffer's contents at exit
pub record Shows (s : List ℕ) (n : ℕ) (before exit : List ℕ) (r : FirstRows) : Type 0 where
  pub answer : answered r.count ≡ first_returns s n (length before)
  pub session : r.session ≡ advance_session (first_returns s n (length before)) (begun (sheet_of (records_of s)))
  pub buffer : exit ≡ after (first_returns s n (length before)) (roll_bytes (first_rows s n)) before

-- the line of the number still running; no line where a call is refused
abbrev pub running_text : Returned → List ℕ
running_text accepted = []
running_text (gives n) = still_of n
running_text (refused n p) = []

-- a line for each of the first three rows, then the number of the rows behind them; or the refusal's line
unfoldable pub bulletin_for : Returned → List Row → List ℕ
bulletin_for accepted roll = lines_of (take 3 roll) ++ still_of (length (drop 3 roll))
bulletin_for (gives n) roll = []
bulletin_for (refused n p) roll = refused_of n p

-- the whole text for a sheet's bytes
abbrev pub bulletin_of : List ℕ → List ℕ
bulletin_of s = bulletin_for (verdict_of s) (roll_of (listing (commands_of s)))

-- how many bytes the longest has at most: three rows' lines and the number still running
abbrev pub bulletin_room : ℕ
bulletin_room = 3 * longest_line + longest_still

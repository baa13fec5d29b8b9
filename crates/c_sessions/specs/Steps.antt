-- A session as a slice of numbers, of which the first two are the rows shown and the number still running, and what each call on one
-- leaves (SHEETS 11.3, 11.4).
use Rattle.std.specs.Prelude.{cond, List, [], ◌∷◌, ℕ, ◌+◌, ◌*◌, min, ltb, length, take, drop, get_or}
use Rattle.sheet.specs.Lent.{and_then, or_short, after}
use Rattle.sheet.specs.Listing.{listing}
use Rattle.sheet.specs.Returned.{Returned, accepted, gives, refused}
use Rattle.sheet.specs.Scan.{verdict_of, commands_of}
use Rattle.rule.specs.declared.Row.{Row}
use Rattle.rule.specs.RowBytes.{roll_bytes, row_width}
use Rattle.rule.specs.Selection.{roll_of}
use Rattle.c_answers.specs.Answers.{number, other, told, leaves}

-- ---- the session

-- the numbers of a session
abbrev pub session_size : ℕ
session_size = 2

-- the first is the rows shown; what the second says counts for nothing (SHEETS 7.5)
abbrev pub shown : List ℕ → ℕ
shown session = get_or session 0 0

-- 12 with the size of a session where fewer numbers are lent (SHEETS 11.3)
unfoldable pub session_fits : List ℕ → Returned
session_fits session = cond (ltb (length session) session_size) (refused 12 session_size) accepted

-- the sheet is judged first, then the session
abbrev pub judge : List ℕ → List ℕ → Returned
judge s session = and_then (verdict_of s) (session_fits session)

abbrev pub roll_of_bytes : List ℕ → List Row
roll_of_bytes s = roll_of (listing (commands_of s))

-- the numbers of a session with k rows shown: the second is the number of those not yet shown (SHEETS 7.4)
abbrev pub numbers_at : List ℕ → ℕ → List ℕ
numbers_at s k = k ∷ (length (drop k (roll_of_bytes s)) ∷ [])

-- ---- its calls

-- open and reset: no row shown (SHEETS 7.1, 7.3, 11.4)
abbrev pub start_gives : List ℕ → List ℕ → Returned
start_gives s session = and_then (judge s session) (gives 0)

abbrev pub start_call : List ℕ → List ℕ → ℕ × ℕ × List ℕ
start_call s session = leaves (start_gives s session) (numbers_at s 0) session

-- the next n rows, or those left if fewer; more rows shown than the roll has are all of them (SHEETS 7.2, 7.5)
abbrev pub rows_behind : List ℕ → List ℕ → ℕ → List Row
rows_behind s session n = take n (drop (shown session) (roll_of_bytes s))

abbrev pub shown_then : List ℕ → List ℕ → ℕ → ℕ
shown_then s session n = min (shown session) (length (roll_of_bytes s)) + length (rows_behind s session n)

abbrev pub advance_gives : List ℕ → List ℕ → ℕ → ℕ → Returned
advance_gives s session n lent = let rows = rows_behind s session n in and_then (judge s session) (or_short (row_width * length rows) lent (length rows))

-- the two numbers, the session and the rows
abbrev pub advance_call : List ℕ → List ℕ → ℕ → List ℕ → ℕ × ℕ × List ℕ × List ℕ
advance_call s session n out =
    let R = advance_gives s session n (length out) in
    (number R, other R, after R (numbers_at s (shown_then s session n)) session, after R (roll_bytes (rows_behind s session n)) out)

-- the rows not yet shown (SHEETS 7.4)
abbrev pub running_gives : List ℕ → List ℕ → Returned
running_gives s session = and_then (judge s session) (gives (length (drop (shown session) (roll_of_bytes s))))

abbrev pub running_call : List ℕ → List ℕ → ℕ × ℕ
running_call s session = told (running_gives s session)

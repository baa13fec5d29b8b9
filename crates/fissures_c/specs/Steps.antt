-- A session as a slice of numbers, of which the first is the number of rows shown, and what each call on one leaves; a name as numbers (SHEETS 11.3 to 11.5).
use Rattle.std.specs.Prelude.{cond, ◌≡◌, Result, Ok, Err, List, [], ◌∷◌, ℕ, ◌+◌, ◌*◌, min, ltb, length, take, drop, get_or}
use Rattle.sheet.specs.Lent.{and_then, or_short, after}
use Rattle.sheet.specs.Returned.{Returned, accepted, gives, refused, refusal}
use Rattle.sheet.specs.declared.Refusal.{Refusal}
use Rattle.sheet.specs.HandedIn.{sheet_of}
use Rattle.sheet.specs.Listing.{listing}
use Rattle.sheet.specs.Scan.{verdict_of, commands_of}
use Rattle.rule.specs.declared.Ending.{Ending}
use Rattle.rule.specs.declared.Ending.TheVariants.{Edge}
use Rattle.rule.specs.declared.Row.{Row}
use Rattle.rule.specs.RowBytes.{roll_bytes, row_width}
use Rattle.rule.specs.Selection.{roll_of}
use Rattle.session.specs.declared.Session.{Session}
use Rattle.row.specs.Stored.{ending_from}
use Rattle.names.specs.Partner.{Part, of_tracks, of_walls, partner_name}
use Rattle.c_answers.specs.Answers.{number, other, told, leaves}

-- ---- the session

-- the numbers of a session: today one, the rows shown
abbrev pub session_size : ℕ
session_size = 1

abbrev pub shown : List ℕ → ℕ
shown session = get_or session 0 0

-- 12 with the size of a session where fewer numbers are lent (SHEETS 11.3)
unfoldable pub session_fits : List ℕ → Returned
session_fits session = cond (ltb (length session) session_size) (refused 12 session_size) accepted

-- the sheet is judged first, then the session
abbrev pub judge : List ℕ → List ℕ → Returned
judge s session = and_then (verdict_of s) (session_fits session)

-- the session that an accepted sheet and a slice stand for
abbrev pub session_of : List ℕ → List ℕ → Session
session_of s session = record { sheet = sheet_of (listing (commands_of s)); shown = shown session }

-- that session, or what is refused
abbrev pub Takes : List ℕ → List ℕ → Result Session Refusal → Type 0
Takes s session (Ok t) = (judge s session ≡ accepted) × (t ≡ session_of s session)
Takes s session (Err r) = judge s session ≡ refusal r

-- ---- its calls

-- open and reset: no row shown (SHEETS 7.1, 7.3, 11.4)
abbrev pub start_gives : List ℕ → List ℕ → Returned
start_gives s session = and_then (judge s session) (gives 0)

abbrev pub start_call : List ℕ → List ℕ → ℕ × ℕ × List ℕ
start_call s session = leaves (start_gives s session) (0 ∷ []) session

abbrev pub roll_of_bytes : List ℕ → List Row
roll_of_bytes s = roll_of (listing (commands_of s))

-- the next n rows, or those left if fewer; more rows shown than the roll has are all of them (SHEETS 7.2, 7.5)
abbrev pub rows_behind : List ℕ → List ℕ → ℕ → List Row
rows_behind s session n = take n (drop (shown session) (roll_of_bytes s))

abbrev pub shown_then : List ℕ → List ℕ → ℕ → ℕ
shown_then s session n = min (shown session) (length (roll_of_bytes s)) + length (rows_behind s session n)

abbrev pub advance_gives : List ℕ → List ℕ → ℕ → ℕ → Returned
advance_gives s session n lent = let rows = rows_behind s session n in and_then (judge s session) (or_short (row_width * length rows) lent (length rows))

-- the two numbers, the session and the rows
abbrev pub advance_call : List ℕ → List ℕ → ℕ → List ℕ → ℕ × ℕ × List ℕ × List ℕ
advance_call s session n out =
    let R = advance_gives s session n (length out) in
    (number R, other R, after R (shown_then s session n ∷ []) session, after R (roll_bytes (rows_behind s session n)) out)

-- the rows not yet shown (SHEETS 7.4)
abbrev pub running_gives : List ℕ → List ℕ → Returned
running_gives s session = and_then (judge s session) (gives (length (drop (shown session) (roll_of_bytes s))))

abbrev pub running_call : List ℕ → List ℕ → ℕ × ℕ
running_call s session = told (running_gives s session)

-- ---- a name

-- the list, 1 of tracks and 2 of walls, and the part's place and size in it
abbrev pub place_of : Part → ℕ × ℕ × ℕ
place_of (of_tracks start size) = (1, start, size)
place_of (of_walls start size) = (2, start, size)

-- the ending with a kind and a partner: no id is above 65535, so that a partner above it counts as none, as at the edge (SHEETS 11.5)
unfoldable pub ending_of : ℕ → ℕ → Ending
ending_of kind partner = cond (ltb 65535 partner) Edge (ending_from kind partner)

abbrev pub name_call : List ℕ → List ℕ → ℕ → ℕ → ℕ × ℕ × ℕ
name_call tracks walls kind partner = place_of (partner_name tracks walls (ending_of kind partner))

-- What the calls on a stepping session give and hand back (SHEETS 7, 3.8 to 3.10).
use Rattle.std.specs.Prelude.{◌≡◌, List, ℕ, ◌+◌, ◌*◌, min, length, take, drop, Result, Ok, Err}
use Rattle.sheet.specs.declared.Sheet.{Sheet}
use Rattle.sheet.specs.declared.Refusal.{Refusal}
use Rattle.sheet.specs.Lent.{and_then, or_short, after}
use Rattle.sheet.specs.Returned.{Returned, accepted, gives, refused, refusal, verdict}
use Rattle.sheet.specs.HandedIn.{handed_in, check_of}
use Rattle.rule.specs.declared.Row.{Row}
use Rattle.rule.specs.RowBytes.{roll_bytes, row_width}
use Rattle.rule.specs.Selection.{roll_of}
use Rattle.sheet.specs.Answer.{answered}
use Rattle.session.specs.declared.Session.{Session}
use Rattle.session.specs.declared.Unopened.{Unopened}

-- the one roll of a session's sheet (SHEETS 5.5, 7.1)
abbrev pub roll_in : Session → List Row
roll_in s = roll_of (handed_in s.sheet)

-- the rows not yet shown (SHEETS 7.4): none where more are shown than the roll has (SHEETS 7.5)
abbrev pub rows_left : Session → List Row
rows_left s = drop s.shown (roll_in s)

-- the rows of an advance by n (SHEETS 7.2)
abbrev pub next_rows : Session → ℕ → List Row
next_rows s n = take n (rows_left s)

-- the rows shown, at most those of the roll (SHEETS 7.5)
abbrev pub shown_in : Session → ℕ
shown_in s = min s.shown (length (roll_in s))

-- ---- open and reset

-- no row shown yet (SHEETS 7.1)
abbrev pub begun : Sheet → Session
begun sheet = record { sheet = sheet; shown = 0 }

-- what opening gives: the verdict on the sheet (SHEETS 7.5), and the session handed out, beside a refusal too (SHEETS 7.8)
abbrev pub Begins : Returned → Session → Result Session Unopened → Type 0
Begins v s (Ok t) = (v ≡ accepted) × (t ≡ s)
Begins v s (Err u) = (v ≡ refusal u.refusal) × (u.session ≡ s)

-- reset (SHEETS 7.3); a refused call leaves the very session (SHEETS 7.6)
unfoldable pub restart : Returned → Session → Session
restart accepted s = begun s.sheet
restart (gives n) s = begun s.sheet
restart (refused n p) s = s

-- what reset gives: the verdict on the sheet (SHEETS 7.5), and the session after it
pub record Restarts (s t : Session) (r : Result (Unit {0}) Refusal) : Type 0 where
  pub answer : verdict r ≡ check_of s.sheet
  pub session : t ≡ restart (check_of s.sheet) s

-- ---- advance

-- the number of rows that advance writes (SHEETS 7.2), or 12 with the length that this call needs (SHEETS 3.9)
abbrev pub advance_returns : Returned → List Row → ℕ → Returned
advance_returns v rows lent = and_then v (or_short (row_width * length rows) lent (length rows))

-- past the rows that were written (SHEETS 7.2, 7.6); a refused call leaves the very session
unfoldable pub advance_session : Returned → Session → Session
advance_session accepted s = s
advance_session (gives k) s = record { sheet = s.sheet; shown = shown_in s + k }
advance_session (refused n p) s = s

-- the session's sheet is judged as records are (SHEETS 7.5)
abbrev pub advance_of : Session → ℕ → ℕ → Returned
advance_of s n lent = advance_returns (check_of s.sheet) (next_rows s n) lent

-- the answer, the session and the buffer's contents after the call (SHEETS 7.2, 7.6, 3.10)
pub record Advances (s : Session) (n : ℕ) (before : List ℕ) (t : Session) (exit : List ℕ) (r : Result ℕ Refusal) : Type 0 where
  pub answer : answered r ≡ advance_of s n (length before)
  pub session : t ≡ advance_session (advance_of s n (length before)) s
  pub buffer : exit ≡ after (advance_of s n (length before)) (roll_bytes (next_rows s n)) before

-- ---- the number still running

-- the number of rows not yet shown (SHEETS 7.4)
abbrev pub running_of : Returned → Session → Returned
running_of v s = and_then v (gives (length (rows_left s)))

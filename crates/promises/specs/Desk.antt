-- What the duty desk relies on. It steps through the roll, and tips that end together keep one order at every refresh: after the same keys
-- on any order of the sheet's commands the same rows are shown and the cursor stands on the same fissure (SHEETS 7.7). Proved of every accepted sheet as `desk` in proofs/Desk.antt.
use Rattle.std.specs.Prelude.{◌≡◌, cond, List, [], ◌∷◌, ◌++◌, ℕ, ◌+◌, ◌-◌, ◌*◌, ◌≤◌, min, leb, length, take, drop, Result, Ok, Err}
use Rattle.sheet.specs.declared.Command.{Command}
use Rattle.sheet.specs.declared.Sheet.{Sheet}
use Rattle.sheet.specs.Format.{AllFit, encode_all}
use Rattle.sheet.specs.HandedIn.{handed_in, check_of, sheet_of}
use Rattle.sheet.specs.Listing.{listing, Reordered}
use Rattle.sheet.specs.Returned.{gives}
use Rattle.sheet.specs.Scan.{verdict_of}
use Rattle.sheet_reader.specs.Reading.{records_of}
use Rattle.rule.specs.declared.Row.{Row}
use Rattle.rule.specs.Roll.{RollOf}
use Rattle.rule.specs.RowBytes.{roll_bytes, row_width}
use Rattle.sheet.specs.declared.Refusal.{Refusal}
use Rattle.session.specs.declared.Session.{Session}
use Rattle.session.specs.declared.Unopened.{Unopened}
use Rattle.session.specs.Stepping.{begun, Begins, Restarts, Advances, next_rows, running_of}

-- ---- the keys and what they do

-- advance by n rows, with a buffer of `room` bytes; reset
pub data Key : Type 0 where
  advance : (n room : ℕ) → Key
  reset : Key

-- a session opened on the sheet of commands l: over bytes that list its records in any order, a start time of 0 by 01 or by 03, or over records (SHEETS 2.5, 7.1)
pub data Opened (l : List Command) (r : Result Session Unopened) : Type 0 where
  over_bytes : (k : List Command) → AllFit k → Reordered (listing l) (listing k) → Begins (verdict_of (encode_all k)) (begun (sheet_of (records_of (encode_all k)))) r → Opened l r
  over_records : (sheet : Sheet) → Reordered (listing l) (handed_in sheet) → Begins (check_of sheet) (begun sheet) r → Opened l r

-- the session that an opening hands out, beside a refusal too (SHEETS 7.8)
abbrev pub handed_out : Result Session Unopened → Session
handed_out (Ok s) = s
handed_out (Err u) = u.session

-- what an advance adds to the screen: the rows that it says it wrote
abbrev pub adds : Result ℕ Refusal → List ℕ → List ℕ
adds (Ok k) exit = take (row_width * k) exit
adds (Err r) exit = []

-- the session and the screen after some keys, the last key first; each call meets its contract. A reset clears the screen
pub data Pressed (l : List Command) : List Key → Session → List ℕ → Type 0 where
  opened : (r : Result Session Unopened) → Opened l r → Pressed l [] (handed_out r) []
  advanced :
      {keys : List Key} {s : Session} {screen : List ℕ} (n : ℕ) (before : List ℕ) (t : Session) (exit : List ℕ) (r : Result ℕ Refusal) → Pressed l keys s screen → Advances s n before t exit r
      → Pressed l (advance n (length before) ∷ keys) t (screen ++ adds r exit)
  restarted :
      {keys : List Key} {s : Session} {screen : List ℕ} (t : Session) (r : Result (Unit {0}) Refusal) → Pressed l keys s screen → Restarts s t r
      → Pressed l (reset ∷ keys) t []

-- ---- where the cursor stands

-- past k rows more, where the buffer has room for them
abbrev pub moved : ℕ → ℕ → ℕ → ℕ
moved room k at = cond (leb (row_width * k) room) (at + k) at

-- in a roll of m rows, after some keys: past the rows asked for since the last reset, or past all if there are fewer
unfoldable pub cursor : ℕ → List Key → ℕ
cursor m [] = 0
cursor m (reset ∷ keys) = 0
cursor m (advance n room ∷ keys) = moved room (min n (m - cursor m keys)) (cursor m keys)

-- ---- the statement

-- with the cursor at a place of the roll: the rows before it are on the screen, the next is the one there, and those from there on still run
pub record View (roll : List Row) (at : ℕ) (s : Session) (screen : List ℕ) : Type 0 where
  pub shown : screen ≡ roll_bytes (take at roll)
  pub next : next_rows s 1 ≡ take 1 (drop at roll)
  pub running : running_of (check_of s.sheet) s ≡ gives (length roll - at)

-- two sessions show the same rows, byte for byte, have the same next row, and give the same number still running
pub record SameView (s s' : Session) (screen screen' : List ℕ) : Type 0 where
  pub shown : screen ≡ screen'
  pub next : next_rows s 1 ≡ next_rows s' 1
  pub running : running_of (check_of s.sheet) s ≡ running_of (check_of s'.sheet) s'

pub record Desk (l : List Command) : Type 0 where
  -- the roll that the rule gives: by rising time, tips that end together by rising id
  pub roll : List Row
  pub is_roll : RollOf (listing l) roll
  -- every order of the commands opens
  pub opens : (r : Result Session Unopened) → Opened l r → (s : Session) × (r ≡ Ok s)
  -- after any keys the desk sees what the keys alone say
  pub view : {keys : List Key} {s : Session} {screen : List ℕ} → Pressed l keys s screen → View roll (cursor (length roll) keys) s screen
  -- so after the same keys two orders of the commands look the same
  pub same :
      {keys : List Key} {s s' : Session} {screen screen' : List ℕ} → Pressed l keys s screen → Pressed l keys s' screen'
      → SameView s s' screen screen'
  -- and so does a refresh: opened anew, and advanced by as many rows as had been shown
  pub refreshed :
      {keys : List Key} {room : ℕ} {s s' : Session} {screen screen' : List ℕ} → Pressed l keys s screen → Pressed l (advance s.shown room ∷ []) s' screen' → row_width * s.shown ≤ room
      → SameView s s' screen screen'

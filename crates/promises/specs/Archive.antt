-- What the archive relies on. It keeps sheets, and one that was read and written again is the same sheet; it keeps times as fractions, and
-- there is one fraction for one time (SHEETS 2.7, 5.3). Proved of the bytes of every accepted sheet as `archive` in proofs/Archive.antt.
use Rattle.std.specs.Prelude.{◌≡◌, List, ℕ, ◌≤◌, ◌<◌, length, take, Result, Ok}
use Rattle.fraction.specs.Lowest.{Lowest}
use Rattle.fraction.specs.Time.{◌≈ᵗ◌}
use Rattle.sheet.specs.declared.Command.{Command}
use Rattle.sheet.specs.declared.Sheet.{Sheet}
use Rattle.sheet.specs.Accepted.{Accepted}
use Rattle.sheet.specs.HandedIn.{handed_in}
use Rattle.sheet.specs.Listing.{listing, Reordered}
use Rattle.sheet.specs.Returned.{gives}
use Rattle.sheet.specs.Scan.{commands_of}
use Rattle.sheet_reader.specs.Reading.{ReadFrom}
use Rattle.sheet.specs.declared.Refusal.{Refusal}
use Rattle.sheet.specs.Answer.{answered}
use Rattle.sheet_writer.specs.Written.{write_of, buffer_after}
use Rattle.rule.specs.declared.Row.{Row}
use Rattle.rule.specs.Rows.{time}
use Rattle.promises.specs.Runs.{InRoll}

-- a call of the writer: the caller's buffer before and after it, and its answer, as its contract says
pub record Writes (sheet : Sheet) (before exit : List ℕ) (w : Result ℕ Refusal) : Type 0 where
  pub answer : answered w ≡ write_of sheet (length before)
  pub buffer : exit ≡ buffer_after sheet before

-- a sheet that was read, and written to the bytes `file`
pub record Again (sheet : Sheet) (file : List ℕ) : Type 0 where
  -- what is written is accepted when it is read
  pub accepts : (q : Result Sheet Refusal) → ReadFrom file q → (read : Sheet) × (q ≡ Ok read)
  -- it has the records that were read first
  pub same : (read : Sheet) → ReadFrom file (Ok read) → Reordered (handed_in sheet) (handed_in read)
  -- and written once more it gives the same bytes
  pub still :
      (read : Sheet) {before exit : List ℕ} {w : Result ℕ Refusal} → ReadFrom file (Ok read) → Writes read before exit w → length file ≤ length before
      → take (length file) exit ≡ file

-- the sheet in the bytes s was read, and then written (SHEETS 2.6, 2.7)
pub record Kept (s : List ℕ) (sheet : Sheet) (exit : List ℕ) (w : Result ℕ Refusal) : Type 0 where
  -- in no more bytes: a start time of 0 that s lists by 03 is written by 01
  pub size : ℕ
  pub no_longer : size ≤ length s
  pub answer : answered w ≡ gives size
  -- and that is the same sheet
  pub again : Again sheet (take size exit)

pub record Archive (s : List ℕ) : Type 0 where
  -- the sheet is read
  pub reads : (q : Result Sheet Refusal) → ReadFrom s q → (read : Sheet) × (q ≡ Ok read)
  -- a sheet that was read can be written
  pub kept :
      (read : Sheet) {before exit : List ℕ} {w : Result ℕ Refusal} → ReadFrom s (Ok read) → Writes read before exit w → length s ≤ length before
      → Kept s read exit w
  -- the time in each row of the sheet is a fraction in lowest terms
  pub lowest : (r : Row) → InRoll (commands_of s) r → (0 < r.at.den) × Lowest r.at.num r.at.den
  -- and the same time in a row of any other sheet is the same fraction
  pub one-fraction :
      (l : List Command) → Accepted (listing l) → (r q : Row) → InRoll (commands_of s) r → InRoll l q → time r ≈ᵗ time q
      → (r.at.num ≡ q.at.num) × (r.at.den ≡ q.at.den)
